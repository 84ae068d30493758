-- Advice: exception messages for open orders, and when these are needed.
pub mod OpenOrders
pub mod Needed
pub mod PlainNeeds
pub mod Actions
pub mod Beyond
pub mod Advice
pub mod Lacking
pub mod Gathered
pub mod AdviceRows
pub mod AdviceLines
pub mod AdviceSheets
pub mod AdviceLaws
pub mod BeyondLaws
pub mod WorkedOrders
