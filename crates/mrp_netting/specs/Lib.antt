-- Netting one pair: its plan by definition, and the laws of it.
pub mod PlanRows
pub mod Bound
pub mod One
pub mod Rules
pub mod Plan
pub mod PlanningData
pub mod PlanningBound
pub mod Counting
pub mod PlanningLaws
pub mod OpenOrders
pub mod WorkedPairs
