-- Tests of the library and its reports: tables worked by hand, computed.
mod WorkedFacts
mod FirmOrderFacts
mod PolicyFacts
mod UsageFacts
mod VendorFacts
mod PumpsFacts
pub mod ShortFacts
mod FrameFacts
