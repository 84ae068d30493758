-- Master data of a table, and how they are spelled, proofs.
pub mod Apart
pub mod Cuts
pub mod Decimals
pub mod SpelledLists
pub mod Mapped
pub mod Ranges
pub mod RuleTexts
pub mod Shares
pub mod Wholes
pub mod Written
pub mod Fewer
pub mod Found
pub mod Grow
pub mod Keys
pub mod Lists
pub mod Naming
pub mod LimitFacts
