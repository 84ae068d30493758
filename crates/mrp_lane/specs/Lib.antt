-- A lane's mailbox between threads, and its two ends.
pub mod Views
pub mod Tallies
pub mod Ends
pub mod Reconciled
pub mod Laws
