-- A lane's mailbox between threads, proofs: of the mailbox and its two ends.
pub mod Rule
pub mod Counting
pub mod Ending
pub mod Joined
