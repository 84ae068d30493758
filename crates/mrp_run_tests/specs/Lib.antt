-- Tests of runs, lanes and agents: what they need of contracts.
pub mod Hands
pub mod Feeding
