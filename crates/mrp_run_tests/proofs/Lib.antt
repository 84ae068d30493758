-- Tests of runs, lanes and agents: their proofs.
mod Handing
pub mod Opening
mod Feeding
