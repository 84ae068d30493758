-- The world of all plants on one thread: what its contracts cite.
pub mod Driving
pub mod Enabled
pub mod Figures
pub mod Headline
pub mod World
pub mod Moves
pub mod PlansLocal
pub mod Mailbox
pub mod Gathering
pub mod Moments
pub mod Showing
