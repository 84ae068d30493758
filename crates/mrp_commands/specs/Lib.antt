-- Commands of the planner: what is given with them, and in which range.
pub mod Given
pub mod Range
