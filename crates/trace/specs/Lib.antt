-- The calls with a list: what they look at, and the shapers of the tasks.
pub mod Standing
pub mod TraceCalls
