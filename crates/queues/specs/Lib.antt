-- Jobs in columns and the searches over their queues, the check of a frame, and the largest ticks of a run.
pub mod Queues
pub mod Framed
pub mod TickBounds
