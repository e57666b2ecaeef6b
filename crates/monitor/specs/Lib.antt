-- The last 256 jobs: the lent window, what the calls answer, and what holds after any calls.
pub mod Layout
pub mod MonitorCalls
pub mod AfterAnyCalls
pub mod SameOpening
