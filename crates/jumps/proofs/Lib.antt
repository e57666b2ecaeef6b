-- Laws of the run that jumps: the next start tick, the state from moment to moment, and the call.
pub mod WakeLaws
pub mod MomentLaws
pub mod JumpCallLaws
