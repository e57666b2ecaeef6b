-- Laws of a run of any jobs, on any ticks of ours: what runs, what is left, when jobs finish; limit, share, fits and late over jobs. From the ground up.
pub mod JobWindows
pub mod RunLaws
pub mod WorkLaws
pub mod FinishLaws
pub mod JumpLaws
pub mod PlaceLaws
pub mod LoadLaws
pub mod UptoLaws
pub mod FitsOfJobs
pub mod EndLaws
pub mod LaterLaws
pub mod Facts
pub mod LateOfJobs
pub mod LimitOfJobs
