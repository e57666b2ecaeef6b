-- Laws of jobs in queues: the searches, the job that runs and the oldest unfinished jobs, the columns of work left and of finish ticks, frames, and how a run begins.
pub mod SearchedLaws
pub mod HeadLaws
pub mod ColumnLaws
pub mod LeftColumnLaws
pub mod FinishColumnLaws
pub mod FramedLaws
pub mod RunCallLaws
