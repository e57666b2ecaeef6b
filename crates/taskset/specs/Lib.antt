pub mod TaskSet
