-- What an opening and a commit answer.
pub mod BoardCalls
