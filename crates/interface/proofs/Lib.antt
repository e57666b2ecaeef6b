-- Laws of what passes between C and the calls: codes, lent words, order of checks, numbers of tasks. From the ground up.
pub mod InterfaceLaws
pub mod AnswerOrderLaws
pub mod SameNumbers
pub mod TaskNumberLaws
