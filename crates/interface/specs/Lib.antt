-- What passes between C and the calls: sheets as numbers, refusals as codes, answers as words.
pub mod Interface
pub mod TaskNumbers
pub mod SlotsLast
