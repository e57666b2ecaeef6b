-- Records read from a file.
pub mod RecordIn
