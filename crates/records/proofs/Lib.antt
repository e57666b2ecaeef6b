-- Laws of the check of a release record.
pub mod ReleaseRecordLaws
