-- Laws of the scan of a file.
pub mod ScanLaws
pub mod ReadColumnLaws
