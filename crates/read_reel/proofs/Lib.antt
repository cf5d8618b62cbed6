pub mod CopiedLaws
pub mod RecordLaws
pub mod ReadLaws
