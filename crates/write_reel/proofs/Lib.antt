pub mod CopiedLaws
pub mod ReelLaws
pub mod WriteLaws
