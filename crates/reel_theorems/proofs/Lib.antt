pub mod KindLaws
pub mod SampleFields
pub mod Same
pub mod Refusals
pub mod Output
