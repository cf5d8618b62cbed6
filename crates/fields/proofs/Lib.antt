pub mod FieldsLaws
pub mod EachLaws
