-- The fields of the two headers, and what the call's parts have to do with its outcome.
pub mod FieldLaws
pub mod CallLaws
