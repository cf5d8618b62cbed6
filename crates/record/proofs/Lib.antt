-- Laws of header numbers and their bytes.
pub mod HeaderLaws
pub mod FormLaws
pub mod JudgedLaws
pub mod StoredLaws
pub mod AlikeLaws
