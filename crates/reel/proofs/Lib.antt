pub mod CheckLaws
pub mod JudgedLaws
pub mod NotNormalLaws
