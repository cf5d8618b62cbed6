pub mod PairLaws
pub mod WordLaws
pub mod CallLaws
