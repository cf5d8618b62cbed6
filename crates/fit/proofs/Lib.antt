-- Laws of the causes 11 to 14.
pub mod FitLaws
