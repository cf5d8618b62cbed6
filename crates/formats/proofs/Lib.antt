-- The laws of formats: which characteristics serve a value, its place, its words, the six codes, and normal words.
pub mod Powers
pub mod FitLaws
pub mod PlacedLaws
pub mod CodeLaws
pub mod WordLaws
pub mod GainLaws
pub mod NormalLaws
pub mod DifferLaws
pub mod RoundLaws
pub mod NearestLaws
pub mod NearestSteps
