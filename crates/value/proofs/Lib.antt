pub mod Twos
pub mod Pairs
pub mod PlaceLaws
pub mod WrittenLaws
pub mod Apart
pub mod PartsLaws
pub mod PairBytes
pub mod NearLaws
