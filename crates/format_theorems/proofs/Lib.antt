-- The theorems about formats.
pub mod IeeeWords
pub mod OneFit
pub mod NormalWords
pub mod WordTheorems
pub mod DistanceLaws
pub mod NearestTheorems
pub mod NearestEdges
pub mod Edges
