-- The laws that every crate uses, each stated once, over the width or the index.
pub mod BoolLaws
pub mod WalkLaws
pub mod LowFirst
pub mod ChunkLaws
pub mod AllLaws
pub mod CauseLaws
pub mod RowLaws
pub mod SaidLaws
pub mod Filling
pub mod ByteLaws
pub mod SignLaws
pub mod Magnitudes
pub mod Multiples
pub mod FirstLaws
pub mod FromFn
pub mod PlaceLaws
pub mod TableLaws
