-- A field of a header as the layout of a reel names it.
pub mod HeaderField
