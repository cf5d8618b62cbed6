-- The laws of code page 037.
pub mod PageLaws
