-- The laws of decimal text, and of a line that is put together from its front.
pub mod DecimalLaws
pub mod DecimalTheorem
pub mod LineLaws
pub mod Examples
