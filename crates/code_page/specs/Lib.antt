-- Code pages, and code page 037.
pub mod Page
