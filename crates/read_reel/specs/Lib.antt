-- What reading a reel says and leaves in its output; and the record as the code writes it.
pub mod Reading
pub mod Copied
