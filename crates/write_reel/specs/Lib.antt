-- The reel of a meaning, and what writing a record as a reel, exactly or to the nearest, says and leaves in its output; and the reel as the
-- code writes it.
pub mod Reel
pub mod Writing
pub mod Nearest
pub mod Copied
