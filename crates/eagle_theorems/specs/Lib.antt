-- What the theorems about Eagle reels are stated with: the table of the call, what it gives, and the plain reel of an Eagle reel.
pub mod EagleTable
pub mod PlainReel
pub mod Results
