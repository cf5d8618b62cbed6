-- What is known of an input that is cut short, and how a run over cases ends.
pub mod Cases
-- The line of a call that is refused.
pub mod Refused
