-- A run over cases, turn by turn.
pub mod RunLaws
