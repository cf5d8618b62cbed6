pub mod LexLaws
pub mod KeyLaws
pub mod BytesLaws
pub mod RunLaws
pub mod PrefixLaws
pub mod SharedLaws
