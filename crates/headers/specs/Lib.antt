-- A trace header as a record holds it, and 13 against its scalars; and the groups of a header in their bytes.
pub mod Header
pub mod Parts
