-- When two statements hold in the same cases.

-- A and B hold in the same cases.
abbrev pub Iff : Type 0 → Type 0 → Type 0
Iff A B = (A → B) × (B → A)
