-- A run over cases, turn by turn. Assumes nothing.
use Rattle.std.proofs.Common.{ℕ, ◌+◌, replicate, subst}
use Rattle.std.proofs.lemmas.Fn.{FoldsTo-push}
use Rattle.std.proofs.lemmas.List.{replicate_more}
use Rattle.std.specs.List.{FoldsTo}

-- One more turn, that answered the same.
pub FoldsTo-replicate_more : {F A : Type 0} (step : F → A → F → Type 0) (n : ℕ) (a : A) (f g h : F) → FoldsTo step f (replicate n a) g → step g a h → FoldsTo step f (replicate (n + 1) a) h
FoldsTo-replicate_more step n a f g h before last = subst (λ l. FoldsTo step f l h) (replicate_more n a) (FoldsTo-push step f (replicate n a) g a h before last)
