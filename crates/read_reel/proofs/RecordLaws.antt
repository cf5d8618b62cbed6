-- The record that the code writes is the record of what the reel means. Assumes nothing.
use mathlib.Core.Path.{◌≡◌, refl, sym, ap, ap₂, ◌∙◌}
use mathlib.Core.List.{List, [], ◌++◌, map, append_assoc, append-nil}
use Prim.Native.Nat.{ℕ, zero, suc, ◌+◌, ◌-◌}
use lib.ListN.{length, length-append}
use Rattle.numbers.specs.Terms.{Bytes}
use Rattle.numbers.specs.Walk.{walk, flat, bytes_at, overwritten}
use Rattle.numbers.specs.Places.{byte_place}
use Rattle.numbers.specs.BigEndian.{bytes_of}
use Rattle.numbers.proofs.WalkLaws.{size_walk}
use Rattle.reel.specs.Layout.{card_bytes, first_trace, trace_header, samples_of, interval_of, code_of, stride_by, traces_by}
use Rattle.reel.specs.Meaning.{card_text_by, binary_numbers, trace_number, header_of, trace_meaning, meaning_by}
use Rattle.reel.specs.declared.Layout.{Layout}
use Rattle.record.specs.Record.{field, binary_bytes, trace_bytes_in, trace_bytes, record_of_in, record_by}
use Rattle.record.specs.Form.{binary_size, code_place}
use Rattle.record.proofs.HeaderLaws.{size_text}
use Rattle.record.proofs.StoredLaws.{size_binary, code_stored}
use Rattle.read_samples.specs.Samples.{places}
use Rattle.read_reel.specs.Copied.{tag_bytes, fields_copied, head_copied, samples_copied, record_trace_copied, record_copied}
use Rattle.read_reel.proofs.CopiedLaws.{field_is}
use Rattle.headers.specs.Header.{header_bytes}
use Rattle.headers.proofs.HeaderBytes.{size_header}

-- ## The first two fields

head_is : (k : Layout) (s : List ℕ) → Bytes s → head_copied k s ≡ field 1 (card_text_by k s) ++ field 2 (binary_bytes 0 (binary_numbers s))
unfolding head_copied fields_copied binary_numbers
head_is k s h =
    let cards = tag_bytes 1 card_bytes ++ card_text_by k s in
    let front = cards ++ tag_bytes 2 binary_size in
    let copy = bytes_at s (byte_place 0 3201) binary_size in
    let binary = binary_bytes 0 (binary_numbers s) in
    let joined : tag_bytes 1 card_bytes ++ (card_text_by k s ++ (tag_bytes 2 binary_size ++ copy)) ≡ front ++ (copy ++ []) = sym (append_assoc cards (tag_bytes 2 binary_size) copy) ∙ ap (λ (l : List ℕ). front ++ l) (sym (append-nil copy)) in
    let size : code_place ≡ length front + (3225 - 3201) = simp (length-append, size_text) in
    ap (λ (l : List ℕ). overwritten l code_place (bytes_of 2 0)) joined
    ∙ code_stored s h 0 0 front [] code_place size
    ∙ ap (λ (l : List ℕ). front ++ l) (append-nil binary)
    ∙ append_assoc cards (tag_bytes 2 binary_size) binary
    ∙ sym (ap₂ (λ (x y : List ℕ). x ++ y) (field_is 1 card_bytes (card_text_by k s) (size_text k s)) (field_is 2 binary_size binary (size_binary s h 0 0)))

-- ## Traces

module _ (s : List ℕ) (code n i : ℕ) where
  trace_is : (at : ℕ) → trace_bytes (trace_meaning s code n i at) ≡ record_trace_copied s code n i at
  unfolding trace_bytes_in trace_meaning record_trace_copied samples_copied
  trace_is at =
      let header = header_bytes (header_of (trace_number s n i at)) in
      let samples = samples_copied s code n (at + trace_header) in
      ap (λ (x : List ℕ). x ++ samples) (field_is 3 180 header (size_header (trace_number s n i at))) ∙ append_assoc (tag_bytes 3 180) header samples

  traces_walk : (w k at : ℕ) → flat (map trace_bytes (walk (trace_meaning s code n i) w k at)) ≡ flat (map (record_trace_copied s code n i) (places w k at))
  traces_walk w zero at = refl
  traces_walk w (suc k) at = ap₂ (λ (x y : List ℕ). x ++ y) (trace_is at) (traces_walk w k (at + w))

-- ## The record

pub record_is : (k : Layout) (s : List ℕ) → Bytes s → record_by k s ≡ record_copied k s (code_of s) (samples_of s) (interval_of s) (stride_by k s) (traces_by k s)
unfolding record_of_in meaning_by record_copied
record_is k s b =
    let code = code_of s in
    let n = samples_of s in
    let i = interval_of s in
    let w = stride_by k s in
    let t = traces_by k s in
    let z = traces_walk s code n i w t first_trace in
    let v : field 5 (bytes_of 4 (length (walk (trace_meaning s code n i) w t first_trace))) ≡ tag_bytes 5 4 ++ bytes_of 4 t =
    ap (λ (x : ℕ). field 5 (bytes_of 4 x)) (size_walk (trace_meaning s code n i) w t first_trace) ∙ field_is 5 4 (bytes_of 4 t) refl in
    sym (append_assoc (field 1 (card_text_by k s)) (field 2 (binary_bytes 0 (binary_numbers s))) _)
    ∙ ap₂ (λ (x y : List ℕ). x ++ y) (sym (head_is k s b)) (ap₂ (λ (x y : List ℕ). x ++ y) z v)
