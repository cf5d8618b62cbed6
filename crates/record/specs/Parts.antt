-- Parts of the causes against a record, for the functions that find them.
use Rattle.std.specs.Prelude.{ℕ, zero, suc, ◌+◌, ◌*◌, List, eqb, get_or, Option, Some, None}
use Rattle.numbers.specs.Walk.{pick, walk}
use Rattle.numbers.specs.Cause.{then, first_of}
use Rattle.numbers.specs.Cause.{Check}
use Rattle.fields.specs.Fields.{in_fields}
use Rattle.value.specs.Pair.{pair_length}
use Rattle.write_samples.specs.Samples.{samples_checked}
use Rattle.record.specs.Kind.{tag04}
use Rattle.record.specs.Form.{field_head, to_samples, field_cause, header_causes, pair_cause_in, share_in, trace_form_in, behind_trace_in, end_causes}

-- 13 against the first of n pairs from a place on that isn't canonical; under a target code 13 or 14 against the first that has one, and 11
-- where the code is none (`samples_checked`).
unfoldable pub pairs_by : Option ℕ → List ℕ → ℕ → ℕ → Check
pairs_by None s n at = first_of (walk (pair_cause_in tag04 s) pair_length n at)
pairs_by (Some code) s n at = samples_checked s code n at

-- A field of `count` samples: 12, then its pairs.
unfoldable pub field_by : Option ℕ → List ℕ → ℕ → ℕ → Check
field_by target s count at = then (field_cause s 4 (count * pair_length) at) (pairs_by target s count (at + field_head))

-- n samples in fields of c.
unfoldable pub fields_by : Option ℕ → List ℕ → ℕ → ℕ → ℕ → Check
fields_by target s c n at = first_of (in_fields (field_by target s) pair_length c n at)

-- A trace: 12 and 13 of its header, then its samples by its own form.
unfoldable pub trace_by : Option ℕ → List ℕ → ℕ → ℕ → ℕ → Check
trace_by target s n i at = then (header_causes s n i at) (fields_by target s (share_in tag04 s n (at + to_samples)) n (at + to_samples))

-- From the place `at` on, behind t traces, where at most `left` more are counted: the form of what follows, a trace at a time.
unfoldable pub form_from : List ℕ → ℕ → ℕ → ℕ → ℕ → ℕ → Check
form_from s n i zero t at = end_causes s t at
form_from s n i (suc left) t at =
    pick (eqb (get_or s at 0) 3) (then (trace_form_in tag04 s n i at) (form_from s n i left (t + 1) (behind_trace_in tag04 s n at))) (end_causes s t at)
