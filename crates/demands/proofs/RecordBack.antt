-- # The record of a meaning is valid, in the newest form, and holds it again
--
-- The record of a proper meaning has the length that documents 01 and 02 (CR 8) set, N, the interval and T in it are those of the meaning,
-- no cause of 12 and 13 applies to it, no trace of it is read in the earlier form, and it holds that meaning. Nothing else is assumed.
use mathlib.Core.Path.{◌≡◌}
use Prim.Native.Nat.{ℕ}
use lib.ListN.{length}
use Rattle.numbers.specs.Terms.{Bytes}
use Rattle.numbers.specs.Cause.{Fine}
use Rattle.reel.specs.Meaning.{Meaning}
use Rattle.record.specs.Kind.{tag04}
use Rattle.record.specs.Record.{record_of, record_length}
use Rattle.record.specs.Form.{held_samples, held_interval, held_count, form_causes}
use Rattle.record.specs.Held.{held_by, IsNewest}
use Rattle.reel_theorems.proofs.KindLaws.{tag04_writes}
use Rattle.demands.proofs.Proper.{Proper}
use Rattle.demands.proofs.FormBack as back

module _ (n i : ℕ) (m : Meaning) (p : Proper n i m) where
  -- LAW. A record of T traces of N samples is 3273 + T × (183 + 3F + 6N) bytes, with F fields of samples a trace.
  pub record_length_lem : length (record_of m) ≡ record_length (length m.traces) n
  record_length_lem = back.record_length_lem tag04 tag04_writes n i m p

  -- LAW. The record is a list of bytes.
  pub record_bytes : Bytes (record_of m)
  record_bytes = back.record_bytes tag04 tag04_writes n i m p

  -- LAW. N, the interval and T in the record are those of the meaning.
  pub record_samples : held_samples (record_of m) ≡ n
  record_samples = back.record_samples tag04 tag04_writes n i m p

  pub record_interval : held_interval (record_of m) ≡ i
  record_interval = back.record_interval tag04 tag04_writes n i m p

  pub record_traces : held_count (record_of m) n ≡ length m.traces
  record_traces = back.record_traces tag04 tag04_writes n i m p

  -- LAW. The record is valid: neither 12 nor 13 applies to it.
  pub record_no_cause : form_causes (record_of m) ≡ Fine
  record_no_cause = back.record_no_cause tag04 tag04_writes n i m p

  -- LAW. It is in the newest form.
  pub record_newest : IsNewest (record_of m)
  record_newest = back.record_newest tag04 tag04_writes n i m p

  -- LAW. The record holds the meaning.
  pub record_again : held_by (record_of m) ≡ m
  record_again = back.record_again tag04 tag04_writes n i m p
