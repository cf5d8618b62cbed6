-- What the C functions hand back, from what the calls answer. Assumes nothing.
use mathlib.Core.Path.{◌≡◌, ap, ◌∙◌}
use mathlib.Core.List.{List}
use Prim.Native.Nat.{ℕ}
use Rattle.numbers.specs.Outcome.{Said, Outcome}
use Rattle.record.specs.Answer.{said_by, outcome, counted_by, counted_outcome}
use Rattle.std.proofs.Common.{Result, Bool}
use Rattle.numbers.specs.declared.Refusal.{Refusal}
use Rattle.record.specs.declared.Taken.{Taken}
use Rattle.record.specs.declared.Counted.{Counted}
use Rattle.sample.specs.Calls as single
use Rattle.listing.specs.Calls as calls
use Rattle.aukpocket.specs.Interface.{Handed, handed, reel_answer, ReelHanded, reel_in, reel_handed, listing_answer, listing_handed, sample_answer, word_answer, sample_in, sample_handed, word_handed}
use Rattle.aukpocket.specs.declared.ReelAnswer.{ReelAnswer}
use Rattle.aukpocket.specs.declared.SampleAnswer.{SampleAnswer}

pub reel_handed_lem : (r : ReelAnswer) (answer : Result Taken Refusal) (out : List ℕ) (o : Outcome) → handed r ≡ reel_answer (said_by answer) → outcome answer out ≡ o → reel_in r out ≡ reel_handed o
reel_handed_lem r answer out o p q = ap (λ (a : Handed ReelAnswer). record { answer = a; bytes = out }) p ∙ ap reel_handed q

-- of a call with a count, by what is made of what it says: `read_answer` or `nearest_answer`
pub counted_handed : (f : Said → Handed ReelAnswer) (r : ReelAnswer) (answer : Result Counted Refusal) (out : List ℕ) (o : Outcome) → handed r ≡ f (counted_by answer) → counted_outcome answer out ≡ o
    → ◌≡◌ {A = ReelHanded} (reel_in r out) (record { answer = f o.said; bytes = o.bytes })
counted_handed f r answer out o p q =
    ap (λ (a : Handed ReelAnswer). record { answer = a; bytes = out }) p ∙ ap (λ (x : Outcome). record { answer = f x.said; bytes = x.bytes }) q

pub listing_handed_lem : (r : ReelAnswer) (answer : Result ℕ Refusal) (out : List ℕ) (o : Outcome) → handed r ≡ listing_answer (calls.said_by answer) → calls.listed answer out ≡ o
    → reel_in r out ≡ listing_handed o
listing_handed_lem r answer out o p q = ap (λ (a : Handed ReelAnswer). record { answer = a; bytes = out }) p ∙ ap listing_handed q

pub sample_handed_lem : (r : SampleAnswer) (answer : Result (Unit {0}) Refusal) (bytes : List ℕ) (o : Outcome) → handed r ≡ sample_answer (single.said_by answer)
    → record { said = single.said_by answer; bytes = bytes } ≡ o → sample_in r bytes ≡ sample_handed o
sample_handed_lem r answer bytes o p q = ap (λ (a : Handed SampleAnswer). record { answer = a; bytes = bytes }) p ∙ ap sample_handed q

pub word_handed_lem : (r : SampleAnswer) (answer : Result Bool Refusal) (bytes : List ℕ) (o : Outcome) → handed r ≡ word_answer (single.word_said answer)
    → record { said = single.word_said answer; bytes = bytes } ≡ o → sample_in r bytes ≡ word_handed o
word_handed_lem r answer bytes o p q = ap (λ (a : Handed SampleAnswer). record { answer = a; bytes = bytes }) p ∙ ap word_handed q
