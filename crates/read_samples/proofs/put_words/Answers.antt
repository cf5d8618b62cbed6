-- `read_samples::put_words` meets its contract. Assumes nothing.
use Rattle.std.proofs.Common.{ℕ, ◌+◌, ◌*◌, ◌≤◌, List, [], ◌∷◌, length, get_or, sym, refl, ap, ◌∙◌, rules, arith}
use Rattle.formats.specs.Codes.{code_no, sample_bytes}
use Rattle.formats.specs.Value.{exact_value}
use Rattle.value.specs.Pair.{pair_of}
use Rattle.value.specs.declared.Pair.{Pair}
use Rattle.read_samples.specs.Samples.{sample_pairs}
use Rattle.read_samples.specs.Parts.{pairs_content}
use Rattle.read_samples.proofs.SampleLaws.{words_read, bytes_read, two_bytes, one_byte}
use Rattle.read_samples.proofs.put_words.Goals as goal

pub returns-in-Ibm : goal.returns-in-Ibm
returns-in-Ibm c =
    let a = c.args in
    let pair : List ℕ → Pair = λ w. pair_of (exact_value 1 w) in
    let k = c.width.ensures.0 ∙ ap (λ k. sample_bytes (code_no k)) c.in-Ibm.is in
    let e = ap (λ w. a.at + a.n * w) k in
    let l : a.at + a.n * c.width.result ≤ length a.reel.now = rw (c.width.ensures.0) c.requires.there in
    c.put_samples.ensures pair (λ w r k. search rules)
    ∙ ap (pairs_content pair) c.as_chunks.ensures.front
    ∙ words_read a.reel.now 1 a.n a.at (a.at + a.n * c.width.result) e l 4 pair (omega arith) refl (λ p. refl)
    ∙ ap (λ k. sample_pairs a.reel.now (code_no k) a.n a.at) (sym c.in-Ibm.is)

pub returns-in-Whole32 : goal.returns-in-Whole32
returns-in-Whole32 c =
    let a = c.args in
    let pair : List ℕ → Pair = λ w. pair_of (exact_value 2 w) in
    let k = c.width.ensures.0 ∙ ap (λ k. sample_bytes (code_no k)) c.in-Whole32.is in
    let e = ap (λ w. a.at + a.n * w) k in
    let l : a.at + a.n * c.width.result ≤ length a.reel.now = rw (c.width.ensures.0) c.requires.there in
    c.put_samples-in-Whole32.ensures pair (λ w r k. search rules)
    ∙ ap (pairs_content pair) c.as_chunks-in-Whole32.ensures.front
    ∙ words_read a.reel.now 2 a.n a.at (a.at + a.n * c.width.result) e l 4 pair (omega arith) refl (λ p. refl)
    ∙ ap (λ k. sample_pairs a.reel.now (code_no k) a.n a.at) (sym c.in-Whole32.is)

pub returns-in-Whole16 : goal.returns-in-Whole16
returns-in-Whole16 c =
    let a = c.args in
    let pair : List ℕ → Pair = λ w. pair_of (exact_value 3 (get_or w 0 0 ∷ get_or w 1 0 ∷ 0 ∷ 0 ∷ [])) in
    let k = c.width.ensures.0 ∙ ap (λ k. sample_bytes (code_no k)) c.in-Whole16.is in
    let e = ap (λ w. a.at + a.n * w) k in
    let l : a.at + a.n * c.width.result ≤ length a.reel.now = rw (c.width.ensures.0) c.requires.there in
    c.put_samples-in-Whole16.ensures pair (λ w r k. search rules)
    ∙ ap (pairs_content pair) c.as_chunks-in-Whole16.ensures.front
    ∙ words_read a.reel.now 3 a.n a.at (a.at + a.n * c.width.result) e l 2 pair (omega arith) refl (two_bytes a.reel.now)
    ∙ ap (λ k. sample_pairs a.reel.now (code_no k) a.n a.at) (sym c.in-Whole16.is)

pub returns-in-Gain : goal.returns-in-Gain
returns-in-Gain c =
    let a = c.args in
    let pair : List ℕ → Pair = λ w. pair_of (exact_value 4 w) in
    let k = c.width.ensures.0 ∙ ap (λ k. sample_bytes (code_no k)) c.in-Gain.is in
    let e = ap (λ w. a.at + a.n * w) k in
    let l : a.at + a.n * c.width.result ≤ length a.reel.now = rw (c.width.ensures.0) c.requires.there in
    c.put_samples-in-Gain.ensures pair (λ w r k. search rules)
    ∙ ap (pairs_content pair) c.as_chunks-in-Gain.ensures.front
    ∙ words_read a.reel.now 4 a.n a.at (a.at + a.n * c.width.result) e l 4 pair (omega arith) refl (λ p. refl)
    ∙ ap (λ k. sample_pairs a.reel.now (code_no k) a.n a.at) (sym c.in-Gain.is)

pub returns-in-Ieee : goal.returns-in-Ieee
returns-in-Ieee c =
    let a = c.args in
    let pair : List ℕ → Pair = λ w. pair_of (exact_value 5 w) in
    let k = c.width.ensures.0 ∙ ap (λ k. sample_bytes (code_no k)) c.in-Ieee.is in
    let e = ap (λ w. a.at + a.n * w) k in
    let l : a.at + a.n * c.width.result ≤ length a.reel.now = rw (c.width.ensures.0) c.requires.there in
    c.put_samples-in-Ieee.ensures pair (λ w r k. search rules)
    ∙ ap (pairs_content pair) c.as_chunks-in-Ieee.ensures.front
    ∙ words_read a.reel.now 5 a.n a.at (a.at + a.n * c.width.result) e l 4 pair (omega arith) refl (λ p. refl)
    ∙ ap (λ k. sample_pairs a.reel.now (code_no k) a.n a.at) (sym c.in-Ieee.is)

pub returns-in-Whole8 : goal.returns-in-Whole8
returns-in-Whole8 c =
    let a = c.args in
    let pair : ℕ → Pair = λ w. pair_of (exact_value 8 (w ∷ 0 ∷ 0 ∷ 0 ∷ [])) in
    let k = c.width.ensures.0 ∙ ap (λ k. sample_bytes (code_no k)) c.in-Whole8.is in
    let e = ap (λ w. a.at + a.n * w) k in
    let l : a.at + a.n * c.width.result ≤ length a.reel.now = rw (c.width.ensures.0) c.requires.there in
    c.put_samples-in-Whole8.ensures pair (λ w r k. search rules)
    ∙ bytes_read a.reel.now 8 a.n a.at (a.at + a.n * c.width.result) e l pair refl (one_byte a.reel.now)
    ∙ ap (λ k. sample_pairs a.reel.now (code_no k) a.n a.at) (sym c.in-Whole8.is)
