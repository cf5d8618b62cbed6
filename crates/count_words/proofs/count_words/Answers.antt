-- `count_words::count_words` meets its contract. Assumes nothing.
use Rattle.std.proofs.Common.{◌≡◌, ℕ, ◌+◌, ◌*◌, ◌≤◌, true, false, List, length, sym, ap, ◌∙◌, refl, rules}
use Rattle.count_words.proofs.CountLaws.{words_pass, exact_is, none_is, fit_counted, too_many, not_there, other_code}
use Rattle.count_words.specs.Counted.{words_counted}
use Rattle.reel.specs.Causes.{most_samples}
use Rattle.reel.specs.NotNormal.{not_normal_in}
use Rattle.count_words.specs.Parts.{passing_words}
use borrow.Author.Tests.{leb-true}
use Rattle.count_words.proofs.count_words.Goals as goal

pub returns-then-code-ne1 : goal.returns-then-code-ne1
returns-then-code-ne1 c = let a = c.args in sym (other_code a.reel.now a.code a.n a.start.0 c.if-code-ne1.true)

pub returns-then-n-gt-MOST_SAMPLES : goal.returns-then-n-gt-MOST_SAMPLES
returns-then-n-gt-MOST_SAMPLES c = let a = c.args in sym (too_many a.reel.now a.code a.n a.start.0 c.if-n-gt-MOST_SAMPLES.true)

pub returns-then-not-are_within : goal.returns-then-not-are_within
returns-then-not-are_within c =
    let a = c.args in
    sym (not_there a.reel.now a.code a.n a.start.0 (rw c.if-code-ne1.false (sym c.are_within.ensures ∙ c.if-not-are_within.true)))

-- words of code 1 that are there are counted
counted : (s : List ℕ) (code n at : ℕ) → code ≡ 1 → n ≤ most_samples → at + n * 4 ≤ length s → words_counted s code n at ≡ not_normal_in s 1 n at
counted s code n at one few room = ap (λ (k : ℕ). words_counted s k n at) one ∙ fit_counted s 1 n at few room

pub returns-then-count_passing-eq0 : goal.returns-then-count_passing-eq0
returns-then-count_passing-eq0 c =
    let a = c.args in
    let room = leb-true (a.start.0 + a.n * 4) (length a.reel.now) (sym c.are_within.ensures ∙ c.if-not-are_within.false) in
    let passed = c.count_passing.ensures false (λ x r k. search rules) in
    let cut = ap (passing_words false) c.as_chunks.ensures.front ∙ words_pass false a.reel.now a.n a.start.0 (a.start.0 + a.n * 4) refl room in
    sym (counted a.reel.now a.code a.n a.start.0 c.if-code-ne1.false c.if-n-gt-MOST_SAMPLES.false room
    ∙ none_is a.reel.now (λ i. (c.type_inv.reel i).fits) a.n a.start.0 (sym (passed ∙ cut) ∙ c.if-count_passing-eq0.true))

pub returns : goal.returns
returns c =
    let a = c.args in
    let room = leb-true (a.start.0 + a.n * 4) (length a.reel.now) (sym c.are_within.ensures ∙ c.if-not-are_within.false) in
    let passed = c.count_passing-2.ensures true (λ x r k. search rules) in
    let cut = ap (passing_words true) c.as_chunks.ensures.front ∙ words_pass true a.reel.now a.n a.start.0 (a.start.0 + a.n * 4) refl room in
    passed ∙ cut ∙ exact_is a.reel.now (λ i. (c.type_inv.reel i).fits) a.n a.start.0
    ∙ sym (counted a.reel.now a.code a.n a.start.0 c.if-code-ne1.false c.if-n-gt-MOST_SAMPLES.false room)
