-- `reel::check_words` meets its contract. Assumes nothing.
use Rattle.std.proofs.Common.{◌≡◌, ◌+◌, ◌*◌, sym, ap, ◌∙◌}
use Rattle.reel.proofs.CheckLaws.{four_bytes_long, word_refused_lem}
use Rattle.reel.specs.Parts.{word_refused}
use Rattle.reel.specs.Causes.{word_cause}
use Rattle.numbers.specs.Walk.{bytes_at}
use Rattle.numbers.proofs.CauseLaws.{none_more, none_stop}
use Rattle.numbers.proofs.WalkLaws.{four_bytes}
use Rattle.formats.specs.Codes.{word_length}
use Rattle.sample.specs.Reading.{sampled, read_word}
use Rattle.reel.proofs.check_words.Goals.{After-read-word}
use Rattle.reel.proofs.check_words.Goals as goal

-- the word's cause, by what reading it gives
cause : (c : After-read-word) → let at = c.args.start + c.loop-i.i * 4 in word_refused (sampled c.read-word.result) at ≡ word_cause c.args.reel.now c.args.code at
cause c =
    let a = c.args in
    let at = a.start + c.loop-i.i * 4 in
    ap (λ w. word_refused w at) (c.read-word.ensures ∙ ap (read_word a.code) (sym (four_bytes a.reel.now at)))
    ∙ word_refused_lem a.code (bytes_at a.reel.now at word_length) at (four_bytes_long a.code c.requires.0 c.requires.1).0

pub returns-in-loop-i : goal.returns-in-loop-i
returns-in-loop-i c =
    let g = (goal.at.returns-in-loop-i c).After-read-word in
    let a = c.args in
    let at = a.start + c.loop-i.i * 4 in
    none_stop (word_cause a.reel.now a.code) 4 a.n a.start c.loop-i.i c.loop-i-test.true c.loop-i.invariant (sym (cause g) ∙ ap (λ w. word_refused (sampled w) at) c.in-Err.is)

pub loop-i-preserved : goal.loop-i-preserved
loop-i-preserved c =
    let g = (goal.at.loop-i-preserved c).After-read-word in
    let a = c.args in
    let at = a.start + c.loop-i.i * 4 in
    none_more (word_cause a.reel.now a.code) 4 a.n a.start c.loop-i.i c.loop-i-test.true c.loop-i.invariant (sym (cause g) ∙ ap (λ w. word_refused (sampled w) at) c.in_default.is)
