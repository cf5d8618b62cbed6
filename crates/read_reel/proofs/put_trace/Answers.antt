-- `read_reel::put_trace` meets its contract. Assumes nothing.
use Rattle.std.proofs.Common.{◌+◌, ◌*◌, ◌≤◌, ◌++◌, ap, length, refl, sym, ◌∙◌, arith}
use Rattle.count_words.proofs.CountLaws.{fit_counted}
use Rattle.read_reel.proofs.CopiedLaws.{size_trace, size_in_fields}
use Rattle.headers.specs.Header.{header_bytes}
use Rattle.headers.proofs.HeaderBytes.{size_header}
use Rattle.headers.proofs.CopiedLaws.{header_read_lem}
use Rattle.reel.specs.Meaning.{trace_number, header_of}
use Rattle.read_reel.specs.Copied.{tag_bytes, samples_copied, record_trace_copied}
use Rattle.reel.specs.Layout.{trace_header}
use Rattle.formats.specs.Codes.{sample_bytes}
use Rattle.numbers.proofs.Filling.{start, lend, close}
use Rattle.read_reel.proofs.put_trace.Goals as goal

pub returns : goal.returns
unfolding record_trace_copied
returns c =
    let a = c.args in
    let o = a.own in
    let s = a.reel.now in
    let y = header_bytes (header_of (trace_number s o.samples o.interval a.at)) in
    let z = samples_copied s o.code o.samples (a.at + trace_header) in
    let w₀ = start _ a.out.now (c.requires.1 ∙ sym (size_trace s o.code o.samples o.interval a.at)) in
    let w₁ = lend (tag_bytes 3 180) (y ++ z) 3 w₀ (omega arith) refl c.put_tag.ensures in
    let w₂ = lend y z 183 w₁ (omega arith) (size_header (trace_number s o.samples o.interval a.at)) (c.read_header.ensures ∙ header_read_lem s o.samples o.interval a.at _ (omega (arith, c.requires.0)) (omega arith)) in
    let filled = close z _ w₂ w₂.within (size_in_fields s o.code o.samples (a.at + trace_header) ∙ omega (arith, w₂.size, w₀.size)) c.put_samples.ensures in
    let room : a.at + trace_header + o.samples * sample_bytes o.code ≤ length s = omega (arith, ap (λ x. o.samples * x) o.width_is) in
    (c.count_words.ensures ∙ fit_counted s o.code o.samples (a.at + trace_header) o.samples_most room, filled)
