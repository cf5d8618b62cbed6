-- `write_samples::put_rounded` meets its contract. Assumes nothing.
use Rattle.std.proofs.Common.{rules}
use Rattle.value.specs.Writing.{nearest_pair}
use Rattle.write_samples.proofs.put_rounded.Goals as goal

pub returns-in-Ibm : goal.returns-in-Ibm
returns-in-Ibm c =
    let e = c.put_nearest.ensures in
    rw c.in-Ibm.is (record { count = e.count (nearest_pair 1) (λ p r k. search rules); words = e.words (nearest_pair 1) (λ p r k. search rules) })

pub returns-in-Whole32 : goal.returns-in-Whole32
returns-in-Whole32 c =
    let e = c.put_nearest-in-Whole32.ensures in
    rw c.in-Whole32.is (record { count = e.count (nearest_pair 2) (λ p r k. search rules); words = e.words (nearest_pair 2) (λ p r k. search rules) })

pub returns-in-Whole16 : goal.returns-in-Whole16
returns-in-Whole16 c =
    let e = c.put_nearest-in-Whole16.ensures in
    rw c.in-Whole16.is (record { count = e.count (nearest_pair 3) (λ p r k. search rules); words = e.words (nearest_pair 3) (λ p r k. search rules) })

pub returns-in-Gain : goal.returns-in-Gain
returns-in-Gain c =
    let e = c.put_nearest-in-Gain.ensures in
    rw c.in-Gain.is (record { count = e.count (nearest_pair 4) (λ p r k. search rules); words = e.words (nearest_pair 4) (λ p r k. search rules) })

pub returns-in-Ieee : goal.returns-in-Ieee
returns-in-Ieee c =
    let e = c.put_nearest-in-Ieee.ensures in
    rw c.in-Ieee.is (record { count = e.count (nearest_pair 5) (λ p r k. search rules); words = e.words (nearest_pair 5) (λ p r k. search rules) })

pub returns-in-Whole8 : goal.returns-in-Whole8
returns-in-Whole8 c =
    let e = c.put_nearest-in-Whole8.ensures in
    rw c.in-Whole8.is (record { count = e.count (nearest_pair 8) (λ p r k. search rules); words = e.words (nearest_pair 8) (λ p r k. search rules) })
