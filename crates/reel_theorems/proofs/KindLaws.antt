-- What the laws ask of a kind of sample fields, and that tag 04, with six-byte pairs, has it. Assumes nothing.
use mathlib.Core.Path.{◌≡◌, refl, ap, ◌∙◌}
use mathlib.Core.Bool.{true}
use mathlib.Core.List.{List}
use Prim.Native.Nat.{ℕ, ◌*◌, ◌^◌, ◌<◌}
use native.Mathlib.Omega.{arith}
use lib.Dec.{lit<}
use lib.ListN.{length}
use lib.IntN.{ℤ}
use Rattle.numbers.specs.BigEndian.{bytes_of}
use Rattle.numbers.proofs.ByteLaws.{bytes_of_lem}
use Rattle.value.specs.Pair.{pair_of, value_of, is_canonical, pair_bytes, pair_in}
use Rattle.value.specs.declared.Pair.{Pair}
use Rattle.sample_theorems.proofs.Pairs.{pair_value, value_pair_back, bytes_pair, pair_bytes_lem}
use Rattle.numbers.specs.Terms.{Bytes}
use Rattle.numbers.proofs.AllLaws.{all_append}
use Rattle.record.specs.Kind.{Kind, tag04}
use Rattle.record.specs.Record.{field_samples}

-- A value that a record can hold.
abbrev pub Good : ℤ → Type 0
Good v = is_canonical (pair_of v) ≡ true

-- Records can be written in a kind of sample fields: two bytes hold the length of a full field, each value that a record can hold has its
-- pair, and a canonical pair is that of its value.
pub record Writes (k : Kind) : Type 0 where
  pub some : 0 < k.width
  pub room : field_samples * k.width < 256 ^ 2
  pub tag_byte : k.tag < 256
  pub size : (v : ℤ) → length (k.bytes v) ≡ k.width
  pub are_bytes : (v : ℤ) → Bytes (k.bytes v)
  pub taken : (v : ℤ) → Good v → k.canonical (k.bytes v) ≡ true
  pub again : (v : ℤ) → Good v → k.value (k.bytes v) ≡ v
  pub back : (b : List ℕ) → length b ≡ k.width → Bytes b → k.canonical b ≡ true → k.bytes (k.value b) ≡ b

pub tag04_writes : Writes tag04
tag04_writes =
    record {
      some = omega arith;
      room = lit< tt;
      tag_byte = omega arith;
      size = λ v. refl;
      are_bytes = λ v. all_append (λ b. b < 256) (bytes_of 2 _) (bytes_of 4 _) (bytes_of_lem 2 _) (bytes_of_lem 4 _);
      taken = λ v g. ap is_canonical (bytes_pair (pair_of v) g) ∙ g;
      again = λ v g. ap value_of (bytes_pair (pair_of v) g) ∙ pair_value v;
      back = λ b n h c. ap (λ (p : Pair). pair_bytes p.e p.m) (value_pair_back (pair_in b) c) ∙ pair_bytes_lem b n h;
    }
