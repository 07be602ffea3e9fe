-- Powers of two: a number of which one bit is set is one, and numbers moved by powers of two.
use Rattle.std.proofs.Common.{◌≡◌, ◌<◌, ◌≤◌, ◌+◌, ◌*◌, ◌/◌, ◌%◌, ◌^◌, ℕ, IsTrue, zero, suc, refl}
use Rattle.std.proofs.Common.{sym, ap, ◌∙◌, arith, inl, inr}
use Rattle.std.specs.Int.{is_power_of_two}
use Rattle.std.specs.Int.RustNames.{count_ones}
use Rattle.std.proofs.Math.Nat.{pow-le-pow_right, mod-lt}
use Rattle.std.proofs.Math.Pow.{pow-lt}
use Rattle.std.proofs.lemmas.Bool.{eqb-true, cases_lt}
use Rattle.std.proofs.lemmas.Nat.{ones_cat, zero_from_ones, shr_split}
use Rattle.jv_list.proofs.NumberLemmas.{double_power}

pub record IsPower (n : ℕ) : Type 0 where
  pub exponent : ℕ
  pub is : n ≡ 2 ^ exponent

no_ones : count_ones 0 ≡ 0
unfolding count_ones
no_ones = refl

one_one : count_ones 1 ≡ 1
unfolding count_ones
one_one = refl

-- the two parts of a number that has one bit set
split_power : (h r n : ℕ) → h * 2 + r ≡ n → r < 2 → count_ones h + count_ones r ≡ 1 → (count_ones h ≡ 1 → IsPower h)
    → IsPower n
split_power h zero n e lt one rest =
    let none = no_ones in
    let half = rest (omega (arith, one, none)) in
    record {
      exponent = suc half.exponent;
      is = (let f : n ≡ 2 * h = omega (arith, e) in f) ∙ ap (λ (m : ℕ). 2 * m) half.is ∙ double_power half.exponent;
    }
split_power h (suc zero) n e lt one rest =
    let none : h ≡ 0 = zero_from_ones h (let i = one_one in omega (arith, i, one)) in
    record { exponent = 0; is = (let f : n ≡ 1 = omega (arith, e, none) in f) }
split_power h (suc (suc r)) n e lt one rest = absurd (omega (arith, lt))

power_within : (fuel n : ℕ) → n ≤ fuel → count_ones n ≡ 1 → IsPower n
power_within zero n le one =
    let none : n ≡ 0 = omega (arith, le) in
    absurd (let e : count_ones n ≡ 0 = ap count_ones none ∙ no_ones in omega (arith, e, one))
power_within (suc fuel) zero le one = absurd (let none = no_ones in omega (arith, none, one))
power_within (suc fuel) (suc n) le one =
    let h = suc n / 2 in
    let r = suc n % 2 in
    let whole : h * 2 + r ≡ suc n = shr_split (suc n) 1 in
    let lt : r < 2 = mod-lt (suc n) (omega arith) in
    split_power h r (suc n) whole lt (sym (ones_cat 1 h r lt) ∙ ap count_ones whole ∙ one)
    (λ half. power_within fuel h (omega (arith, whole, le)) half)

pub power_of : (n : ℕ) → IsTrue (is_power_of_two n) → IsPower n
power_of n is = power_within n n (omega arith) (eqb-true (count_ones n) 1 is)

pub power_below : (i m : ℕ) → 2 ^ i < 2 ^ m → i < m
power_below i m lt =
    elim (cases_lt i m) [
      | inl is ↦ is
      | inr le ↦
          absurd (let more = pow-le-pow_right {n = 2} (omega arith) {i = m} {j = i} le in omega (arith, lt, more))
    ]

pub next_power : (i m n : ℕ) → n ≡ 2 ^ m → 2 ^ i < n → 2 * 2 ^ i ≤ n
next_power i m n is lt =
    let below = power_below i m (omega (arith, is, lt)) in
    let more = pow-le-pow_right {n = 2} (omega arith) {i = suc i} {j = m} below in
    let double = double_power i in
    omega (arith, is, more, double)

pub power_same : (i m : ℕ) → 2 ^ i ≡ 2 ^ m → i ≡ m
power_same i m e =
    elim (cases_lt i m) [
      | inl lt ↦ absurd (let below = pow-lt {i = i} {j = m} lt in omega (arith, e, below))
      | inr le ↦
          elim (cases_lt m i) [
            | inl lt ↦ absurd (let below = pow-lt {i = m} {j = i} lt in omega (arith, e, below))
            | inr ge ↦ omega (arith, le, ge)
          ]
    ]

pub below_power : (i : ℕ) → i < 2 ^ i
below_power zero = let one : 0 < 2 ^ 0 = omega arith in one
below_power (suc i) =
    let less = below_power i in let double = double_power i in omega (arith, less, double)
