-- Operations on equal or opposite operands that are constants.
use Rattle.std.proofs.Common.{◌≡◌, ℕ, ◌+◌, ◌-◌, ◌%◌, ◌^◌, ◌<◌, ◌==◌, List, Some}
use Rattle.std.proofs.Common.{refl, sym, ap, ◌∙◌, arith, false, lit<, ℤ, pos, negsuc}
use Rattle.std.specs.Prelude.{slice_get, nat_lt, int_lt}
use Rattle.std.specs.Int.Bits.{xor_self}
use Rattle.std.proofs.Math.Nat.{mod-eq_of_lt, mod_self}
use Rattle.std.proofs.lemmas.Nat.{pow_pos}
use Rattle.std.proofs.lemmas.Bool.Decides.{nat_tests}
use Rattle.tm_terms.specs.declared.sort.Sort.TheVariants.{Bool as Truth}
use Rattle.tm_terms.specs.declared.op.TermId.{TermId}
use Rattle.tm_terms.specs.declared.op.Op.{Op}
use Rattle.tm_terms.specs.declared.op.Op.TheVariants.{Const, Not, And, Or, Equal, Sub, BitXor, Less, Below}
use Rattle.tm_terms.specs.Words.{width_of}
use Rattle.jv_list.specs.Numbers.{bit_number, signed_number}
use Rattle.tm_terms.specs.Terms.{term_sort, term_value, op_sort, Fits, AreTerms}
use Rattle.tm_terms.specs.Rules.{IsKnown, AreOpposite, Replaces, named_of}
use Rattle.tm_terms.proofs.TermLemmas.{value-below}
use Rattle.tm_terms.proofs.SameLemmas.{truth-below}
use Rattle.tm_terms.proofs.MakeLemmas.{value-stands}

-- the number that is named, where it is below the power
known-by : (ops : List Op) (op : Op) (k : ℕ) → k < 2 ^ width_of (op_sort ops op) →
    ((v : List ℕ) → named_of ops v op ≡ k)
    → IsKnown ops op k
known-by ops op k below named = record {
  within = below;
  value = λ v. ap (λ (n : ℕ). n % 2 ^ width_of (op_sort ops op)) (named v) ∙ mod-eq_of_lt below;
}

-- no number is below itself
int_lt-itself : (x : ℤ) → int_lt x x ≡ false
int_lt-itself (pos n) = grind (arith, nat_tests)
int_lt-itself (negsuc n) = grind (arith, nat_tests)

nat_lt-itself : (x : ℕ) → bit_number (nat_lt x x) ≡ 0
nat_lt-itself x = grind (arith, nat_tests)

-- each is itself
eq-itself : (x : ℕ) → bit_number (x == x) ≡ 1
eq-itself x = grind (arith, nat_tests)

-- what is left of a number less itself
sub-itself : (x p : ℕ) → x < p → (x + (p - x)) % p ≡ 0
sub-itself x p h = let e : x + (p - x) ≡ p = omega arith in ap (λ (n : ℕ). n % p) e ∙ mod_self p

module _ (ops : List Op) (a b : TermId) (equal : b ≡ a) where
  pub sub_equal : IsKnown ops (Sub a b) 0
  sub_equal = record {
    within = pow_pos _;
    value = λ v. rw equal (sub-itself (term_value ops v a.0) (2 ^ width_of (term_sort ops a.0))
        (value-below ops v a.0));
  }

  pub xor_equal : IsKnown ops (BitXor a b) 0
  xor_equal = known-by ops (BitXor a b) 0 (pow_pos _) (λ v. rw equal (xor_self (term_value ops v a.0)))

  pub equal_equal : IsKnown ops (Equal a b) 1
  equal_equal = known-by ops (Equal a b) 1 (lit< tt) (λ v. rw equal (eq-itself (term_value ops v a.0)))

  pub below_equal : IsKnown ops (Below a b) 0
  below_equal = known-by ops (Below a b) 0 (lit< tt) (λ v. rw equal (nat_lt-itself (term_value ops v a.0)))

  pub less_equal : IsKnown ops (Less a b) 0
  less_equal = known-by ops (Less a b) 0 (lit< tt) (λ v.
      rw equal (ap bit_number (int_lt-itself (signed_number (width_of (term_sort ops a.0)) (term_value ops v a.0)))))

-- a truth value and its opposite, either way round
module _ (ops : List Op) (terms : AreTerms ops) (a b : TermId) where
  pub opposite_second : slice_get ops b.0 ≡ Some (Not a) → AreOpposite ops a b
  opposite_second e = record { value = λ v. value-stands ops terms b.0 (Not a) e v refl }

  pub opposite_first : term_sort ops b.0 ≡ Truth → slice_get ops a.0 ≡ Some (Not b) → AreOpposite ops a b
  opposite_first sort e = record {
    value = λ v.
        let n = truth-below ops v b.0 sort in
        omega (arith, value-stands ops terms a.0 (Not b) e v refl);
  }

module _ (ops : List Op) (a b : TermId) (opposite : AreOpposite ops a b) where
  pub and_opposite : Fits ops (And a b) → IsKnown ops (And a b) 0
  and_opposite fits = known-by ops (And a b) 0 (lit< tt) (λ v.
      omega (arith, opposite.value v, truth-below ops v a.0 fits.sorts.0))

  pub or_opposite : Fits ops (Or a b) → IsKnown ops (Or a b) 1
  or_opposite fits = known-by ops (Or a b) 1 (lit< tt) (λ v.
      omega (arith, opposite.value v, truth-below ops v a.0 fits.sorts.0))

-- so the constant stands for the operation
pub known-replaces : (ops : List Op) (op : Op) (k : ℕ) → IsKnown ops op k → Replaces ops op (Const (op_sort ops op) k)
known-replaces ops op k known = record {
  fits = record { below = tt; sorts = tt };
  sort = refl;
  value = λ v. mod-eq_of_lt known.within ∙ sym (known.value v);
  kept = refl;
}

pub ruleset known_rules = (sub_equal, xor_equal, equal_equal, below_equal, less_equal, and_opposite, or_opposite)
