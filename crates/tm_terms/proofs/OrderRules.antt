-- Operations whose operands may change places.
use Rattle.std.proofs.Common.{◌≡◌, ℕ, ◌%◌, ◌^◌, ◌==◌, List, refl, sym, ap, ◌∙◌, arith, false, mul_comm}
use Rattle.std.proofs.lemmas.Nat.{and_comm, or_comm, xor_comm}
use Rattle.std.proofs.lemmas.Bool.Decides.{nat_tests}
use Rattle.tm_terms.specs.declared.sort.Sort.{Sort}
use Rattle.tm_terms.specs.declared.op.TermId.{TermId}
use Rattle.tm_terms.specs.declared.op.Op.{Op}
use Rattle.tm_terms.specs.declared.op.Op.TheVariants.{And, Or, Equal, Add, Mul, BitAnd, BitOr, BitXor}
use Rattle.tm_terms.specs.Words.{width_of}
use Rattle.jv_list.specs.Numbers.{bit_number}
use Rattle.tm_terms.specs.Terms.{term_value, op_sort, Fits, is_free}
use Rattle.tm_terms.specs.Rules.{Replaces, named_of}

eq-comm : (x y : ℕ) → bit_number (y == x) ≡ bit_number (x == y)
eq-comm x y = grind (arith, nat_tests)

module _ (ops : List Op) (a b : TermId) where
  pub and_ordered : Fits ops (And a b) → Replaces ops (And a b) (And b a)
  and_ordered fits = record {
    fits = record { below = (fits.below.1, fits.below.0); sorts = (fits.sorts.1, fits.sorts.0) };
    sort = refl;
    value = λ v. ap (λ (n : ℕ). n % 2) (omega arith);
    kept = refl;
  }

  pub or_ordered : Fits ops (Or a b) → Replaces ops (Or a b) (Or b a)
  or_ordered fits = record {
    fits = record { below = (fits.below.1, fits.below.0); sorts = (fits.sorts.1, fits.sorts.0) };
    sort = refl;
    value = λ v. ap (λ (n : ℕ). n % 2) (omega arith);
    kept = refl;
  }

  pub equal_ordered : Fits ops (Equal a b) → Replaces ops (Equal a b) (Equal b a)
  equal_ordered fits = record {
    fits = record { below = (fits.below.1, fits.below.0); sorts = sym fits.sorts };
    sort = refl;
    value = λ v. ap (λ (n : ℕ). n % 2) (eq-comm (term_value ops v a.0) (term_value ops v b.0));
    kept = refl;
  }

  -- one of words, whose sort is that of the first
  word-ordered : (op : TermId → TermId → Op) → Fits ops (op b a) → op_sort ops (op b a) ≡ op_sort ops (op a b)
      → ((v : List ℕ) → named_of ops v (op b a) ≡ named_of ops v (op a b)) → is_free (op b a) ≡ false
      → Replaces ops (op a b) (op b a)
  word-ordered op fits sort named kept = record {
    fits = fits;
    sort = sort;
    value = λ v. ap (λ (n : ℕ). n % 2 ^ width_of (op_sort ops (op b a))) (named v)
        ∙ ap (λ (s : Sort). named_of ops v (op a b) % 2 ^ width_of s) sort;
    kept = kept;
  }

  pub add_ordered : Fits ops (Add a b) → Replaces ops (Add a b) (Add b a)
  add_ordered fits = word-ordered Add (record { below = (fits.below.1, fits.below.0); sorts = sym fits.sorts })
      fits.sorts
      (λ v. omega arith) refl

  pub mul_ordered : Fits ops (Mul a b) → Replaces ops (Mul a b) (Mul b a)
  mul_ordered fits = word-ordered Mul (record { below = (fits.below.1, fits.below.0); sorts = sym fits.sorts })
      fits.sorts
      (λ v. mul_comm (term_value ops v b.0) (term_value ops v a.0)) refl

  pub bit_and_ordered : Fits ops (BitAnd a b) → Replaces ops (BitAnd a b) (BitAnd b a)
  bit_and_ordered fits =
      word-ordered BitAnd (record { below = (fits.below.1, fits.below.0); sorts = sym fits.sorts }) fits.sorts
      (λ v. and_comm (term_value ops v b.0) (term_value ops v a.0)) refl

  pub bit_or_ordered : Fits ops (BitOr a b) → Replaces ops (BitOr a b) (BitOr b a)
  bit_or_ordered fits =
      word-ordered BitOr (record { below = (fits.below.1, fits.below.0); sorts = sym fits.sorts }) fits.sorts
      (λ v. or_comm (term_value ops v b.0) (term_value ops v a.0)) refl

  pub bit_xor_ordered : Fits ops (BitXor a b) → Replaces ops (BitXor a b) (BitXor b a)
  bit_xor_ordered fits =
      word-ordered BitXor (record { below = (fits.below.1, fits.below.0); sorts = sym fits.sorts }) fits.sorts
      (λ v. xor_comm (term_value ops v b.0) (term_value ops v a.0)) refl

pub ruleset ordered_rules = (
  and_ordered,
  or_ordered,
  equal_ordered,
  add_ordered,
  mul_ordered,
  bit_and_ordered,
  bit_or_ordered,
  bit_xor_ordered,
)
