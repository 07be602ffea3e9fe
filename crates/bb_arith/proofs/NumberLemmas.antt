-- Numbers of words, a bit more at a time.
use Rattle.std.proofs.Common.{◌≡◌, ◌<◌, ◌+◌, ◌*◌, ◌^◌, ℕ, Bool, true, false, not, ◌||◌, List, [], ◌∷◌, ◌++◌, length}
use Rattle.std.proofs.Common.{nat_lt, refl, sym, ◌∙◌, arith, inl, inr}
use Rattle.std.proofs.lemmas.Bool.{cases_Bool, ltb-true, lt-ltb, both_ways}
use Rattle.cn_clauses.specs.declared.lit.Lit.{Lit}
use Rattle.cn_clauses.specs.Literals.{lit_value}
use Rattle.bb_gates.specs.Values.{majority}
use Rattle.bb_arith.specs.Words.{number_of}
use Rattle.jv_list.specs.Numbers.{bit_number}
use Rattle.jv_list.proofs.NumberLemmas.{word_append, word_below}

-- a word with one more bit at its upper end
pub number_append : (w : ℕ → Bool) (lits : List Lit) (lit : Lit)
    → number_of w (lits ++ lit ∷ []) ≡ number_of w lits + 2 ^ length lits * bit_number (lit_value w lit)
number_append w lits lit = word_append (lit_value w) (number_of w) refl (λ x xs. refl) lits lit

pub number_below : (w : ℕ → Bool) (lits : List Lit) → number_of w lits < 2 ^ length lits
number_below w lits = word_below (lit_value w) (number_of w) refl (λ x xs. refl) lits

-- tests of two orders that are the same
pub same_order : (m n k l : ℕ) → (m < n → k < l) → (k < l → m < n) → nat_lt m n ≡ nat_lt k l
same_order m n k l there back =
    elim (cases_Bool (nat_lt m n)) [
      | inl is ↦ is ∙ sym (lt-ltb k l (there (ltb-true m n is)))
      | inr fails ↦
          elim (cases_Bool (nat_lt k l)) [
            | inl is ↦ absurd (both_ways (nat_lt m n) fails (lt-ltb m n (back (ltb-true k l is))))
            | inr none ↦ fails ∙ sym none
          ]
    ]

pub false_order : (m n : ℕ) → (m < n → ⊥) → nat_lt m n ≡ false
false_order m n never = elim (cases_Bool (nat_lt m n)) [ inl is ↦ absurd (never (ltb-true m n is)) | inr is ↦ is ]

or_false : (x : Bool) → (x || false) ≡ x
or_false true = refl
or_false false = refl

-- the order of two numbers by their highest bits, and then by what is below these
pub order_next : (p x y : ℕ) (a b : Bool) → x < p → y < p
    → majority (not a) b (nat_lt x y) ≡ nat_lt (x + p * bit_number a) (y + p * bit_number b)
order_next p x y true true x_lt y_lt =
    same_order x y (x + p * 1) (y + p * 1) (λ h. omega (arith, h)) (λ h. omega (arith, h))
order_next p x y true false x_lt y_lt =
    sym (false_order (x + p * 1) (y + p * 0) (λ h. omega (arith, h, y_lt)))
order_next p x y false true x_lt y_lt = sym (lt-ltb (x + p * 0) (y + p * 1) (omega (arith, x_lt)))
order_next p x y false false x_lt y_lt = or_false (nat_lt x y) ∙
    same_order x y (x + p * 0) (y + p * 0) (λ h. omega (arith, h)) (λ h. omega (arith, h))
