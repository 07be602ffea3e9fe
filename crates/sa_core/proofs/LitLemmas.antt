-- Literals are equal where their numbers are, and none is its own opposite.
use Rattle.std.proofs.Common.{◌≡◌, ◌⊎◌, ℕ, ◌+◌, ◌*◌, ◌/◌, ◌%◌, ◌<◌, ◌==◌, Bool, true, false, not, refl, sym, ap, ◌∙◌}
use Rattle.std.proofs.Common.{inl, inr, arith, if◌then◌else◌, eqb, true≢false, eq-eqb, ne_eqb}
use Rattle.std.proofs.lemmas.Bool.{cases_eq, eqb-true, eqb-false}
use Rattle.cn_clauses.specs.declared.lit.Lit.{Lit}
use Rattle.cn_clauses.specs.Literals.{variable_of, is_negated, literal, opposite_of}

pub same_lit : (x y : Lit) → x.0 ≡ y.0 → x ≡ y
same_lit x y e = ap (λ (n : ℕ). let l : Lit = record { 0 = n } in l) e

pub number_of : (x y : Lit) → x ≡ y → x.0 ≡ y.0
number_of x y e = ap (λ (l : Lit). l.0) e

-- two literals are one or not
pub cases_lit : (x y : Lit) → (x ≡ y) ⊎ (x ≡ y → ⊥)
cases_lit x y = elim (cases_eq x.0 y.0) [ inl e ↦ inl (same_lit x y e) | inr ne ↦ inr (λ e. ne (number_of x y e)) ]

-- the number of a literal, by its variable
pub below_size : (lit : Lit) (variables size : ℕ) → variable_of lit < variables → size ≡ 2 * variables → lit.0 < size
unfolding variable_of
below_size lit variables size lt e = omega (arith, lt, e)

pub within_size : (lit : Lit) (variables size : ℕ) → lit.0 < size → size ≡ 2 * variables → variable_of lit < variables
unfolding variable_of
within_size lit variables size lt e = omega (arith, lt, e)

turned : (n : ℕ) (s : Bool) → (n % 2 == 1) ≡ s → 2 * (n / 2) + (if not s then 1 else 0) ≡ n → ⊥
turned n true e same = let odd : n % 2 ≡ 1 = eqb-true (n % 2) 1 e in omega (arith, odd, same)
turned n false e same = let even : n % 2 ≡ 1 → ⊥ = eqb-false (n % 2) 1 e in omega (arith, even, same)

pub not_opposite : (lit : Lit) → opposite_of lit ≡ lit → ⊥
unfolding opposite_of literal variable_of is_negated
not_opposite lit e = turned lit.0 (lit.0 % 2 == 1) refl (number_of (opposite_of lit) lit e)

-- what the test for unequal literals says
pub same_from_test : (x y : Lit) (b : Bool) → b ≡ not (eqb x.0 y.0) → b ≡ false → x ≡ y
same_from_test x y b e f =
    elim (cases_eq x.0 y.0) [
      | inl same ↦ same_lit x y same
      | inr ne ↦ absurd (true≢false (sym (ap not (ne_eqb x.0 y.0 ne)) ∙ sym e ∙ f))
    ]

pub apart_from_test : (x y : Lit) (b : Bool) → b ≡ not (eqb x.0 y.0) → b ≡ true → x ≡ y → ⊥
apart_from_test x y b e f same = true≢false (sym f ∙ e ∙ ap not (eq-eqb x.0 y.0 (number_of x y same)))

turned_is : (n m : ℕ) (s : Bool) → (n % 2 == 1) ≡ s → m / 2 ≡ n / 2 → (m ≡ n → ⊥)
    → m ≡ 2 * (n / 2) + (if not s then 1 else 0)
turned_is n m true e half ne = let odd : n % 2 ≡ 1 = eqb-true (n % 2) 1 e in omega (arith, odd, half, ne)
turned_is n m false e half ne = let even : n % 2 ≡ 1 → ⊥ = eqb-false (n % 2) 1 e in omega (arith, even, half, ne)

-- two literals of one variable are one, or opposite
pub same_variable : (x y : Lit) → variable_of x ≡ variable_of y → (x ≡ y) ⊎ (x ≡ opposite_of y)
unfolding opposite_of literal variable_of is_negated
same_variable x y e =
    elim (cases_eq x.0 y.0) [
      | inl same ↦ inl (same_lit x y same)
      | inr ne ↦
          inr
          (ap (λ (n : ℕ). let l : Lit = record { 0 = n } in l)
          (turned_is y.0 x.0 (y.0 % 2 == 1) refl e ne))
    ]
