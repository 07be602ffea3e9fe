-- What is decided: it holds, or it does not.
use Rattle.std.proofs.Common.{◌≡◌, ℕ, zero, suc, ℤ, ◌+◌, ◌<◌, ◌≤◌, List, [], ◌∷◌, Bool, true, false, Contains, length}
use Rattle.std.proofs.Common.{get_or, refl, sym, ◌∙◌, subst, inl, inr, ◌⊎◌, arith}
use Rattle.std.specs.Prelude.{◌≤ℤ◌, ◌<ℤ◌}
use Rattle.std.specs.Int.{Width}
use Rattle.std.specs.Int.RustNames.{FitsSigned}
use Rattle.std.specs.List.{All, AllByRecursion, AllAdjacentBelow}
use Rattle.std.specs.Str.{bytes_eq}
use Rattle.std.proofs.lemmas.Bool.{false≢true, cases_lt}
use Rattle.std.proofs.lemmas.Int.{by_lt_z, ints}
use Rattle.std.proofs.lemmas.List.Elements.{All-from_recursion, recursion_from_All, Contains-append_right}
use Rattle.std.proofs.lemmas.Slice.Eq.{bytes_eq-Decides}
use Rattle.jv_list.proofs.MemberLemmas.{none_member, member_cases, first_member}
use Rattle.jv_list.proofs.TestLemmas.{same_or_not}

-- it holds, or it does not
abbrev pub Decided : Type 0 → Type 0
Decided P = P ⊎ (P → ⊥)

pub both : (P Q : Type 0) → Decided P → Decided Q → Decided (P × Q)
both P Q (inl p) (inl q) = inl (p, q)
both P Q (inl p) (inr not_q) = inr (λ h. not_q h.1)
both P Q (inr not_p) q = inr (λ h. not_p h.0)

pub either : (P Q : Type 0) → Decided P → Decided Q → Decided (P ⊎ Q)
either P Q (inl p) q = inl (inl p)
either P Q (inr not_p) (inl q) = inl (inr q)
either P Q (inr not_p) (inr not_q) = inr (λ h. elim h [ inl p ↦ not_p p | inr q ↦ not_q q ])

pub neither : (P : Type 0) → Decided P → Decided (P → ⊥)
neither P (inl p) = inr (λ not_p. not_p p)
neither P (inr not_p) = inl not_p

-- what is the same
pub other : (P Q : Type 0) → (P → Q) → (Q → P) → Decided P → Decided Q
other P Q to back (inl p) = inl (to p)
other P Q to back (inr not_p) = inr (λ q. not_p (back q))

pub numbers : (m n : ℕ) → Decided (m ≡ n)
numbers m n = same_or_not m n (λ e. inl e) (λ e. inr e)

pub below : (m n : ℕ) → Decided (m < n)
below m n = elim (cases_lt m n) [ inl lt ↦ inl lt | inr ge ↦ inr (λ lt. omega arith) ]

pub lists : (xs ys : List ℕ) → Decided (xs ≡ ys)
lists xs ys = by_test (bytes_eq xs ys) refl
  where
    by_test : (b : Bool) → bytes_eq xs ys ≡ b → Decided (xs ≡ ys)
    by_test true e = inl ((bytes_eq-Decides xs ys).0 e)
    by_test false e = inr (λ same. false≢true (sym e ∙ (bytes_eq-Decides xs ys).1 same))

pub member : (xs : List ℕ) (x : ℕ) → Decided (Contains xs x)
member [] x = inr (λ h. none_member x h)
member (y ∷ ys) x = elim (numbers y x) [
  | inl same ↦ inl (subst (λ (z : ℕ). Contains (y ∷ ys) z) same (first_member y ys))
  | inr not_y ↦ elim (member ys x) [
    | inl later ↦ inl (Contains-append_right (y ∷ []) ys x later)
    | inr none ↦ inr (λ h. elim (member_cases y ys x h) [ inl same ↦ not_y same | inr later ↦ none later ])
  ]
]

-- ---- orders of numbers

pub at_most : (m n : ℕ) → Decided (m ≤ n)
at_most m n = elim (cases_lt n m) [ inl lt ↦ inr (λ le. omega arith) | inr le ↦ inl le ]

pub int_at_most : (y z : ℤ) → Decided (y ≤ℤ z)
int_at_most y z = by_lt_z z y (λ lt. inr (λ le. omega (arith, ints))) (λ le. inl le)

pub int_below : (y z : ℤ) → Decided (y <ℤ z)
int_below y z = by_lt_z y z (λ lt. inl lt) (λ le. inr (λ lt. omega (arith, ints)))

pub signed : (w : Width) (z : ℤ) → Decided (FitsSigned w z)
signed w z = other _ (FitsSigned w z) (λ h. record { sfits = h }) (λ h. h.sfits) (below _ _)

-- ---- lists

module _ {X : Type 0} where
  pub each : (P : X → Type 0) → ((x : X) → Decided (P x)) → (xs : List X) → Decided (AllByRecursion P xs)
  each P one [] = inl tt
  each P one (x ∷ xs) = both (P x) (AllByRecursion P xs) (one x) (each P one xs)

  pub all : (P : X → Type 0) → ((x : X) → Decided (P x)) → (xs : List X) → Decided (All P xs)
  all P one xs =
      other (AllByRecursion P xs) (All P xs) (All-from_recursion P xs) (recursion_from_All P xs) (each P one xs)

  -- each element and the next one
  pub adjacent : (R : X → X → Type 0) → ((x y : X) → Decided (R x y)) → (xs : List X)
      → Decided (AllAdjacentBelow R xs (length xs))
  adjacent R one [] = inl (λ k d lt. absurd (omega arith))
  adjacent R one (x ∷ []) = inl (λ k d lt. absurd (omega arith))
  adjacent R one (x ∷ y ∷ xs) =
      other (R x y × AllAdjacentBelow R (y ∷ xs) (length (y ∷ xs)))
      (AllAdjacentBelow R (x ∷ y ∷ xs) (length (x ∷ y ∷ xs))) to back
      (both (R x y) _ (one x y) (adjacent R one (y ∷ xs)))
    where
      to : R x y × AllAdjacentBelow R (y ∷ xs) (length (y ∷ xs))
          → AllAdjacentBelow R (x ∷ y ∷ xs) (length (x ∷ y ∷ xs))
      to h zero d lt = h.0
      to h (suc k) d lt =
          let e : suc (k + 1) ≡ suc k + 1 = omega arith in
          subst (λ (n : ℕ). R (get_or (y ∷ xs) k d) (get_or (x ∷ y ∷ xs) n d)) e (h.1 k d (omega (arith, lt)))

      back : AllAdjacentBelow R (x ∷ y ∷ xs) (length (x ∷ y ∷ xs))
          → R x y × AllAdjacentBelow R (y ∷ xs) (length (y ∷ xs))
      back h = (
        h 0 x (omega arith),
        λ k d lt.
            let e : suc k + 1 ≡ suc (k + 1) = omega arith in
            subst (λ (n : ℕ). R (get_or (y ∷ xs) k d) (get_or (x ∷ y ∷ xs) n d)) e (h (suc k) d (omega (arith, lt))),
      )
