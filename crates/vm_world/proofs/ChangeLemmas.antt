-- What is found in a list, before and after the first element that passes a test is changed.
use Rattle.std.proofs.Common.{◌≡◌, ℕ, zero, suc, ◌<◌, Bool, true, false, cond, List, [], ◌∷◌, length, get_or, set}
use Rattle.std.proofs.Common.{Option, Some, None, map, refl, sym, ◌∙◌, ap, arith, inl, inr}
use Rattle.std.specs.Prelude.{is_some}
use Rattle.std.specs.List.{position, find}
use Rattle.std.specs.Option.{option_map}
use Rattle.std.proofs.lemmas.Bool.{cond-true, cond-false, cases_Bool}
use Rattle.std.proofs.lemmas.List.Quantifiers.{position-Some}
use Rattle.vm_world.specs.Lists.{change_first}
use Rattle.jv_list.proofs.PositionLemmas.{none_passes, found_at, none_found}

-- a test is true or false
bool_cases : {P : Type 0} (b : Bool) → (b ≡ true → P) → (b ≡ false → P) → P
bool_cases b passes fails = elim (cases_Bool b) [ inl e ↦ passes e | inr e ↦ fails e ]

module _ {X : Type 0} (test : X → Bool) (change : X → X) where
  changed_first : (xs : List X) (i : ℕ) (x : X) → i < length xs → x ≡ get_or xs i x → test x ≡ true
      → ((k : ℕ) → k < i → test (get_or xs k x) ≡ false) → set xs i (change x) ≡ change_first test change xs
  changed_first [] i x within at here before = absurd (omega arith)
  changed_first (y ∷ ys) zero x within at here before =
      ap (λ (z : X). change z ∷ ys) at
      ∙ sym (cond-true (test y) (change y ∷ ys) (y ∷ change_first test change ys) (ap test (sym at) ∙ here))
  changed_first (y ∷ ys) (suc i) x within at here before =
      ap (λ (rest : List X). y ∷ rest)
      (changed_first ys i x (omega arith) at here (λ k below. before (suc k) (omega arith)))
      ∙ sym (cond-false (test y) (change y ∷ ys) (y ∷ change_first test change ys) (before 0 (omega arith)))

  unchanged : (xs : List X) → ((k : ℕ) (d : X) → k < length xs → test (get_or xs k d) ≡ false)
      → change_first test change xs ≡ xs
  unchanged [] none = refl
  unchanged (y ∷ ys) none =
      cond-false (test y) (change y ∷ ys) (y ∷ change_first test change ys) (none 0 y (omega arith))
      ∙ ap (λ (rest : List X). y ∷ rest) (unchanged ys (λ k d below. none (suc k) d (omega arith)))

  module _ {A : Type 0} (part : X → A) (xs : List X) where
    -- the first place that passes, and the element there
    pub at_first : (i : ℕ) (x : X) → Some i ≡ position test xs → x ≡ get_or xs i x
        → (true ≡ is_some (option_map part (find test xs))) × (set xs i (change x) ≡ change_first test change xs)
    at_first i x some at =
        let first = position-Some test xs i x (sym some) in (
          sym (ap (λ (o : Option X). is_some (option_map part o)) (found_at test xs i x (sym some))),
          changed_first xs i x first.0 at (ap test at ∙ first.1) first.2,
        )

    pub at_none : None ≡ position test xs
        → (false ≡ is_some (option_map part (find test xs))) × (xs ≡ change_first test change xs)
    at_none none = (
      sym (ap (λ (o : Option X). is_some (option_map part o)) (none_found test xs (sym none))),
      sym (unchanged xs (none_passes test xs (sym none))),
    )

-- what is found after a change
module _ {X : Type 0} (test : X → Bool) (change : X → X) where
  -- by the same test, where the change keeps what it says
  pub find_changed : ((x : X) → test (change x) ≡ test x) → (xs : List X)
      → find test (change_first test change xs) ≡ option_map change (find test xs)
  find_changed keeps [] = refl
  find_changed keeps (x ∷ xs) =
      bool_cases (test x)
      (λ passes. ap (find test) (cond-true (test x) (change x ∷ xs) (x ∷ change_first test change xs) passes)
      ∙ cond-true (test (change x)) (Some (change x)) (find test xs) (keeps x ∙ passes)
      ∙ ap (option_map change) (sym (cond-true (test x) (Some x) (find test xs) passes)))
      (λ fails. ap (find test) (cond-false (test x) (change x ∷ xs) (x ∷ change_first test change xs) fails)
      ∙ cond-false (test x) (Some x) (find test (change_first test change xs)) fails
      ∙ find_changed keeps xs
      ∙ ap (option_map change) (sym (cond-false (test x) (Some x) (find test xs) fails)))

  -- by a test that what is changed does not pass, neither before nor after
  pub find_other : (seek : X → Bool) → ((x : X) → test x ≡ true → (seek x ≡ false) × (seek (change x) ≡ false))
      → (xs : List X) → find seek (change_first test change xs) ≡ find seek xs
  find_other seek apart [] = refl
  find_other seek apart (x ∷ xs) =
      bool_cases (test x)
      (λ passes. ap (find seek) (cond-true (test x) (change x ∷ xs) (x ∷ change_first test change xs) passes)
      ∙ cond-false (seek (change x)) (Some (change x)) (find seek xs) (apart x passes).1
      ∙ sym (cond-false (seek x) (Some x) (find seek xs) (apart x passes).0))
      (λ fails. ap (find seek) (cond-false (test x) (change x ∷ xs) (x ∷ change_first test change xs) fails)
      ∙ ap (λ (o : Option X). cond (seek x) (Some x) o) (find_other seek apart xs))

  -- what the change keeps of each is the same of all
  pub map_changed : {A : Type 0} (part : X → A) → ((x : X) → part (change x) ≡ part x) → (xs : List X)
      → map part (change_first test change xs) ≡ map part xs
  map_changed part keeps [] = refl
  map_changed part keeps (x ∷ xs) =
      bool_cases (test x)
      (λ passes. ap (map part) (cond-true (test x) (change x ∷ xs) (x ∷ change_first test change xs) passes)
      ∙ ap (λ a. a ∷ map part xs) (keeps x))
      (λ fails. ap (map part) (cond-false (test x) (change x ∷ xs) (x ∷ change_first test change xs) fails)
      ∙ ap (λ rest. part x ∷ rest) (map_changed part keeps xs))
