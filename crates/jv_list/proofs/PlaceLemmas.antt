-- What stands at a place of a list: after a write, after a push, and between what is before and behind it.
use Rattle.std.proofs.Common.{◌≡◌, ◌≢◌, ℕ, zero, suc, ◌+◌, ◌<◌, List, [], ◌∷◌, ◌++◌, length, get_or, set, take, drop}
use Rattle.std.proofs.Common.{replicate, Some, refl, sym, ap, ◌∙◌, arith, inl, inr, ◌⊎◌}
use Rattle.std.specs.Prelude.{slice_get}
use Rattle.std.proofs.lemmas.List.{length-set, get_or-set_same, take-append-drop, take_more, drop_more}
use Rattle.std.proofs.lemmas.Option.{slice_get-get_or, same_Some, none-some}

module _ {X : Type 0} where
  -- what was written is read back
  pub slice_get-set_same : (xs : List X) (i : ℕ) (x : X) → i < length xs → slice_get (set xs i x) i ≡ Some x
  slice_get-set_same xs i x within =
      slice_get-get_or (set xs i x) i x (omega (arith, length-set xs i x))
      ∙ ap (λ (y : X). Some y) (get_or-set_same xs i x x within)

  -- and the others are as they were
  pub slice_get-set_other : (xs : List X) (i j : ℕ) (x : X) → j ≢ i → slice_get (set xs i x) j ≡ slice_get xs j
  slice_get-set_other [] i j x other = refl
  slice_get-set_other (y ∷ ys) zero zero x other = absurd (other refl)
  slice_get-set_other (y ∷ ys) zero (suc j) x other = refl
  slice_get-set_other (y ∷ ys) (suc i) zero x other = refl
  slice_get-set_other (y ∷ ys) (suc i) (suc j) x other = slice_get-set_other ys i j x (λ same. other (ap suc same))

  -- the element that was pushed is the last
  pub slice_get-push_last : (xs : List X) (x : X) (i : ℕ) → i ≡ length xs → slice_get (xs ++ x ∷ []) i ≡ Some x
  slice_get-push_last [] x zero e = refl
  slice_get-push_last [] x (suc i) e = absurd (omega arith)
  slice_get-push_last (y ∷ ys) x zero e = absurd (omega arith)
  slice_get-push_last (y ∷ ys) x (suc i) e = slice_get-push_last ys x i (omega arith)

  -- the others stand where they stood
  pub slice_get-push_other : (xs : List X) (x y : X) (i : ℕ) → slice_get xs i ≡ Some y
      → slice_get (xs ++ x ∷ []) i ≡ Some y
  slice_get-push_other [] x y i e = absurd (none-some y e)
  slice_get-push_other (z ∷ zs) x y zero e = e
  slice_get-push_other (z ∷ zs) x y (suc i) e = slice_get-push_other zs x y i e

  -- and no others are there
  pub slice_get-push_cases : (xs : List X) (x y : X) (i : ℕ) → slice_get (xs ++ x ∷ []) i ≡ Some y
      → (slice_get xs i ≡ Some y) ⊎ ((i ≡ length xs) × (x ≡ y))
  slice_get-push_cases [] x y zero e = inr (refl, same_Some x y e)
  slice_get-push_cases [] x y (suc i) e = absurd (none-some y e)
  slice_get-push_cases (z ∷ zs) x y zero e = inl e
  slice_get-push_cases (z ∷ zs) x y (suc i) e =
      elim (slice_get-push_cases zs x y i e) [ inl old ↦ inl old | inr last ↦ inr (ap suc last.0, last.1) ]

  -- in two runs one after the other, the places of the first element are those of the first run
  pub slice_get-two_runs : (m n : ℕ) (x y : X) (k : ℕ) → x ≢ y → slice_get (replicate m x ++ replicate n y) k ≡ Some x
      → k < m
  slice_get-two_runs zero zero x y k other e = absurd (none-some x e)
  slice_get-two_runs zero (suc n) x y zero other e = absurd (other (sym (same_Some y x e)))
  slice_get-two_runs zero (suc n) x y (suc k) other e = absurd (omega (arith, slice_get-two_runs zero n x y k other e))
  slice_get-two_runs (suc m) n x y zero other e = omega arith
  slice_get-two_runs (suc m) n x y (suc k) other e = omega (arith, slice_get-two_runs m n x y k other e)

  -- a list is what is before an element, that element, and what is behind it
  pub split_with : (xs : List X) (i : ℕ) (x : X) → i < length xs → x ≡ get_or xs i x
      → xs ≡ take i xs ++ x ∷ drop (i + 1) xs
  split_with xs i x within e =
      sym (take-append-drop i xs) ∙ ap (λ (ys : List X). take i xs ++ ys) (drop_more xs i x within)
      ∙ ap (λ (y : X). take i xs ++ y ∷ drop (i + 1) xs) (sym e)

  -- a front with the element behind it
  pub take_with : (xs : List X) (i : ℕ) (x : X) → i < length xs → x ≡ get_or xs i x
      → take (i + 1) xs ≡ take i xs ++ x ∷ []
  take_with xs i x within e = take_more xs i x within ∙ ap (λ (y : X). take i xs ++ y ∷ []) (sym e)

  -- a list that is read at its start is that element and others
  pub first_with : (xs : List X) (x : X) → 0 < length xs → x ≡ get_or xs 0 x → xs ≡ x ∷ drop 1 xs
  first_with [] x some e = absurd (omega arith)
  first_with (y ∷ ys) x some e = ap (λ (z : X). z ∷ ys) (sym e)
