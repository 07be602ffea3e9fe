-- Elements by their places, and how many entries are empty.
use Rattle.std.proofs.Common.{◌≡◌, ℕ, zero, suc, ◌+◌, ◌<◌, ◌≤◌, ◌-◌, Bool, false, cond, List, [], ◌∷◌, ◌++◌, length}
use Rattle.std.proofs.Common.{take, set, get_or, replicate, count_by, is_none, is_some, true≢false, Option, Some, None}
use Rattle.std.proofs.Common.{Contains, SomeIff, slice_get, refl, sym, ap, ◌∙◌, arith, add-zero, mul-one}
use Rattle.std.proofs.lemmas.Option.{slice_get-get_or, slice_get_within, get_or_from_slice_get, same_Some, none-some}
use Rattle.std.proofs.lemmas.List.Sums.{sum_by-set}
use Rattle.std.proofs.lemmas.List.Folds.{sum_by-replicate}

module _ {X : Type 0} where
  -- an element has a place
  pub place_of : (xs : List X) (x : X) → Contains xs x → (i : ℕ) × (slice_get xs i ≡ Some x)
  place_of xs x h = (h.0, slice_get-get_or xs h.0 x h.1 ∙ ap (λ (y : X). Some y) h.2)

  -- and what has a place is an element
  pub at_contains : (xs : List X) (i : ℕ) (x : X) → slice_get xs i ≡ Some x → Contains xs x
  at_contains xs i x e = (i, slice_get_within xs i x e, get_or_from_slice_get xs i x x e)

  -- at a place stands one element
  pub one_at : (xs : List X) (i : ℕ) (x y : X) → slice_get xs i ≡ Some x → slice_get xs i ≡ Some y → x ≡ y
  one_at xs i x y e f = same_Some x y (sym e ∙ f)

  -- where nothing is, the list has ended
  pub none_at : (xs : List X) (i : ℕ) → slice_get xs i ≡ None → length xs ≤ i
  none_at [] i e = omega arith
  none_at (y ∷ ys) zero e = absurd (none-some y (sym e))
  none_at (y ∷ ys) (suc i) e = let h : length ys ≤ i = none_at ys i e in omega arith

  -- at each place within a list stands something
  pub some_at : (xs : List X) (i : ℕ) → i < length xs → (x : X) × (slice_get xs i ≡ Some x)
  some_at [] i lt = absurd (omega (arith, lt))
  some_at (x ∷ xs) zero lt = (x, refl)
  some_at (x ∷ xs) (suc i) lt = some_at xs i (omega (arith, lt))

  -- the first elements stand where they stood
  pub at_take : (n : ℕ) (xs : List X) (i : ℕ) (x : X) → i < n → slice_get xs i ≡ Some x
      → slice_get (take n xs) i ≡ Some x
  at_take zero xs i x lt e = absurd (omega (arith, lt))
  at_take (suc n) [] i x lt e = e
  at_take (suc n) (y ∷ ys) zero x lt e = e
  at_take (suc n) (y ∷ ys) (suc i) x lt e = at_take n ys i x (omega (arith, lt)) e

  -- and are the only ones
  pub from_take : (n : ℕ) (xs : List X) (i : ℕ) (x : X) → slice_get (take n xs) i ≡ Some x
      → (i < n) × (slice_get xs i ≡ Some x)
  from_take zero xs i x e = absurd (none-some x e)
  from_take (suc n) [] i x e = absurd (none-some x e)
  from_take (suc n) (y ∷ ys) zero x e = (omega arith, e)
  from_take (suc n) (y ∷ ys) (suc i) x e =
      let rest = from_take n ys i x e in
      let lt : i < n = rest.0 in
      (omega (arith, lt), rest.1)

-- an entry that is empty
abbrev pub empty : {X : Type 0} → Option X
empty = None

-- in a list of empty entries each is empty
pub replicate_none : {X : Type 0} (n i : ℕ) (x : X) → slice_get (replicate n (empty {X = X})) i ≡ Some (Some x) → ⊥
replicate_none zero i x e = none-some (Some x) e
replicate_none {X} (suc n) zero x e = none-some x (same_Some (empty {X = X}) (Some x) e)
replicate_none (suc n) (suc i) x e = replicate_none n i x e

-- all entries are empty
pub count_replicate : {X : Type 0} (n : ℕ) (xs : List (Option X)) → xs ≡ replicate n (empty {X = X})
    → count_by is_none xs ≡ n
count_replicate {X} n xs e =
    ap (count_by is_none) e ∙ sum_by-replicate (λ (o : Option X). cond (is_none o) 1 0) n (empty {X = X}) ∙ mul-one n

module _ {X : Type 0} where
  -- an entry that is filled is no longer empty
  pub count_filled : (xs : List (Option X)) (i : ℕ) (x : X) → slice_get xs i ≡ Some None
      → count_by is_none (set xs i (Some x)) + 1 ≡ count_by is_none xs
  count_filled xs i x e =
      let moved =
      sum_by-set (λ (o : Option X). cond (is_none o) 1 0) xs i (Some x) (Some x) (slice_get_within xs i None e) in
      ap (λ (o : Option X). count_by is_none (set xs i (Some x)) + cond (is_none o) 1 0)
      (sym (get_or_from_slice_get xs i None (Some x) e)) ∙ moved ∙ add-zero (count_by is_none xs)

  -- and one that is emptied is one more
  pub count_emptied : (xs : List (Option X)) (i : ℕ) (x : X) → slice_get xs i ≡ Some (Some x)
      → count_by is_none (set xs i None) ≡ count_by is_none xs + 1
  count_emptied xs i x e =
      let moved =
      sum_by-set (λ (o : Option X). cond (is_none o) 1 0) xs i None None (slice_get_within xs i (Some x) e) in
      sym (add-zero (count_by is_none (set xs i None)))
      ∙ ap (λ (o : Option X). count_by is_none (set xs i None) + cond (is_none o) 1 0)
      (sym (get_or_from_slice_get xs i (Some x) None e)) ∙ moved

-- what a number is where an option gives it
pub some_iff : {T : Type 0} (o : Option T) (P : Type 0) (v x : T) → SomeIff o P v → o ≡ Some x → P × (x ≡ v)
some_iff None P v x h e = absurd (none-some x e)
some_iff (Some y) P v x h e = (h.0, sym (same_Some y x e) ∙ h.1)

abbrev the_nil : {X : Type 0} → List X
the_nil = []

-- a list that was filled up from nothing
module _ {X : Type 0} where
  take_nil : (n : ℕ) → take n (the_nil {X = X}) ≡ the_nil
  take_nil zero = refl
  take_nil (suc n) = refl

  pub filled_up : (n k : ℕ) (x : X) (ys zs : List X) → ys ≡ [] → k ≡ 0 → zs ≡ take n ys ++ replicate (n - k) x
      → zs ≡ replicate n x
  filled_up n k x ys zs e f g =
      g ∙ ap (λ (l : List X). take n l ++ replicate (n - k) x) e
      ∙ ap (λ (l : List X). l ++ replicate (n - k) x) (take_nil n)
      ∙ ap (λ (m : ℕ). replicate m x) (omega (arith, f))

module _ {X : Type 0} where
  -- an element that is read
  pub in_read : (xs : List X) (i : ℕ) (d : X) → i < length xs → Contains xs (get_or xs i d)
  in_read xs i d lt = at_contains xs i (get_or xs i d) (slice_get-get_or xs i d lt)

-- an option that is not there
pub none_from_test : {X : Type 0} (o : Option X) (b : Bool) → b ≡ is_some o → b ≡ false → o ≡ None
none_from_test None b e f = refl
none_from_test (Some x) b e f = absurd (true≢false (sym e ∙ f))
