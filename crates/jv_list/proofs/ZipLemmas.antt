-- Lists beside each other.
use Rattle.std.proofs.Common.{◌≡◌, List, [], ◌∷◌, ◌++◌, map, refl, subst, ap, ◌∙◌, Contains, inl, inr}
use Rattle.std.specs.List.{flat_map, AllZip, AllByRecursion}
use Rattle.jv_list.proofs.MemberLemmas.{none_member, member_cases}

module _ {A B : Type 0} (R : A → B → Type 0) where
  -- one more beside each other
  pub zip_push : (xs : List A) (ys : List B) (x : A) (y : B) → AllZip R xs ys → R x y
      → AllZip R (xs ++ x ∷ []) (ys ++ y ∷ [])
  zip_push [] [] x y h k = (k, tt)
  zip_push [] (b ∷ ys) x y h k = absurd h
  zip_push (a ∷ xs) [] x y h k = absurd h
  zip_push (a ∷ xs) (b ∷ ys) x y h k = (h.0, zip_push xs ys x y h.1 k)

  -- what stands beside an element
  pub beside : (xs : List A) (ys : List B) (x : A) → AllZip R xs ys → Contains xs x → (y : B) × R x y
  beside [] ys x h c = absurd (none_member x c)
  beside (a ∷ xs) [] x h c = absurd h
  beside (a ∷ xs) (b ∷ ys) x h c = elim (member_cases a xs x c) [
    | inl same ↦ (b, subst (λ (z : A). R z b) same h.0)
    | inr later ↦ beside xs ys x h.1 later
  ]

  -- one list stands beside another at most, where one element stands beside another at most
  pub one_beside : (F : A → Type 0) → ((x : A) (y z : B) → F x → R x y → R x z → y ≡ z) → (xs : List A) (ys zs : List B)
      → AllByRecursion F xs → AllZip R xs ys → AllZip R xs zs
      → ys ≡ zs
  one_beside F one [] [] [] f h k = refl
  one_beside F one [] [] (z ∷ zs) f h k = absurd k
  one_beside F one [] (y ∷ ys) zs f h k = absurd h
  one_beside F one (x ∷ xs) [] zs f h k = absurd h
  one_beside F one (x ∷ xs) (y ∷ ys) [] f h k = absurd k
  one_beside F one (x ∷ xs) (y ∷ ys) (z ∷ zs) f h k =
      ap (λ (b : B). b ∷ ys) (one x y z f.0 h.0 k.0)
      ∙ ap (λ (bs : List B). z ∷ bs) (one_beside F one xs ys zs f.1 h.1 k.1)

  -- where each element has one beside it, the list has
  pub some_beside : (xs : List A) → AllByRecursion (λ x. (y : B) × R x y) xs → (ys : List B) × AllZip R xs ys
  some_beside [] h = ([], tt)
  some_beside (x ∷ xs) h =
      let others = some_beside xs h.1 in
      (h.0.0 ∷ others.0, (h.0.1, others.1))

  -- each element of a list that has one beside it has an element beside it
  pub all_beside : (xs : List A) (ys : List B) → AllZip R xs ys → AllByRecursion (λ x. (y : B) × R x y) xs
  all_beside [] [] h = tt
  all_beside [] (y ∷ ys) h = absurd h
  all_beside (x ∷ xs) [] h = absurd h
  all_beside (x ∷ xs) (y ∷ ys) h = ((y, h.0), all_beside xs ys h.1)

  -- pieces that are the same of two elements beside each other
  pub zip_pieces : {C : Type 0} (f : A → List C) (g : B → List C) → ((x : A) (y : B) → R x y → f x ≡ g y)
      → (xs : List A) (ys : List B) → AllZip R xs ys
      → flat_map f xs ≡ flat_map g ys
  zip_pieces f g same [] [] h = refl
  zip_pieces f g same [] (y ∷ ys) h = absurd h
  zip_pieces f g same (x ∷ xs) [] h = absurd h
  zip_pieces f g same (x ∷ xs) (y ∷ ys) h = rw (same x y h.0, zip_pieces f g same xs ys h.1) refl

  -- what holds of each element that stands beside another
  pub zip_all : (P : B → Type 0) → ((x : A) (y : B) → R x y → P y) → (xs : List A) (ys : List B) → AllZip R xs ys
      → AllByRecursion P ys
  zip_all P each [] [] h = tt
  zip_all P each [] (y ∷ ys) h = absurd h
  zip_all P each (x ∷ xs) [] h = absurd h
  zip_all P each (x ∷ xs) (y ∷ ys) h = (each x y h.0, zip_all P each xs ys h.1)

-- another view of the first list
module _ {V A B : Type 0} (view : V → A) (R : A → B → Type 0) where
  pub zip_viewed : (xs : List V) (ys : List B) → AllZip (λ v y. R (view v) y) xs ys → AllZip R (map view xs) ys
  zip_viewed [] [] h = tt
  zip_viewed [] (y ∷ ys) h = absurd h
  zip_viewed (x ∷ xs) [] h = absurd h
  zip_viewed (x ∷ xs) (y ∷ ys) h = (h.0, zip_viewed xs ys h.1)

  pub zip_view : (xs : List V) (ys : List B) → AllZip R (map view xs) ys → AllZip (λ v y. R (view v) y) xs ys
  zip_view [] [] h = tt
  zip_view [] (y ∷ ys) h = absurd h
  zip_view (x ∷ xs) [] h = absurd h
  zip_view (x ∷ xs) (y ∷ ys) h = (h.0, zip_view xs ys h.1)
