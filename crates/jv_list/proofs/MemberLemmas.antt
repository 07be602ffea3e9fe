-- What is in lists that are made of others.
use Rattle.std.proofs.Common.{◌≡◌, Bool, true, false, List, [], ◌∷◌, map, Some, None, inl, inr, ◌⊎◌, refl, sym, subst}
use Rattle.std.proofs.Common.{arith}
use Rattle.std.specs.Prelude.{if◌then◌else◌}
use Rattle.std.specs.Option.{option_to_list}
use Rattle.std.specs.List.{flat_map, Contains}
use Rattle.std.proofs.lemmas.List.Concat.{flat_map_single}
use Rattle.std.proofs.lemmas.List.Elements.{Contains-push, Contains-push_cases, Contains-append_left}
use Rattle.std.proofs.lemmas.List.Elements.{Contains-append_right, Contains-append_cases}

module _ {X : Type 0} where
  -- nothing is in no elements
  pub none_member : (x : X) → Contains [] x → ⊥
  none_member x h = omega (arith, h.1)

  -- an element of one
  pub one_member : (y x : X) → Contains (y ∷ []) x → y ≡ x
  one_member y x h = elim (Contains-push_cases [] y x h) [ inl none ↦ absurd (none_member x none) | inr e ↦ e ]

  -- an element is the first or one of the others
  pub member_cases : (y : X) (ys : List X) (x : X) → Contains (y ∷ ys) x → (y ≡ x) ⊎ Contains ys x
  member_cases y ys x h =
      elim (Contains-append_cases (y ∷ []) ys x h) [ inl one ↦ inl (one_member y x one) | inr more ↦ inr more ]

  -- the first is an element
  pub first_member : (x : X) (xs : List X) → Contains (x ∷ xs) x
  first_member x xs = Contains-append_left (x ∷ []) xs x (Contains-push [] x)

  -- an element behind the first
  pub later_member : (x : X) (xs : List X) (y : X) → Contains xs y → Contains (x ∷ xs) y
  later_member x xs y h = Contains-append_right (x ∷ []) xs y h

  -- an element of a part
  pub in_flat_map : {A : Type 0} (f : X → List A) (xs : List X) (x : X) (a : A) → Contains xs x → Contains (f x) a
      → Contains (flat_map f xs) a
  in_flat_map f [] x a h part = absurd (none_member x h)
  in_flat_map {A} f (y ∷ ys) x a h part =
      elim (member_cases y ys x h) [
        | inl e ↦ Contains-append_left (f y) (flat_map f ys) a (subst (λ (z : X). Contains (f z) a) (sym e) part)
        | inr more ↦ Contains-append_right (f y) (flat_map f ys) a (in_flat_map f ys x a more part)
      ]

  -- the part that an element comes of
  pub from_flat_map : {A : Type 0} (f : X → List A) (xs : List X) (a : A) → Contains (flat_map f xs) a
      → (x : X) × Contains xs x × Contains (f x) a
  from_flat_map f [] a h = absurd (omega (arith, h.1))
  from_flat_map f (y ∷ ys) a h =
      elim (Contains-append_cases (f y) (flat_map f ys) a h) [
        | inl part ↦ (y, first_member y ys, part)
        | inr more ↦ let m = from_flat_map f ys a more in (m.0, Contains-append_right (y ∷ []) ys m.0 m.1, m.2)
      ]

  -- one element or none, by a test
  pub in_test : (t : Bool) (x : X) → t ≡ true → Contains (if t then x ∷ [] else []) x
  in_test true x e = Contains-push [] x
  in_test false x e = absurd cc

  -- and the test passes where it is there
  pub from_test : (t : Bool) (x y : X) → Contains (if t then x ∷ [] else []) y → (t ≡ true) × (x ≡ y)
  from_test true x y h = (refl, one_member x y h)
  from_test false x y h = absurd (none_member y h)

  -- a list or none, by a test
  pub in_list_test : (t : Bool) (xs : List X) (x : X) → t ≡ true → Contains xs x → Contains (if t then xs else []) x
  in_list_test true xs x e h = h
  in_list_test false xs x e h = absurd cc

  -- and the test passes where an element is there
  pub from_list_test : (t : Bool) (xs : List X) (x : X) → Contains (if t then xs else []) x → (t ≡ true) × Contains xs x
  from_list_test true xs x h = (refl, h)
  from_list_test false xs x h = absurd (none_member x h)

  -- an option by a test
  pub in_option_test : (t : Bool) (x : X) → t ≡ true → Contains (option_to_list (if t then Some x else None)) x
  in_option_test true x e = Contains-push [] x
  in_option_test false x e = absurd cc

  -- and the test passes where an element is there
  pub from_option_test : (t : Bool) (x y : X) → Contains (option_to_list (if t then Some x else None)) y
      → (t ≡ true) × (x ≡ y)
  from_option_test true x y h = (refl, one_member x y h)
  from_option_test false x y h = absurd (none_member y h)

module _ {X A : Type 0} (f : X → A) (xs : List X) where
  -- what a function gives of an element
  pub in_map : (x : X) → Contains xs x → Contains (map f xs) (f x)
  in_map x h =
      subst (λ (zs : List A). Contains zs (f x)) (flat_map_single f xs)
      (in_flat_map (λ y. f y ∷ []) xs x (f x) h (Contains-push [] (f x)))

  -- the element that it was given of
  pub from_map : (a : A) → Contains (map f xs) a → (x : X) × Contains xs x × (f x ≡ a)
  from_map a h =
      let h' : Contains (flat_map (λ y. f y ∷ []) xs) a =
      subst (λ (zs : List A). Contains zs a) (sym (flat_map_single f xs)) h in
      let m = from_flat_map (λ y. f y ∷ []) xs a h' in
      (m.0, m.1, one_member (f m.0) a m.2)
