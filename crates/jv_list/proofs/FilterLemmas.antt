-- The elements of a list that pass a test.
use Rattle.std.proofs.Common.{◌≡◌, ◌⊎◌, ℕ, ◌+◌, ◌<◌, Bool, true, false, List, [], ◌∷◌, ◌++◌, Contains, length, get_or}
use Rattle.std.proofs.Common.{take}
use Rattle.std.proofs.Common.{refl, sym, subst, ap, inl, inr, cond, ◌∙◌, append-nil}
use Rattle.std.specs.List.{filter}
use Rattle.std.proofs.lemmas.List.Elements.{filter_more}
use Rattle.jv_list.proofs.MemberLemmas.{none_member, member_cases, first_member, later_member}

module _ {X : Type 0} (test : X → Bool) where
  -- an element with a test's answer in place of the test
  kept : (t : Bool) (x : X) (xs : List X) (y : X) → (x ≡ y) ⊎ Contains xs y → (x ≡ y → t ≡ true)
      → Contains (cond t (x ∷ xs) xs) y
  kept true x xs y (inl e) passes = subst (λ (z : X). Contains (x ∷ xs) z) e (first_member x xs)
  kept true x xs y (inr more) passes = later_member x xs y more
  kept false x xs y (inl e) passes = let no : false ≡ true = passes e in absurd cc
  kept false x xs y (inr more) passes = more

  from_kept : (t : Bool) (x : X) (xs : List X) (y : X) → Contains (cond t (x ∷ xs) xs) y
      → ((x ≡ y) × (t ≡ true)) ⊎ Contains xs y
  from_kept true x xs y h = elim (member_cases x xs y h) [ inl e ↦ inl (e, refl) | inr more ↦ inr more ]
  from_kept false x xs y h = inr h

  -- an element that passes is among those that do
  pub in_filter : (xs : List X) (y : X) → Contains xs y → test y ≡ true → Contains (filter test xs) y
  in_filter [] y h passes = absurd (none_member y h)
  in_filter (x ∷ xs) y h passes =
      elim (member_cases x xs y h) [
        | inl e ↦ kept (test x) x (filter test xs) y (inl e) (λ same. ap test same ∙ passes)
        | inr more ↦
            kept (test x) x (filter test xs) y (inr (in_filter xs y more passes)) (λ same. ap test same ∙ passes)
      ]

  -- and each of those is an element that passes
  pub from_filter : (xs : List X) (y : X) → Contains (filter test xs) y → Contains xs y × (test y ≡ true)
  from_filter [] y h = absurd (none_member y h)
  from_filter (x ∷ xs) y h =
      elim (from_kept (test x) x (filter test xs) y h) [
        | inl e ↦ (
          subst (λ (z : X). Contains (x ∷ xs) z) e.0 (first_member x xs),
          ap test (sym e.0) ∙ e.1,
        )
        | inr more ↦ let m = from_filter xs y more in (later_member x xs y m.0, m.1)
      ]

  -- what passes of one element more
  module _ (xs : List X) (k : ℕ) (d : X) (ys : List X) (lt : k < length xs) (is : ys ≡ filter test (take k xs)) where
    more : (b : Bool) → test (get_or xs k d) ≡ b
        → ys ++ cond b (get_or xs k d ∷ []) [] ≡ filter test (take (k + 1) xs)
    more b pass =
        let x = get_or xs k d in
        ap (λ (zs : List X). zs ++ cond b (x ∷ []) []) is
        ∙ ap (λ (t : Bool). filter test (take k xs) ++ cond t (x ∷ []) []) (sym pass) ∙ sym (filter_more test xs k d lt)

    pub filter_kept : (zs : List X) → test (get_or xs k d) ≡ true → zs ≡ ys ++ get_or xs k d ∷ []
        → zs ≡ filter test (take (k + 1) xs)
    filter_kept zs pass put = put ∙ more true pass

    pub filter_left : test (get_or xs k d) ≡ false → ys ≡ filter test (take (k + 1) xs)
    filter_left pass = sym (append-nil ys) ∙ more false pass
