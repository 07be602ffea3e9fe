-- A search for the only element that passes a test.
use Rattle.std.proofs.Common.{◌≡◌, ℕ, ◌+◌, ◌<◌, Bool, true, false, List, [], ◌∷◌, ◌++◌, length, take, drop, get_or, map}
use Rattle.std.proofs.Common.{Option, Some, None, is_some, Bor, refl, sym, ap, ◌∙◌}
use Rattle.std.specs.List.{filter}
use Rattle.std.proofs.lemmas.List.{map-append, append-nil, take-append-drop}
use Rattle.std.proofs.lemmas.List.Elements.{filter-append}
use Rattle.jv_list.proofs.PlaceLemmas.{take_with}

module _ {A B : Type 0} (test : B → Bool) (view : A → B) where
  -- what passes the test among the elements, as they are seen
  abbrev pub passed : List A → List B
  passed xs = filter test (map view xs)

  -- what a search found
  abbrev pub Found : Option (Bor A) → List A → Type 0
  Found None xs = passed xs ≡ []
  Found (Some x) xs = passed xs ≡ view x.now ∷ []

  -- of two lists
  pub passed-append : (xs ys : List A) → passed (xs ++ ys) ≡ passed xs ++ passed ys
  passed-append xs ys = ap (filter test) (map-append view xs ys) ∙ filter-append test (map view xs) (map view ys)

  module _ (xs : List A) (i : ℕ) (x : A) (within : i < length xs) (is : x ≡ get_or xs i x) where
    -- of a front with the element behind it
    pub passed-more : passed (take (i + 1) xs) ≡ passed (take i xs) ++ passed (x ∷ [])
    passed-more = ap passed (take_with xs i x within is) ∙ passed-append (take i xs) (x ∷ [])

    -- an element that fails the test
    pub skips : test (view x) ≡ false → passed (take (i + 1) xs) ≡ passed (take i xs)
    skips fails =
        let one : passed (x ∷ []) ≡ [] = rw fails refl in
        passed-more ∙ rw one (append-nil (passed (take i xs)))

    -- leaves what was found
    pub Found-skips : (o : Option (Bor A)) → test (view x) ≡ false → Found o (take i xs) → Found o (take (i + 1) xs)
    Found-skips None fails so_far = skips fails ∙ so_far
    Found-skips (Some y) fails so_far = skips fails ∙ so_far

    -- the first element that passes the test
    pub takes : test (view x) ≡ true → passed (take i xs) ≡ [] → passed (take (i + 1) xs) ≡ view x ∷ []
    takes passes so_far =
        let one : passed (x ∷ []) ≡ view x ∷ [] = rw passes refl in
        passed-more ∙ rw (one, so_far) refl

    -- what passes before an element that passes, this one, and what passes behind it
    cut : test (view x) ≡ true → passed xs ≡ (passed (take i xs) ++ view x ∷ []) ++ passed (drop (i + 1) xs)
    cut passes =
        let one : passed (x ∷ []) ≡ view x ∷ [] = rw passes refl in
        ap passed (sym (take-append-drop (i + 1) xs)) ∙ passed-append (take (i + 1) xs) (drop (i + 1) xs)
        ∙ rw (passed-more, one) refl

    -- where one passes, not none does
    pub is_one : test (view x) ≡ true → passed (take i xs) ≡ [] → passed xs ≡ [] → ⊥
    is_one passes so_far none =
        let whole : passed xs ≡ view x ∷ passed (drop (i + 1) xs) = cut passes ∙ rw so_far refl in
        cc

    -- where one passes behind another, not one alone does
    pub are_two : (y z : B) → test (view x) ≡ true → passed (take i xs) ≡ y ∷ [] → passed xs ≡ z ∷ [] → ⊥
    are_two y z passes so_far only =
        let whole : passed xs ≡ y ∷ view x ∷ passed (drop (i + 1) xs) = cut passes ∙ rw so_far refl in
        cc

    -- the same of what a search found
    pub Found-two : (o : Option (Bor A)) (z : B) → test (view x) ≡ true → is_some o ≡ true → Found o (take i xs)
        → passed xs ≡ z ∷ [] → ⊥
    Found-two None z passes some so_far only = absurd cc
    Found-two (Some y) z passes some so_far only = are_two (view y.now) z passes so_far only
