-- Structures that stand one after the other, as a loop goes over them.
use Rattle.std.proofs.Common.{◌≡◌, ℕ, ◌+◌, ◌<◌, ◌≤◌, List, [], ◌∷◌, ◌++◌, length, take, drop, get_or, map}
use Rattle.std.proofs.Common.{refl, sym, ap, ◌∙◌, arith, add-zero, add_assoc, append_assoc, length-append}
use Rattle.std.specs.List.{flat_map}
use Rattle.std.proofs.lemmas.List.{append-nil, map-append}
use Rattle.std.proofs.lemmas.Grind.{flat_map-append}
use Rattle.std.proofs.lemmas.List.Folds.{flat_map-map}
use Rattle.jv_list.specs.Places.{each_at}
use Rattle.jv_list.proofs.PlaceLemmas.{split_with, take_with}

module _ {A B C : Type 0} (one : List A → ℕ → A → List B) (text : A → List C) where
  each_append : (earlier : List A) (start : ℕ) (xs ys : List A) → each_at one text earlier start (xs ++ ys)
      ≡ each_at one text earlier start xs
      ++ each_at one text (earlier ++ xs) (start + length (flat_map text xs)) ys
  unfolding each_at
  each_append earlier start [] ys = rw (append-nil, add-zero) refl
  each_append earlier start (x ∷ xs) ys =
      let place : ℕ = start + length (text x) in
      let e : place + length (flat_map text xs) ≡ start + length (text x ++ flat_map text xs) =
      rw length-append (add_assoc start (length (text x)) (length (flat_map text xs))) in
      let front : List B = each_at one text (earlier ++ x ∷ []) place xs in
      ap (λ (bs : List B). one earlier start x ++ bs) (each_append (earlier ++ x ∷ []) place xs ys)
      ∙ sym (append_assoc (one earlier start x) front _)
      ∙ ap (λ (before : List A). (one earlier start x ++ front)
      ++ each_at one text before (place + length (flat_map text xs)) ys) (append_assoc earlier (x ∷ []) xs)
      ∙ ap (λ (p : ℕ). (one earlier start x ++ front) ++ each_at one text (earlier ++ x ∷ xs) p ys) e

  each_one : (earlier : List A) (start : ℕ) (x : A) → each_at one text earlier start (x ∷ []) ≡ one earlier start x
  unfolding each_at
  each_one earlier start x = append-nil (one earlier start x)

  -- nothing is found in none
  pub each_none : (earlier : List A) (start : ℕ) → each_at one text earlier start [] ≡ []
  unfolding each_at
  each_none earlier start = refl

  -- the structure at an index, read at its place
  module _ (start : ℕ) (xs : List A) (i place : ℕ) (x : A) (lt : i < length xs) (is : x ≡ get_or xs i x)
      (place_is : place ≡ start + length (flat_map text (take i xs))) where
    -- it ends where all do, or before
    pub each_fits : place + length (text x) ≤ start + length (flat_map text xs)
    each_fits =
        let whole : length (flat_map text xs)
        ≡ length (flat_map text (take i xs)) + length (text x ++ flat_map text (drop (i + 1) xs)) =
        ap (λ (ys : List A). length (flat_map text ys)) (split_with xs i x lt is)
        ∙ ap length (flat_map-append text (take i xs) (x ∷ drop (i + 1) xs)) ∙ length-append _ _ in
        let rest = length-append (text x) (flat_map text (drop (i + 1) xs)) in
        omega (arith, place_is)

    -- the next one stands behind it
    pub each_next : place + length (text x) ≡ start + length (flat_map text (take (i + 1) xs))
    each_next =
        let sum : length (flat_map text (take (i + 1) xs)) ≡ length (flat_map text (take i xs)) + length (text x) =
        ap (λ (ys : List A). length (flat_map text ys)) (take_with xs i x lt is)
        ∙ ap length (flat_map-append text (take i xs) (x ∷ [])) ∙ length-append _ _
        ∙ ap (λ (ys : List C). length (flat_map text (take i xs)) + length ys) (append-nil (text x)) in
        omega (arith, place_is, sum)

    -- what is found up to it and in it
    pub each_more : each_at one text [] start (take (i + 1) xs)
        ≡ each_at one text [] start (take i xs) ++ one (take i xs) place x
    each_more =
        ap (λ (ys : List A). each_at one text [] start ys) (take_with xs i x lt is)
        ∙ each_append [] start (take i xs) (x ∷ [])
        ∙ ap (λ (bs : List B). each_at one text [] start (take i xs) ++ bs) (each_one (take i xs) _ x)
        ∙ ap (λ (p : ℕ). each_at one text [] start (take i xs) ++ one (take i xs) p x) (sym place_is)

    -- and behind it
    pub each_rest : List B
    each_rest = each_at one text (take (i + 1) xs) (start + length (flat_map text (take (i + 1) xs))) (drop (i + 1) xs)

    pub each_split : each_at one text [] start xs
        ≡ (each_at one text [] start (take i xs) ++ one (take i xs) place x) ++ each_rest
    unfolding each_rest
    each_split =
        ap (λ (ys : List A). each_at one text [] start ys) again
        ∙ each_append [] start (take (i + 1) xs) (drop (i + 1) xs)
        ∙ ap (λ (bs : List B). bs ++ each_rest) each_more
      where
        again : xs ≡ take (i + 1) xs ++ drop (i + 1) xs
        again =
            split_with xs i x lt is ∙ sym (append_assoc (take i xs) (x ∷ []) (drop (i + 1) xs))
            ∙ ap (λ (ys : List A). ys ++ drop (i + 1) xs) (sym (take_with xs i x lt is))

-- what is found in structures by another view of them, and their text
module _ {A B : Type 0} (view : B → A) where
  abbrev pub one_of : {D : Type 0} → (List A → ℕ → A → List D) → List B → ℕ → B → List D
  one_of one earlier place x = one (map view earlier) place (view x)

  abbrev pub text_of : {C : Type 0} → (A → List C) → B → List C
  text_of text x = text (view x)

  module _ {C D : Type 0} (one : List A → ℕ → A → List D) (text : A → List C) where
    pub each_map : (earlier : List B) (start : ℕ) (xs : List B)
        → each_at (one_of one) (text_of text) earlier start xs
        ≡ each_at one text (map view earlier) start (map view xs)
    unfolding each_at
    each_map earlier start [] = refl
    each_map earlier start (x ∷ xs) =
        let place : ℕ = start + length (text (view x)) in
        let first : List D = one (map view earlier) start (view x) in
        ap (λ (ds : List D). first ++ ds) (each_map (earlier ++ x ∷ []) place xs)
        ∙ ap (λ (before : List A). first ++ each_at one text before place (map view xs))
        (map-append view earlier (x ∷ []))

    pub text_map : (xs : List B) → flat_map text (map view xs) ≡ flat_map (text_of text) xs
    text_map xs = flat_map-map text view xs
