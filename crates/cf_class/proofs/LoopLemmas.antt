-- Parts of a file, one after the other, as a loop makes their contents.
use Rattle.std.proofs.Common.{◌≡◌, ℕ, ◌+◌, ◌<◌, ◌≤◌, List, [], ◌∷◌, ◌++◌, length, take, drop, get_or, map, refl, sym}
use Rattle.std.proofs.Common.{ap, ◌∙◌, subst, length-append}
use Rattle.std.specs.List.{flat_map, AllZip}
use Rattle.std.proofs.lemmas.List.{take_all, drop-drop, drop_more, append-nil, get_or_default}
use Rattle.std.proofs.lemmas.List.Folds.{flat_map-map}
use Rattle.std.proofs.lemmas.Grind.{flat_map-append}
use Rattle.jv_list.proofs.PlaceLemmas.{take_with}
use Rattle.cf_structure.specs.Raw.{RawCode}
use Rattle.cf_code.specs.declared.code.Placed.{Placed}
use Rattle.cf_class.specs.Calls.Contents.{HasContent, HaveContent, HaveBodies}
use Rattle.jv_list.proofs.ZipLemmas.{zip_push, zip_view, zip_viewed, beside}
use Rattle.cf_class.proofs.BodiesLemmas.{have_front, have_behind}

module _ {V A B : Type 0} (view : V → A) (R : A → B → Type 0) (xs : List V) where
  abbrev pub Viewed : V → B → Type 0
  Viewed v y = R (view v) y

  -- the contents of the first so many
  abbrev pub AreMade : ℕ → List B → Type 0
  AreMade count made = AllZip Viewed (take count xs) made

  module _ (i : ℕ) (x : V) (lt : i < length xs) (is : x ≡ get_or xs i x) where
    -- each part has a content where all have
    pub content_there : HaveContent R (map view xs) → HasContent R (view x)
    content_there h = beside Viewed xs h.0 x (zip_view view R xs h.0 h.1) (i, lt, sym is)

    pub made_more : (made : List B) (y : B) → AreMade i made → R (view x) y → AreMade (i + 1) (made ++ y ∷ [])
    made_more made y done h =
        subst (λ (vs : List V). AllZip Viewed vs (made ++ y ∷ [])) (sym (take_with xs i x lt is))
        (zip_push Viewed (take i xs) made x y done h)

  -- the same of a part that is read with a value for where there is none
  module _ (i : ℕ) (lt : i < length xs) where
    read_is : (d : V) → get_or xs i d ≡ get_or xs i (get_or xs i d)
    read_is d = get_or_default xs i d (get_or xs i d) lt

    pub content_read : (d : V) → HaveContent R (map view xs) → HasContent R (view (get_or xs i d))
    content_read d h = content_there i (get_or xs i d) lt (read_is d) h

    pub made_read : (d : V) (made : List B) (y : B) → AreMade i made → R (view (get_or xs i d)) y
        → AreMade (i + 1) (made ++ y ∷ [])
    made_read d made y done h = made_more i (get_or xs i d) lt (read_is d) made y done h

  pub made_all : (i : ℕ) (made : List B) → length xs ≤ i → AreMade i made → AllZip R (map view xs) made
  made_all i made le done =
      zip_viewed view R xs made (subst (λ (vs : List V). AllZip Viewed vs made) (take_all i xs le) done)

  -- the same, while the instructions of their Codes are taken from a list
  module _ (codes : A → List RawCode) (old : List (List Placed)) where
    abbrev codes_of : V → List RawCode
    codes_of v = codes (view v)

    pub record AreTaken (count : ℕ) (contents : List B) (now : List (List Placed)) : Type 0 where
      pub are_made : AreMade count contents
      pub left : HaveBodies (flat_map codes_of (drop count xs)) now
      pub now_is : now ≡ drop (length (flat_map codes_of (take count xs))) old

    pub none_taken : HaveBodies (flat_map codes (map view xs)) old → AreTaken 0 [] old
    none_taken h = record {
      are_made = tt;
      left = subst (λ (cs : List RawCode). HaveBodies cs old) (flat_map-map codes view xs) h;
      now_is = refl;
    }

    module _ (i : ℕ) (x : V) (lt : i < length xs) (is : x ≡ get_or xs i x) (contents : List B)
        (now : List (List Placed)) (done : AreTaken i contents now) where
      rest_is : drop i xs ≡ x ∷ drop (i + 1) xs
      rest_is = drop_more xs i x lt ∙ ap (λ (v : V). v ∷ drop (i + 1) xs) (sym is)

      both : HaveBodies (codes_of x ++ flat_map codes_of (drop (i + 1) xs)) now
      both = subst (λ (vs : List V). HaveBodies (flat_map codes_of vs) now) rest_is done.left

      pub bodies_there : HaveBodies (codes (view x)) now
      bodies_there = have_front (codes_of x) (flat_map codes_of (drop (i + 1) xs)) now both

      count_is : length (flat_map codes_of (take i xs)) + length (codes_of x)
          ≡ length (flat_map codes_of (take (i + 1) xs))
      count_is =
          sym (ap (λ (vs : List V). length (flat_map codes_of vs)) (take_with xs i x lt is)
          ∙ ap length (flat_map-append codes_of (take i xs) (x ∷ []))
          ∙ length-append (flat_map codes_of (take i xs)) (flat_map codes_of (x ∷ []))
          ∙ ap (λ (cs : List RawCode). length (flat_map codes_of (take i xs)) + length cs) (append-nil (codes_of x)))

      pub taken_more : (y : B) (next : List (List Placed)) → R (view x) y → next ≡ drop (length (codes (view x))) now
          → AreTaken (i + 1) (contents ++ y ∷ []) next
      taken_more y next h next_is = record {
        are_made = made_more i x lt is contents y done.are_made h;
        left = subst (HaveBodies (flat_map codes_of (drop (i + 1) xs))) (sym next_is)
            (have_behind (codes_of x) (flat_map codes_of (drop (i + 1) xs)) now both);
        now_is = next_is ∙ ap (λ (bs : List (List Placed)). drop (length (codes_of x)) bs) done.now_is
            ∙ drop-drop (length (codes_of x)) (length (flat_map codes_of (take i xs))) old
            ∙ ap (λ (n : ℕ). drop n old) count_is;
      }

    pub taken_left : (i : ℕ) (contents : List B) (now : List (List Placed)) → length xs ≤ i → AreTaken i contents now
        → now ≡ drop (length (flat_map codes (map view xs))) old
    taken_left i contents now le done =
        done.now_is ∙ ap (λ (vs : List V). drop (length (flat_map codes_of vs)) old) (take_all i xs le)
        ∙ ap (λ (cs : List RawCode). drop (length cs) old) (sym (flat_map-map codes view xs))
