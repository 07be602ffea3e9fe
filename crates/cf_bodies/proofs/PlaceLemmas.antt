-- The Codes of structures, one after the other, as a loop finds them.
use Rattle.std.proofs.Common.{◌≡◌, ℕ, ◌+◌, ◌<◌, ◌≤◌, List, [], ◌++◌, length, take, get_or, map, sym, ap, ◌∙◌}
use Rattle.std.proofs.Common.{arith, add-zero, append_assoc}
use Rattle.std.specs.List.{flat_map}
use Rattle.std.proofs.lemmas.List.{take_all, append-nil}
use Rattle.jv_list.specs.Places.{each_at, each_place}
use Rattle.jv_list.proofs.EachLemmas.{each_none, each_fits, each_next, each_more, one_of, text_of, each_map, text_map}
use Rattle.cf_bodies.specs.Places.{PlacedCode}

module _ {A B : Type 0} (view : B → A) (one : ℕ → A → List PlacedCode) (text : A → List ℕ) (start : ℕ)
    (old : List PlacedCode) (xs : List B) where
  abbrev each : List B → ℕ → B → List PlacedCode
  each = one_of view (λ (earlier : List A). one)

  abbrev texts : B → List ℕ
  texts = text_of view text

  -- the Codes of the first so many, and where these end
  pub record AreFound (count place : ℕ) (found : List PlacedCode) : Type 0 where
    pub place_is : place ≡ start + length (flat_map texts (take count xs))
    pub found_is : found ≡ old ++ each_at each texts [] start (take count xs)

  pub none_found : AreFound 0 start old
  none_found = record {
    place_is = sym (add-zero start);
    found_is = sym (ap (λ (cs : List PlacedCode). old ++ cs) (each_none each texts [] start) ∙ append-nil old);
  }

  module _ (i place : ℕ) (found : List PlacedCode) (x : B) (lt : i < length xs) (is : x ≡ get_or xs i x)
      (done : AreFound i place found) where
    pub fits_next : place + length (text (view x)) ≤ start + length (flat_map text (map view xs))
    fits_next =
        let fits = each_fits each texts start xs i place x lt is done.place_is in
        omega (arith, fits, ap length (text_map view (λ (earlier : List A). one) text xs))

    pub found_next : (next : ℕ) (more : List PlacedCode) → next ≡ place + length (text (view x))
        → more ≡ found ++ one place (view x)
        → AreFound (i + 1) next more
    found_next next more next_is more_is = record {
      place_is = next_is ∙ each_next each texts start xs i place x lt is done.place_is;
      found_is = more_is ∙ ap (λ (cs : List PlacedCode). cs ++ one place (view x)) done.found_is
          ∙ append_assoc old (each_at each texts [] start (take i xs)) (one place (view x))
          ∙ ap (λ (cs : List PlacedCode). old ++ cs) (sym (each_more each texts start xs i place x lt is
          done.place_is));
    }

  pub all_found : (i place : ℕ) (found : List PlacedCode) → length xs ≤ i → AreFound i place found
      → found ≡ old ++ each_place one text start (map view xs)
  all_found i place found le done =
      done.found_is ∙ ap (λ (ys : List B). old ++ each_at each texts [] start ys) (take_all i xs le)
      ∙ ap (λ (cs : List PlacedCode). old ++ cs) (each_map view (λ (earlier : List A). one) text [] start xs)
