-- A list of elements that is read from the front of its text.
use Rattle.std.proofs.Common.{◌≡◌, List, [], ◌∷◌, ◌++◌, refl, sym, ap, ◌∙◌, append_assoc, append-nil}
use Rattle.std.specs.List.{flat_map, All}
use Rattle.std.proofs.lemmas.List.{flat_map_more}
use Rattle.std.proofs.lemmas.List.Elements.{All-nil, All-head, All-tail, All-push}
use Rattle.jv_list.proofs.ToldLemmas.{Tells, BeginsNone, told_front}

module _ {X A : Type 0} (one : X → List A) (F : X → Type 0) where
  -- the elements are read, the rest follows them, and each list of elements of the whole text begins with them
  pub record Front (text : List A) (xs : List X) (rest : List A) : Type 0 where
    pub front : text ≡ flat_map one xs ++ rest
    pub fits : All F xs
    pub only : (ys : List X) → All F ys → text ≡ flat_map one ys
        → (more : List X) × (ys ≡ xs ++ more) × (rest ≡ flat_map one more) × All F more

  -- nothing is read
  pub front_none : (text : List A) → Front text [] text
  front_none text = record { front = refl; fits = All-nil F; only = λ ys fits is. (ys, refl, is, fits) }

  -- elements that a text is told by are read, whatever follows them
  pub front_told : Tells one F → BeginsNone one F [] → (text : List A) (xs : List X) (rest : List A)
      → text ≡ flat_map one xs ++ rest → All F xs → Front text xs rest
  front_told tells none text xs rest is fits = record {
    front = is;
    fits = fits;
    only = λ ys all ys-is.
        let whole : flat_map one xs ++ rest ≡ flat_map one ys ++ [] =
        sym is ∙ ys-is ∙ sym (append-nil (flat_map one ys)) in
        let m = told_front one F tells xs ys rest [] fits all none whole in
        (m.0, m.1, m.2 ∙ append-nil (flat_map one m.0), m.3);
  }

  -- where more is left, a further element is
  next : (rest : List A) (more : List X) → (rest ≡ [] → ⊥) → rest ≡ flat_map one more → All F more
      → (y : X) × (ys : List X) × (more ≡ y ∷ ys) × (rest ≡ one y ++ flat_map one ys) × F y × All F ys
  next rest [] filled is fits = absurd (filled is)
  next rest (y ∷ ys) filled is fits = (y, ys, refl, is, All-head F y ys fits, All-tail F y ys fits)

  -- one more element is read
  pub front_more : (text : List A) (xs : List X) (x : X) (rest after : List A) → Front text xs rest
      → rest ≡ one x ++ after → (rest ≡ [] → ⊥) → F x
      → ((y : X) (behind : List A) → F y → rest ≡ one y ++ behind → (x ≡ y) × (after ≡ behind))
      → Front text (xs ++ x ∷ []) after
  front_more text xs x rest after h is filled fits same = record {
    front = h.front ∙ ap (λ (s : List A). flat_map one xs ++ s) is ∙ sym (append_assoc (flat_map one xs) (one x) after)
        ∙ ap (λ (s : List A). s ++ after) (flat_map_more one [] xs x);
    fits = All-push F xs x h.fits fits;
    only = λ ys all ys-is.
        let m = h.only ys all ys-is in
        let e = next rest m.0 filled m.2 m.3 in
        let first = same e.0 (flat_map one e.1) e.4 e.3 in
        let others : m.0 ≡ x ∷ e.1 = e.2 ∙ ap (λ (z : X). z ∷ e.1) (sym first.0) in
        (e.1, m.1 ∙ ap (λ (zs : List X). xs ++ zs) others ∙ sym (append_assoc xs (x ∷ []) e.1), first.1, e.5);
  }

  -- a text whose rest begins no element is no text of elements
  pub front_stuck : (text : List A) (xs : List X) (rest : List A) → Front text xs rest → (rest ≡ [] → ⊥)
      → BeginsNone one F rest → (ys : List X) → All F ys → text ≡ flat_map one ys → ⊥
  front_stuck text xs rest h filled none ys all is =
      let m = h.only ys all is in
      let e = next rest m.0 filled m.2 m.3 in
      none e.0 (flat_map one e.1) e.4 e.3

  -- where nothing is left, there are no further elements
  no_others : (xs more : List X) → BeginsNone one F [] → All F more → [] ≡ flat_map one more → xs ++ more ≡ xs
  no_others xs [] none fits is = append-nil xs
  no_others xs (y ∷ ys) none fits is = absurd (none y (flat_map one ys) (All-head F y ys fits) is)

  -- the elements that are read, where nothing is left, are those of the text
  pub front_end : (text : List A) (xs : List X) → Front text xs [] → BeginsNone one F []
      → (ys : List X) → All F ys → text ≡ flat_map one ys → xs ≡ ys
  front_end text xs h none ys all is = let m = h.only ys all is in sym (m.1 ∙ no_others xs m.0 none m.3 m.2)

  -- and their text is the whole
  pub front_whole : (text : List A) (xs : List X) → Front text xs [] → text ≡ flat_map one xs
  front_whole text xs h = h.front ∙ append-nil (flat_map one xs)
