-- A list in two: at its first mark, behind its first run of a mark, and at a front of it.
use Rattle.std.proofs.Common.{◌≡◌, ◌≢◌, ℕ, zero, suc, ◌+◌, ◌≤◌, List, [], ◌∷◌, ◌++◌, length, length-append, get_or}
use Rattle.std.proofs.Common.{take, replicate, refl, sym, ap, ◌∙◌, arith, inl, inr, ◌⊎◌}
use Rattle.std.specs.List.{All}
use Rattle.std.proofs.Math.Seq.{take-append-add}
use Rattle.std.proofs.lemmas.List.{get_or_at, nil_from_length}
use Rattle.std.proofs.lemmas.List.Elements.{All-head, All-tail}

module _ {X : Type 0} where
  -- a list of one element and others tells both
  pub cons_same : (x y : X) (xs ys : List X) → x ∷ xs ≡ y ∷ ys → (x ≡ y) × (xs ≡ ys)
  cons_same x y xs ys e = (cc, cc)

  -- no elements are not some
  pub nil_cons : (x : X) (xs : List X) → [] ≡ x ∷ xs → ⊥
  nil_cons x xs e = cc

  -- fronts of one length are the same, and so is what follows them
  pub split_same : (a b c d : List X) → length a ≡ length b → a ++ c ≡ b ++ d → (a ≡ b) × (c ≡ d)
  split_same [] [] c d long is = (refl, is)
  split_same [] (y ∷ b) c d long is = absurd (omega arith)
  split_same (x ∷ a) [] c d long is = absurd (omega arith)
  split_same (x ∷ a) (y ∷ b) c d long is =
      let first = cons_same x y (a ++ c) (b ++ d) is in
      let rest = split_same a b c d (omega arith) first.1 in
      (ap (λ (z : X). z ∷ a) first.0 ∙ ap (λ (zs : List X). y ∷ zs) rest.0, rest.1)

  -- of two fronts of a list the longer begins with the other
  pub front_of : (xs a ys b : List X) → xs ++ a ≡ ys ++ b → length ys ≤ length xs → (w : List X) × (xs ≡ ys ++ w)
  front_of xs a [] b e long = (xs, refl)
  front_of [] a (y ∷ ys) b e long = absurd (omega arith)
  front_of (x ∷ xs) a (y ∷ ys) b e long =
      let first = cons_same x y (xs ++ a) (ys ++ b) e in
      let rest = front_of xs a ys b first.1 (omega arith) in
      (rest.0, ap (λ (z : X). z ∷ xs) first.0 ∙ ap (λ (zs : List X). y ∷ zs) rest.1)

  -- a list with one more element that is two lists: the second is empty, or has that element
  pub snoc_split : (xs a b : List X) (x : X) → xs ++ x ∷ [] ≡ a ++ b
      → (a ≡ xs ++ x ∷ []) ⊎ ((w : List X) × (xs ≡ a ++ w))
  snoc_split xs [] b x e = inr (xs, refl)
  snoc_split [] (y ∷ a) b x e =
      let first = cons_same x y [] (a ++ b) e in
      let none : a ≡ [] = nil_from_length a (omega (arith, ap length first.1, length-append a b)) in
      inl (ap (λ (zs : List X). y ∷ zs) none ∙ ap (λ (z : X). z ∷ []) (sym first.0))
  snoc_split (z ∷ xs) (y ∷ a) b x e =
      let first = cons_same z y (xs ++ x ∷ []) (a ++ b) e in
      elim (snoc_split xs a b x first.1) [
        | inl whole ↦ inl (ap (λ (v : X). v ∷ a) (sym first.0) ∙ ap (λ (zs : List X). z ∷ zs) whole)
        | inr part ↦ inr (part.0, ap (λ (v : X). v ∷ xs) first.0 ∙ ap (λ (zs : List X). y ∷ zs) part.1)
      ]

  -- some elements have a last one
  pub last_of : (x : X) (xs : List X) → (front : List X) × (last : X) × (x ∷ xs ≡ front ++ last ∷ [])
  last_of x [] = ([], x, refl)
  last_of x (y ∷ ys) = let rest = last_of y ys in (x ∷ rest.0, rest.1, ap (λ (zs : List X). x ∷ zs) rest.2)

  -- the same of a list that is not empty
  pub split_last : (count : ℕ) (xs : List X) → length xs ≡ count + 1
      → (front : List X) × (last : X) × (xs ≡ front ++ last ∷ [])
  split_last count [] long = absurd (omega arith)
  split_last count (x ∷ xs) long = last_of x xs

module _ {X : Type 0} (c : X) where
  -- the first mark cuts a list in one way
  pub cut_same : (xs ys a b : List X) → All (λ d. d ≢ c) xs → All (λ d. d ≢ c) ys → xs ++ c ∷ a ≡ ys ++ c ∷ b
      → (xs ≡ ys) × (a ≡ b)
  cut_same [] [] a b h k e = (refl, (cons_same c c a b e).1)
  cut_same [] (y ∷ ys) a b h k e = absurd (All-head (λ d. d ≢ c) y ys k (sym (cons_same c y a (ys ++ c ∷ b) e).0))
  cut_same (x ∷ xs) [] a b h k e = absurd (All-head (λ d. d ≢ c) x xs h (cons_same x c (xs ++ c ∷ a) b e).0)
  cut_same (x ∷ xs) (y ∷ ys) a b h k e =
      let first = cons_same x y (xs ++ c ∷ a) (ys ++ c ∷ b) e in
      let rest = cut_same xs ys a b (All-tail (λ d. d ≢ c) x xs h) (All-tail (λ d. d ≢ c) y ys k) first.1 in
      (ap (λ (z : X). z ∷ xs) first.0 ∙ ap (λ (zs : List X). y ∷ zs) rest.0, rest.1)

  -- a list with a mark in it has one
  pub not_without : (xs a all : List X) → all ≡ xs ++ c ∷ a → All (λ d. d ≢ c) all → ⊥
  not_without xs a all e h =
      let size : length all ≡ length xs + length (c ∷ a) = ap length e ∙ length-append xs (c ∷ a) in
      let at : get_or (xs ++ c ∷ a) (length xs) c ≡ c = get_or_at xs c a c (length xs) refl in
      h (length xs) c (omega arith) (ap (λ (zs : List X). get_or zs (length xs) c) e ∙ at)

  -- what has no mark ends before the first mark
  pub before_mark : (front rest a b : List X) → All (λ d. d ≢ c) front → front ++ rest ≡ a ++ c ∷ b
      → (r : List X) × (a ≡ front ++ r)
  before_mark [] rest a b none e = (a, refl)
  before_mark (x ∷ front) rest [] b none e =
      absurd (All-head (λ d. d ≢ c) x front none (cons_same x c (front ++ rest) b e).0)
  before_mark (x ∷ front) rest (y ∷ a) b none e =
      let first = cons_same x y (front ++ rest) (a ++ c ∷ b) e in
      let found = before_mark front rest a b (All-tail (λ d. d ≢ c) x front none) first.1 in
      (found.0, ap (λ (z : X). z ∷ a) (sym first.0) ∙ ap (λ (zs : List X). x ∷ zs) found.1)

  -- a front that goes past the mark
  pub take_past : (a after : List X) (count : ℕ)
      → take (length a + 1 + count) (a ++ c ∷ after) ≡ a ++ c ∷ take count after
  take_past a after count =
      ap (λ (n : ℕ). take n (a ++ c ∷ after)) (omega arith) ∙ take-append-add a (c ∷ after) (suc count)

  -- runs of the mark before something else are as long, and the same follows them
  pub run_same : (m n : ℕ) (xs ys : List X) → ((r : List X) → xs ≢ c ∷ r) → ((r : List X) → ys ≢ c ∷ r)
      → replicate m c ++ xs ≡ replicate n c ++ ys → (m ≡ n) × (xs ≡ ys)
  run_same zero zero xs ys h k e = (refl, e)
  run_same zero (suc n) xs ys h k e = absurd (h (replicate n c ++ ys) e)
  run_same (suc m) zero xs ys h k e = absurd (k (replicate m c ++ xs) (sym e))
  run_same (suc m) (suc n) xs ys h k e =
      let same = run_same m n xs ys h k (cons_same c c (replicate m c ++ xs) (replicate n c ++ ys) e).1 in
      (ap suc same.0, same.1)

  -- a run of one more, with the mark behind the others
  pub run_more : (n : ℕ) (rest : List X) → replicate (suc n) c ++ rest ≡ replicate n c ++ c ∷ rest
  run_more zero rest = refl
  run_more (suc n) rest = ap (λ (zs : List X). c ∷ zs) (run_more n rest)

  -- what begins with another element than the mark
  pub other_first : (xs : List X) (d : X) → get_or xs 0 d ≢ c → (r : List X) → xs ≢ c ∷ r
  other_first xs d other r e = other (ap (λ (zs : List X). get_or zs 0 d) e)
