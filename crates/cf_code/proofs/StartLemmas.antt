-- The starts into which bytes fall, by the sizes of instructions alone.
use Rattle.std.proofs.Common.{◌≡◌, inl, inr, ◌<◌, ◌≤◌, ◌+◌, ℕ, zero, suc, List, [], ◌∷◌, ◌++◌, length, take, drop}
use Rattle.std.proofs.Common.{get_or, refl, sym, ap, subst, ◌∙◌, arith}
use Rattle.std.specs.Prelude.{◌⊎◌}
use Rattle.std.proofs.lemmas.List.{drop_all, get_or_default}
use Rattle.std.proofs.lemmas.Bool.{cases_lt}
use Rattle.cf_code.specs.Decoding.{FallsInto, HasStarts}
use Rattle.cf_code.specs.Sizes.{HasSize}
use Rattle.cf_code.proofs.SizeLemmas.{one_size, size_inside}

module _ (bytes : List ℕ) where
  -- one more instruction
  pub falls_more : (pc : ℕ) (starts : List ℕ) (stop size : ℕ) → FallsInto bytes pc starts stop
      → HasSize stop (drop stop bytes) size → FallsInto bytes pc (starts ++ stop ∷ []) (stop + size)
  falls_more pc [] stop size f h =
      let here = subst (λ (p : ℕ). HasSize p (drop p bytes) size) (sym f) h in
      (sym f, (size, here, ap (λ (p : ℕ). p + size) f))
  falls_more pc (s ∷ ss) stop size f h = (f.0, (f.1.0, f.1.1, falls_more (pc + f.1.0) ss stop size f.1.2 h))

  -- the starts before one lead up to it
  pub falls_take : (pc : ℕ) (starts : List ℕ) (stop k d : ℕ) → FallsInto bytes pc starts stop → k < length starts
      → FallsInto bytes pc (take k starts) (get_or starts k d)
  falls_take pc [] stop k d f l = absurd (omega arith)
  falls_take pc (s ∷ ss) stop zero d f l = sym f.0
  falls_take pc (s ∷ ss) stop (suc k) d f l =
      (f.0, (f.1.0, f.1.1, falls_take (pc + f.1.0) ss stop k d f.1.2 (omega arith)))

  -- the starts lie between the first pc and the end of the bytes
  falls_at : (pc : ℕ) (starts : List ℕ) (stop i d : ℕ) → FallsInto bytes pc starts stop → i < length starts
      → (pc ≤ get_or starts i d) × (get_or starts i d < length bytes)
  falls_at pc [] stop i d f l = absurd (omega arith)
  falls_at pc (s ∷ ss) stop zero d f l =
      let inside = size_inside bytes pc f.1.0 f.1.1 in
      (omega (arith, f.0), omega (arith, f.0, inside.0, inside.1))
  falls_at pc (s ∷ ss) stop (suc i) d f l =
      let rest = falls_at (pc + f.1.0) ss stop i d f.1.2 (omega arith) in
      (omega (arith, rest.0), rest.1)

  falls_ascends : (pc : ℕ) (starts : List ℕ) (stop : ℕ) → FallsInto bytes pc starts stop → (i j : ℕ) → i ≤ j
      → j < length starts → get_or starts i 0 ≤ get_or starts j 0
  falls_ascends pc [] stop f i j le l = absurd (omega arith)
  falls_ascends pc (s ∷ ss) stop f zero zero le l = omega arith
  falls_ascends pc (s ∷ ss) stop f zero (suc j) le l =
      let rest = falls_at (pc + f.1.0) ss stop j 0 f.1.2 (omega arith) in
      omega (arith, f.0, rest.0)
  falls_ascends pc (s ∷ ss) stop f (suc i) zero le l = absurd (omega arith)
  falls_ascends pc (s ∷ ss) stop f (suc i) (suc j) le l =
      falls_ascends (pc + f.1.0) ss stop f.1.2 i j (omega arith) (omega arith)

  pub start_inside : (starts : List ℕ) (stop i d : ℕ) → HasStarts bytes starts stop → i < length starts
      → get_or starts i d < length bytes
  start_inside starts stop i d has l = (falls_at 0 starts stop i d has.falls l).1

  -- an earlier start is at a lesser index
  pub earlier_index : (starts : List ℕ) (stop j k early pc : ℕ) → HasStarts bytes starts stop → j < length starts
      → get_or starts j early ≡ early → k < length starts → pc ≡ get_or starts k pc → early < pc → j < k
  earlier_index starts stop j k early pc has jl je kl ke lt =
      elim (cases_lt j k) [
        | inl less ↦ less
        | inr le ↦
            let ascends = falls_ascends 0 starts stop has.falls k j le jl in
            let same_j = get_or_default starts j early 0 jl in
            let same_k = get_or_default starts k pc 0 kl in
            absurd (omega (arith, ascends, je, ke, lt, same_j, same_k))
      ]

  -- ---- one list of starts

  -- at a stop no instruction begins
  abbrev pub Ends : ℕ → Type 0
  Ends stop = (stop ≡ length bytes) ⊎ ((size : ℕ) → HasSize stop (drop stop bytes) size → ⊥)

  pub no_more : (stop size : ℕ) → Ends stop → HasSize stop (drop stop bytes) size → ⊥
  no_more stop size (inl is) h =
      subst (λ (b : List ℕ). HasSize stop b size) (drop_all stop bytes (omega (arith, is))) h
  no_more stop size (inr none) h = none size h

  one_fall : (pc : ℕ) (xs ys : List ℕ) (m n : ℕ) → FallsInto bytes pc xs m → FallsInto bytes pc ys n → Ends m → Ends n
      → (xs ≡ ys) × (m ≡ n)
  one_fall pc [] [] m n x y p q = (refl, sym x ∙ y)
  one_fall pc [] (b ∷ ys) m n x y p q = absurd (no_more pc y.1.0 (subst (λ (s : ℕ). Ends s) (sym x) p) y.1.1)
  one_fall pc (a ∷ xs) [] m n x y p q = absurd (no_more pc x.1.0 (subst (λ (s : ℕ). Ends s) (sym y) q) x.1.1)
  one_fall pc (a ∷ xs) (b ∷ ys) m n x y p q =
      let same = one_size pc (drop pc bytes) y.1.0 x.1.0 y.1.1 x.1.1 in
      let behind = subst (λ (s : ℕ). FallsInto bytes (pc + s) ys n) same y.1.2 in
      let rest = one_fall (pc + x.1.0) xs ys m n x.1.2 behind p q in
      let first = x.0 ∙ sym y.0 in
      (cc, rest.1)

  -- bytes have one list of starts
  pub one_starts : (xs ys : List ℕ) (m n : ℕ) → HasStarts bytes xs m → HasStarts bytes ys n → (xs ≡ ys) × (m ≡ n)
  one_starts xs ys m n x y = one_fall 0 xs ys m n x.falls y.falls x.ends y.ends
