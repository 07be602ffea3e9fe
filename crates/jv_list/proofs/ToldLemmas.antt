-- A list is told by its text, where the text of each element tells the element and where its text ends.
use Rattle.std.proofs.Common.{◌≡◌, ℕ, ◌+◌, ◌-◌, ◌<◌, ◌≤◌, List, [], ◌∷◌, ◌++◌, length, length-append, map, refl, sym}
use Rattle.std.proofs.Common.{ap, ◌∙◌, append_assoc, append-nil, arith}
use Rattle.std.specs.List.{All, flat_map, sum_by}
use Rattle.std.proofs.lemmas.List.Elements.{All-head, All-tail}
use Rattle.std.proofs.lemmas.List.Sums.{sum_by-cons}

module _ {X A : Type 0} (one : X → List A) (F : X → Type 0) where
  -- the text of an element tells it, and what stands behind it
  abbrev pub Tells : Type 0
  Tells = (x y : X) (s t : List A) → F x → F y → one x ++ s ≡ one y ++ t → (x ≡ y) × (s ≡ t)

  -- no element begins the text
  abbrev pub BeginsNone : List A → Type 0
  BeginsNone text = (x : X) (behind : List A) → F x → text ≡ one x ++ behind → ⊥

  -- no element of the weight that is left begins the text
  abbrev pub BeginsNoneWithin : (X → ℕ) → ℕ → List A → Type 0
  BeginsNoneWithin weight left text = (x : X) (behind : List A) → F x → weight x ≤ left → text ≡ one x ++ behind → ⊥

  -- no element begins the empty text, where none has an empty text
  pub none_of_nil : ((x : X) → F x → 0 < length (one x)) → BeginsNone []
  none_of_nil filled x behind fits e = omega (arith, filled x fits, ap length e, length-append (one x) behind)

  -- lists of elements, read up to where no element of the weight left begins, are the same, and so are the rests
  pub told_within : Tells → (weight : X → ℕ) (total : ℕ) (xs ys : List X) (m n : ℕ) (a b : List A)
      → All F xs → All F ys → sum_by weight xs + m ≡ total → sum_by weight ys + n ≡ total
      → BeginsNoneWithin weight m a → BeginsNoneWithin weight n b
      → flat_map one xs ++ a ≡ flat_map one ys ++ b → (xs ≡ ys) × (a ≡ b)
  told_within tells weight total [] [] m n a b fx fy tx ty na nb e = (refl, e)
  told_within tells weight total [] (y ∷ ys) m n a b fx fy tx ty na nb e =
      let room : weight y ≤ m = omega (arith, tx, ty, sum_by-cons weight y ys) in
      absurd (na y (flat_map one ys ++ b) (All-head F y ys fy) room (e ∙ append_assoc (one y) (flat_map one ys) b))
  told_within tells weight total (x ∷ xs) [] m n a b fx fy tx ty na nb e =
      let room : weight x ≤ n = omega (arith, tx, ty, sum_by-cons weight x xs) in
      absurd (nb x (flat_map one xs ++ a) (All-head F x xs fx) room (sym e ∙ append_assoc (one x) (flat_map one xs) a))
  told_within tells weight total (x ∷ xs) (y ∷ ys) m n a b fx fy tx ty na nb e =
      let s = flat_map one xs ++ a in
      let t = flat_map one ys ++ b in
      let whole : one x ++ s ≡ one y ++ t =
      sym (append_assoc (one x) (flat_map one xs) a) ∙ e ∙ append_assoc (one y) (flat_map one ys) b in
      let first = tells x y s t (All-head F x xs fx) (All-head F y ys fy) whole in
      let same : weight x ≡ weight y = ap weight first.0 in
      let rest = told_within tells weight (total - weight x) xs ys m n a b (All-tail F x xs fx) (All-tail F y ys fy)
      (omega (arith, tx, sum_by-cons weight x xs)) (omega (arith, ty, same, sum_by-cons weight y ys)) na nb first.1 in
      (ap (λ (z : X). z ∷ xs) first.0 ∙ ap (λ (zs : List X). y ∷ zs) rest.0, rest.1)

  -- elements of no weight weigh nothing
  weightless : (xs : List X) → sum_by (λ (x : X). 0) xs + 0 ≡ 0
  weightless [] = refl
  weightless (x ∷ xs) = omega (arith, weightless xs, sum_by-cons (λ (y : X). 0) x xs)

  -- lists of elements before rests that no element begins are the same, and so are the rests
  pub told : Tells → (xs ys : List X) (a b : List A) → All F xs → All F ys → BeginsNone a → BeginsNone b
      → flat_map one xs ++ a ≡ flat_map one ys ++ b → (xs ≡ ys) × (a ≡ b)
  told tells xs ys a b fx fy na nb e =
      told_within tells (λ (x : X). 0) 0 xs ys 0 0 a b fx fy (weightless xs) (weightless ys)
      (λ x s f w k. na x s f k) (λ x s f w k. nb x s f k) e

  -- lists of elements of one text are the same
  pub told_all : Tells → (xs ys : List X) → All F xs → All F ys → BeginsNone [] → flat_map one xs ≡ flat_map one ys
      → xs ≡ ys
  told_all tells xs ys fx fy none e =
      (told tells xs ys [] [] fx fy none none (append-nil (flat_map one xs) ∙ e ∙ sym (append-nil (flat_map one ys)))).0

  -- what is read begins each list of elements of the text, and the rest of the text is that of the others
  pub told_front : Tells → (xs ys : List X) (a b : List A) → All F xs → All F ys → BeginsNone b
      → flat_map one xs ++ a ≡ flat_map one ys ++ b
      → (more : List X) × (ys ≡ xs ++ more) × (a ≡ flat_map one more ++ b) × All F more
  told_front tells [] ys a b fx fy nb e = (ys, refl, e, fy)
  told_front tells (x ∷ xs) [] a b fx fy nb e =
      absurd (nb x (flat_map one xs ++ a) (All-head F x xs fx) (sym e ∙ append_assoc (one x) (flat_map one xs) a))
  told_front tells (x ∷ xs) (y ∷ ys) a b fx fy nb e =
      let s = flat_map one xs ++ a in
      let t = flat_map one ys ++ b in
      let whole : one x ++ s ≡ one y ++ t =
      sym (append_assoc (one x) (flat_map one xs) a) ∙ e ∙ append_assoc (one y) (flat_map one ys) b in
      let first = tells x y s t (All-head F x xs fx) (All-head F y ys fy) whole in
      let rest = told_front tells xs ys a b (All-tail F x xs fx) (All-tail F y ys fy) nb first.1 in
      (rest.0, ap (λ (z : X). z ∷ ys) (sym first.0) ∙ ap (λ (zs : List X). x ∷ zs) rest.1, rest.2, rest.3)

  -- a longer list of elements goes on with the next element
  pub told_longer : Tells → (xs ys more : List X) (x : X) (rest : List A) → All F xs → F x → All F ys
      → flat_map one (xs ++ x ∷ more) ≡ flat_map one ys ++ rest → length (flat_map one xs) < length (flat_map one ys)
      → (others : List X) × (ys ≡ xs ++ x ∷ others)
  told_longer tells xs [] more x rest fx fits fy e longer = absurd (omega (arith, longer))
  told_longer tells [] (y ∷ ys) more x rest fx fits fy e longer =
      let first = tells x y (flat_map one more) (flat_map one ys ++ rest) fits (All-head F y ys fy)
      (e ∙ append_assoc (one y) (flat_map one ys) rest) in
      (ys, ap (λ (z : X). z ∷ ys) (sym first.0))
  told_longer tells (b ∷ xs) (y ∷ ys) more x rest fx fits fy e longer =
      let whole = e ∙ append_assoc (one y) (flat_map one ys) rest in
      let s = flat_map one (xs ++ x ∷ more) in
      let first = tells b y s (flat_map one ys ++ rest) (All-head F b xs fx) (All-head F y ys fy) whole in
      let size : length (one b) ≡ length (one y) = ap (λ (z : X). length (one z)) first.0 in
      let shorter : length (flat_map one xs) < length (flat_map one ys) =
      omega (arith, longer, size, length-append (one b) (flat_map one xs), length-append (one y) (flat_map one ys)) in
      let found = told_longer tells xs ys more x rest (All-tail F b xs fx) fits (All-tail F y ys fy) first.1 shorter in
      (found.0, ap (λ (z : X). z ∷ ys) (sym first.0) ∙ ap (λ (zs : List X). b ∷ zs) found.1)

module _ {X Y : Type 0} (f : X → Y) where
  -- a list is told by what a function gives of its elements, where that tells each element
  pub told_map : ((x y : X) → f x ≡ f y → x ≡ y) → (xs ys : List X) → map f xs ≡ map f ys → xs ≡ ys
  told_map tells [] [] e = refl
  told_map tells [] (y ∷ ys) e = absurd cc
  told_map tells (x ∷ xs) [] e = absurd cc
  told_map tells (x ∷ xs) (y ∷ ys) e =
      let first : f x ≡ f y = cc in
      let rest : map f xs ≡ map f ys = cc in
      ap (λ (z : X). z ∷ xs) (tells x y first) ∙ ap (λ (zs : List X). y ∷ zs) (told_map tells xs ys rest)
