-- The package of a class name, from its last byte on.
use Rattle.std.proofs.Common.{◌≡◌, ℕ, Bool, true, false, cond, List, [], ◌∷◌, ◌++◌, reverse, sym, ◌∙◌, ap}
use Rattle.std.specs.Prelude.{nat_eq}
use Rattle.std.proofs.lemmas.List.{reverse-append, reverse-reverse}
use Rattle.hi_tree.specs.Sought.{from_slash, package_of}

module _ (xs : List ℕ) (x : ℕ) where
  last_first : reverse (xs ++ x ∷ []) ≡ x ∷ reverse xs
  last_first = simp reverse-append

  pub package_front : nat_eq x 47 ≡ false → package_of (xs ++ x ∷ []) ≡ package_of xs
  package_front e =
      ap (λ (l : List ℕ). reverse (from_slash l)) last_first
      ∙ ap (λ (t : Bool). reverse (cond t (x ∷ reverse xs) (from_slash (reverse xs)))) e

  pub package_last : nat_eq x 47 ≡ true → package_of (xs ++ x ∷ []) ≡ xs ++ x ∷ []
  package_last e =
      ap (λ (l : List ℕ). reverse (from_slash l)) last_first
      ∙ ap (λ (t : Bool). reverse (cond t (x ∷ reverse xs) (from_slash (reverse xs)))) e
      ∙ ap reverse (sym last_first) ∙ reverse-reverse (xs ++ x ∷ [])
