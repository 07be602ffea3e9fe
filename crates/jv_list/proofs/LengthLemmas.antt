-- How long lists are that are made of others.
use Rattle.std.proofs.Common.{◌≡◌, ℕ, ◌*◌, ◌-◌, ◌<◌, List, [], ◌∷◌, ◌++◌, length, length-append, ap, arith}
use Rattle.std.specs.List.{flat_map}

module _ {X A : Type 0} where
  -- texts of one length each
  pub length-flat_map_each : (one : X → List A) (n : ℕ) → ((x : X) → length (one x) ≡ n) → (xs : List X)
      → length (flat_map one xs) ≡ length xs * n
  length-flat_map_each one n each [] = omega arith
  length-flat_map_each one n each (x ∷ xs) =
      omega (arith, length-append (one x) (flat_map one xs), each x, length-flat_map_each one n each xs)

module _ {X : Type 0} where
  -- a list without its last element
  pub one_less : (xs : List X) (x : X) → length (xs ++ x ∷ []) - 1 ≡ length xs
  one_less xs x = omega (arith, length-append xs (x ∷ []))

  -- some elements are left only where there are some
  pub nothing_left : (rest : List X) → [] ≡ rest → 0 < length rest → ⊥
  nothing_left rest e some = let size : 0 ≡ length rest = ap length e in omega arith
