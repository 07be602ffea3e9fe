-- The bytes that no class name has.
use Rattle.std.proofs.Common.{◌≢◌, ℕ, List, [], ◌∷◌, sym, subst, arith}
use Rattle.std.specs.List.{All, join_with_byte}
use Rattle.std.proofs.lemmas.List.Elements.{All-nil, All-cons, All-head, All-tail, All-weaker, All-append}
use Rattle.jv_base.specs.Names.{IsNameByte, IsUnqualifiedName, IsClassName}

-- a byte that no unqualified name has, and that is no `/`
module _ (c : ℕ) (slash : 47 ≢ c) (other : (b : ℕ) → IsNameByte b → b ≢ c) where
  abbrev IsOther : ℕ → Type 0
  IsOther b = b ≢ c

  part_without : (part : List ℕ) → IsUnqualifiedName part → All IsOther part
  part_without part h = All-weaker IsNameByte IsOther other part h.1

  joined_without : (parts : List (List ℕ)) → All IsUnqualifiedName parts → All IsOther (join_with_byte 47 parts)
  joined_without [] all = All-nil IsOther
  joined_without (x ∷ []) all = part_without x (All-head IsUnqualifiedName x [] all)
  joined_without (x ∷ y ∷ xs) all =
      let rest = joined_without (y ∷ xs) (All-tail IsUnqualifiedName x (y ∷ xs) all) in
      All-append IsOther x (47 ∷ join_with_byte 47 (y ∷ xs))
      (part_without x (All-head IsUnqualifiedName x (y ∷ xs) all))
      (All-cons IsOther 47 (join_with_byte 47 (y ∷ xs)) slash rest)

  class_without : (name : List ℕ) → IsClassName name → All IsOther name
  class_without name h = subst (λ (n : List ℕ). All IsOther n) (sym h.3) (joined_without h.0 h.2)

pub no_mark : (name : List ℕ) → IsClassName name → All (λ b. b ≢ 59) name
no_mark = class_without 59 (λ e. omega (arith, e)) (λ b n. n.1)

pub no_bracket : (name : List ℕ) → IsClassName name → All (λ b. b ≢ 91) name
no_bracket = class_without 91 (λ e. omega (arith, e)) (λ b n. n.2)
