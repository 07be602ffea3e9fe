-- Stacks in runs: how many words they have, whether they are the same, and what effects give.
use Rattle.std.proofs.Common.{◌≡◌, ℕ, ◌+◌, ◌≤◌, List, [], ◌∷◌, ◌++◌, refl, sym, ap, subst, ◌∙◌, arith}
use Rattle.std.proofs.Common.{Bool, true, false, Option, Some, None, IsTrue}
use Rattle.std.specs.Prelude.{IfSome, IfNone, is_some}
use Rattle.std.specs.Cmp.Lexicographic.{pointwise}
use Rattle.std.proofs.lemmas.Slice.Eq.{slice_eq-Decides}
use Rattle.ck_shapes.specs.contracts.shape.ValueTypePartialEq.TheImpl.{eq-value}
use Rattle.ck_shapes.specs.declared.shape.ValueType.{ValueType}
use Rattle.ck_shapes.specs.declared.effect.Move.{Move}
use Rattle.ck_shapes.specs.Shape.{words, IsMoved, IsReplaced}
use Rattle.ck_shapes.specs.Calls.Joins.{GivesMoved, GivesReplaced}
use Rattle.ck_shapes.specs.Calls.Runs.{joined}
use Rattle.ck_shapes.proofs.StackLemmas.{type_decides, words_append}

-- ---- what a test tells

pub some_moved : (how : Move) (top new : List ValueType) (o : Option (List ValueType)) → o ≡ Some new
    → GivesMoved how top o → IsMoved how top new
some_moved how top new o is g = subst (λ (x : Option (List ValueType)). GivesMoved how top x) is g

pub none_moved : (how : Move) (top : List ValueType) (o : Option (List ValueType)) → o ≡ None
    → GivesMoved how top o → (new : List ValueType) → IsMoved how top new → ⊥
none_moved how top o is g = subst (λ (x : Option (List ValueType)). GivesMoved how top x) is g

pub some_replaced : (takes leaves top new : List ValueType) (o : Option (List ValueType)) → o ≡ Some new
    → GivesReplaced takes leaves top o → IsReplaced takes leaves top new
some_replaced takes leaves top new o is g =
    subst (λ (x : Option (List ValueType)). GivesReplaced takes leaves top x) is g

pub none_replaced : (takes leaves top : List ValueType) (o : Option (List ValueType)) → o ≡ None
    → GivesReplaced takes leaves top o → (new : List ValueType) → IsReplaced takes leaves top new → ⊥
none_replaced takes leaves top o is g =
    subst (λ (x : Option (List ValueType)). GivesReplaced takes leaves top x) is g

-- ---- words

run_words : (rest after : List (List ValueType)) (run : List ValueType) → rest ≡ run ∷ after
    → words (joined rest) ≡ words run + words (joined after)
run_words rest after run parts =
    ap (λ (rs : List (List ValueType)). words (joined rs)) parts ∙ words_append run (joined after)

module _ (runs rest after : List (List ValueType)) (run items : List ValueType) (room left : ℕ)
    (parts : rest ≡ run ∷ after) (is : items ≡ run)
    (counted : words (joined rest) + room ≡ words (joined runs) + left) where
  -- a run has no room
  pub run_over : (words items ≤ left → ⊥) → words (joined runs) ≤ room → ⊥
  run_over over within = over (omega (arith, run_words rest after run parts, ap words is, counted, within))

  -- a run has room
  pub run_less : (less : ℕ) → words items + less ≡ left → words (joined after) + room ≡ words (joined runs) + less
  run_less less fits = omega (arith, run_words rest after run parts, ap words is, counted, fits)

pub if_none : {A : Type 0} {P : Type 0} (o : Option A) → P → IfNone o P
if_none None p = p
if_none (Some x) p = tt

module _ (deep top whole : List ValueType) (max : ℕ) (parts : whole ≡ deep ++ top) where
  whole_words : words whole ≡ words deep + words top
  whole_words = ap words parts ∙ words_append deep top

  pub top_fits : (o : Option ℕ) (room : ℕ) (b : Bool) → b ≡ is_some o → words deep + room ≡ max
      → IfSome o (λ left. words top + left ≡ room) → IfNone o (words top ≤ room → ⊥)
      → (IsTrue b → words whole ≤ max) × (words whole ≤ max → IsTrue b)
  top_fits (Some left) room b is counted found none =
      (λ t. omega (arith, whole_words, counted, found), λ le. is)
  top_fits None room b is counted found none =
      (λ t. absurd (cc (t, is)), λ le. absurd (none (omega (arith, whole_words, counted, le))))

  pub deep_over : (words deep ≤ max → ⊥) → (IsTrue false → words whole ≤ max) × (words whole ≤ max → IsTrue false)
  deep_over over = (λ t. absurd (cc (t)), λ le. absurd (over (omega (arith, whole_words, le))))

-- ---- the same values

pub no_runs : (runs : List (List ValueType)) (top : List ValueType) → runs ≡ [] → joined runs ++ top ≡ top
no_runs runs top e = ap (λ (rs : List (List ValueType)). joined rs ++ top) e

pub are_same : (a b whole other : List ValueType) (r : Bool) → r ≡ pointwise eq-value.it a b → whole ≡ a → other ≡ b
    → (IsTrue r → whole ≡ other) × (whole ≡ other → IsTrue r)
are_same a b whole other r e is its =
    let d = slice_eq-Decides type_decides a b r e in
    (λ t. is ∙ d.0 t ∙ sym its, λ s. d.1 (sym is ∙ s ∙ its))
