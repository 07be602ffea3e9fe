-- Serves the search for shapes: what two frames that meet both know, and what the parts of a shape become.
use Rattle.std.specs.Prelude.{◌≡◌, ◌≤◌, ℕ, List, length, Option, Some, None, ◌++◌, MatchOption}
use Rattle.ck_shapes.specs.declared.shape.ValueType.{ValueType}
use Rattle.ck_shapes.specs.declared.shape.ValueType.TheVariants.{Int, Long, Reference}
use Rattle.ck_shapes.specs.declared.shape.Shape.{Shape}
use Rattle.ck_shapes.specs.declared.shape.Limits.{Limits}
use Rattle.ck_shapes.specs.declared.effect.Move.{Move}
use Rattle.ck_shapes.specs.Shape.{local_at, kept, IsMoved, IsReplaced}

-- what two locals have in common
abbrev pub common : Option ValueType → Option ValueType → Option ValueType
common (Some Int) (Some Int) = Some Int
common (Some Long) (Some Long) = Some Long
common (Some Reference) (Some Reference) = Some Reference
common left right = None

abbrev pub AreCommon : List (Option ValueType) → List (Option ValueType) → List (Option ValueType) → Type 0
AreCommon left right both = (i : ℕ) → local_at both i ≡ common (local_at left i) (local_at right i)

-- a local of which something is known that is not known elsewhere
pub record IsKnownOnlyHere (here there : List (Option ValueType)) : Type 0 where
  pub at : ℕ
  pub type : ValueType
  pub known : local_at here at ≡ Some type
  pub other : local_at there at ≡ Some type → ⊥

-- the shape where two meet, whose stacks are the same
pub record AreJoined (left right both : Shape) : Type 0 where
  pub same : left.stack ≡ right.stack
  pub stack : both.stack ≡ right.stack
  pub locals : AreCommon left.locals right.locals both.locals
  pub long : length both.locals ≤ length left.locals

-- the shape has the same locals, and this stack
abbrev pub HasStack : Shape → Option (List ValueType) → Shape → Type 0
HasStack old stack new = (new.locals ≡ old.locals) × (stack ≡ Some new.stack)

-- it has no more locals than there may be, where it had no more before
abbrev pub KeepsCount : Limits → Shape → Shape → Type 0
KeepsCount limits old new = length old.locals ≤ limits.max_locals → length new.locals ≤ limits.max_locals

-- ---- stacks

-- a stack where what is under the top is put in another order
abbrev pub reordered : Move → List ValueType → List ValueType → List ValueType → List ValueType
reordered how rest under top = rest ++ kept how.puts_below top ++ under ++ kept how.puts_above top

-- the stack after a move, or none
abbrev pub GivesMoved : Move → List ValueType → Option (List ValueType) → Type 0
GivesMoved how old found =
    MatchOption found ((new : List ValueType) → IsMoved how old new → ⊥) (λ new. IsMoved how old new)

-- the stack where values are replaced, or none
abbrev pub GivesReplaced : List ValueType → List ValueType → List ValueType → Option (List ValueType) → Type 0
GivesReplaced takes leaves old found =
    MatchOption found ((new : List ValueType) → IsReplaced takes leaves old new → ⊥)
    (λ new. IsReplaced takes leaves old new)
