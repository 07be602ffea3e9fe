-- GivenShapes of frames (JVM Specification SE 8, 2.6.1, 2.6.2, 4.10.1.2), and what an instruction does to them (6.5).
use Rattle.std.specs.Prelude.{◌≡◌, ℕ, ◌+◌, ◌==◌, ◌≤◌, ◌&&◌, Bool, true, false, if◌then◌else◌, List, [], ◌∷◌, ◌++◌}
use Rattle.std.specs.Prelude.{slice_get, Option, Some, None, option_and_then, MatchOption}
use Rattle.ck_shapes.specs.declared.shape.ValueType.{ValueType}
use Rattle.ck_shapes.specs.declared.shape.ValueType.TheVariants.{Int, Long, Reference}
use Rattle.ck_shapes.specs.declared.shape.Shape.{Shape}
use Rattle.ck_shapes.specs.declared.shape.Limits.{Limits}
use Rattle.ck_shapes.specs.declared.effect.Move.{Move}
use Rattle.ck_shapes.specs.declared.effect.Effect.{Effect}
use Rattle.ck_shapes.specs.declared.effect.Effect.TheVariants.{Moves, Loads, Stores, Increments, Replaces}

-- the words that a value takes
abbrev pub width : ValueType → ℕ
width Int = 1
width Long = 2
width Reference = 1

-- the words of a stack
abbrev pub words : List ValueType → ℕ
words [] = 0
words (t ∷ ts) = width t + words ts

-- what is known of a local: beyond the end of the list nothing
abbrev pub local_at : List (Option ValueType) → ℕ → Option ValueType
local_at locals i = option_and_then (λ l. l) (slice_get locals i)

-- less is known of the locals: each is the same, or unknown (4.10.1.2)
abbrev pub IsKnownLess : List (Option ValueType) → List (Option ValueType) → Type 0
IsKnownLess less more = (i : ℕ) (t : ValueType) → local_at less i ≡ Some t → local_at more i ≡ Some t

-- a shape that stands where one is expected: the same stack, and no more known of the locals
pub record IsWeaker (weaker shape : Shape) : Type 0 where
  pub stack : weaker.stack ≡ shape.stack
  pub locals : IsKnownLess weaker.locals shape.locals

-- ---- locals

abbrev pub is_long : Option ValueType → Bool
is_long None = false
is_long (Some Int) = false
is_long (Some Long) = true
is_long (Some Reference) = false

-- what is known of local i, where a value of type t was stored in local n: a long that n was the second place of has
-- ended, and the
-- second place of a long holds nothing by itself (2.6.1)
abbrev pub stored : List (Option ValueType) → ValueType → ℕ → ℕ → Option ValueType
stored old t n i =
    if i == n then Some t
    else (if (i + 1 == n) && is_long (local_at old i) then None
    else (if (i == n + 1) && is_long (Some t) then None else local_at old i))

-- a value of this type has room in the locals from n on
abbrev pub HasRoom : Limits → ValueType → ℕ → Type 0
HasRoom limits t n = n + width t ≤ limits.max_locals

-- the local has a value of this type, which may be read
abbrev pub Holds : Limits → List (Option ValueType) → ValueType → ℕ → Type 0
Holds limits locals t n = HasRoom limits t n × (local_at locals n ≡ Some t)

-- the same is known of each local
abbrev pub HaveSame : List (Option ValueType) → List (Option ValueType) → Type 0
HaveSame old new = (i : ℕ) → local_at new i ≡ local_at old i

-- the locals after a store
abbrev pub AreStored : List (Option ValueType) → ValueType → ℕ → List (Option ValueType) → Type 0
AreStored old t n new = (i : ℕ) → local_at new i ≡ stored old t n i

-- ---- the stack

-- a stack is cut so that so many words are above: no long is parted
pub record IsCut (stack : List ValueType) (count : ℕ) (rest top : List ValueType) : Type 0 where
  pub parts : stack ≡ rest ++ top
  pub counted : words top ≡ count

-- what is there, or nothing
abbrev pub kept : Bool → List ValueType → List ValueType
kept true ts = ts
kept false ts = []

-- a move on the stack: words on top, and words under them, which then stand in another order (6.5, pop to swap)
pub record IsMoved (move : Move) (old new : List ValueType) : Type 0 where
  pub lower : List ValueType
  pub top : List ValueType
  pub rest : List ValueType
  pub under : List ValueType
  pub above : IsCut old move.top lower top
  pub below : IsCut lower move.under rest under
  pub new_is : new ≡ rest ++ kept move.puts_below top ++ under ++ kept move.puts_above top

-- values of some types are popped, and values of others are pushed
pub record IsReplaced (takes leaves old new : List ValueType) : Type 0 where
  pub rest : List ValueType
  pub old_is : old ≡ rest ++ takes
  pub new_is : new ≡ rest ++ leaves

-- ---- both

-- an effect on a shape, within the limits
abbrev pub Applies : Limits → Effect → Shape → Shape → Type 0
Applies limits (Moves move) old new = HaveSame old.locals new.locals × IsMoved move old.stack new.stack
Applies limits (Loads t n) old new =
    Holds limits old.locals t n × HaveSame old.locals new.locals × (new.stack ≡ old.stack ++ t ∷ [])
Applies limits (Stores t n) old new =
    HasRoom limits t n × AreStored old.locals t n new.locals × (old.stack ≡ new.stack ++ t ∷ [])
Applies limits (Increments n) old new =
    Holds limits old.locals Int n × HaveSame old.locals new.locals × (new.stack ≡ old.stack)
Applies limits (Replaces takes leaves) old new =
    HaveSame old.locals new.locals × IsReplaced takes leaves old.stack new.stack

-- the shape after an effect; none where it cannot be had
abbrev pub IsAfter : Limits → Effect → Shape → Option Shape → Type 0
IsAfter limits effect old found =
    MatchOption found ((new : Shape) → Applies limits effect old new → ⊥) (λ new. Applies limits effect old new)
