-- Serves the search for shapes: what is known of the pcs, and how it becomes less.
use Rattle.std.specs.Prelude.{◌≡◌, ◌⊎◌, ℕ, ◌+◌, ◌*◌, ◌≤◌, ◌<◌, Bool, true, false, List, [], ◌∷◌, ◌++◌, length, Contains}
use Rattle.std.specs.Prelude.{slice_set, Option, Some, None}
use Rattle.ck_shapes.specs.declared.shape.ValueType.{ValueType}
use Rattle.ck_shapes.specs.declared.shape.Shape.{Shape}
use Rattle.ck_shapes.specs.declared.shape.Limits.{Limits}
use Rattle.ck_shapes.specs.declared.flow.Flow.{Flow}
use Rattle.ck_shapes.specs.declared.search.Known.{Known}
use Rattle.ck_shapes.specs.declared.search.Meeting.{Meeting}
use Rattle.ck_shapes.specs.declared.search.Meeting.TheVariants.{Differs, Stays, Becomes}
use Rattle.ck_shapes.specs.Shape.{words, IsWeaker}
use Rattle.ck_shapes.specs.Rules.{GivenShapes, shape_at, IsLed, Flows}
use Rattle.ck_shapes.specs.Calls.Joins.{AreJoined, IsKnownOnlyHere}

-- ---- one pc

-- the stack of what is known is another
abbrev pub HasOtherStack : Option Shape → Shape → Type 0
HasOtherStack None shape = ⊥
HasOtherStack (Some known) shape = known.stack ≡ shape.stack → ⊥

-- what is known stands where the shape is expected
abbrev pub StandsFor : Option Shape → Shape → Type 0
StandsFor None shape = ⊥
StandsFor (Some known) shape = IsWeaker known shape

-- the first shape, or what both know where less is known then
abbrev pub JoinsTo : Option Shape → Shape → Shape → Type 0
JoinsTo None shape both = both ≡ shape
JoinsTo (Some known) shape both = AreJoined known shape both × IsKnownOnlyHere known.locals shape.locals

abbrev pub IsMeeting : Option Shape → Shape → Meeting → Type 0
IsMeeting known shape Differs = HasOtherStack known shape
IsMeeting known shape Stays = StandsFor known shape
IsMeeting known shape (Becomes both) = JoinsTo known shape both

-- ---- how much is known

abbrev pub known_locals : List (Option ValueType) → ℕ
known_locals [] = 0
known_locals (None ∷ ls) = known_locals ls
known_locals (Some t ∷ ls) = 1 + known_locals ls

-- more than of any shape, where there is none
abbrev pub rank : ℕ → Option Shape → ℕ
rank max None = 1 + max
rank max (Some shape) = known_locals shape.locals

abbrev pub ranks : ℕ → List (Option Shape) → ℕ
ranks max [] = 0
ranks max (s ∷ ss) = rank max s + ranks max ss

-- each shape that becomes less is one more that waits
abbrev pub measure : Limits → Known → ℕ
measure limits known = 2 * ranks limits.max_locals known.shapes + length known.waiting

-- ---- what is known becomes less

-- each shape has no more words and locals than there may be
abbrev pub HaveRoom : Limits → List (Option Shape) → Type 0
HaveRoom limits found = (pc : ℕ) (shape : Shape) → shape_at found pc ≡ Some shape
    → (words shape.stack ≤ limits.max_stack) × (length shape.locals ≤ limits.max_locals)

pub record Weakens (limits : Limits) (old new : Known) : Type 0 where
  pub led : (pc : ℕ) (shape : Shape) → shape_at old.shapes pc ≡ Some shape → IsLed (shape_at new.shapes) shape pc
  pub kept : (pc : ℕ) (shape : Shape) → shape_at new.shapes pc ≡ Some shape
      → Contains new.waiting pc ⊎ (shape_at old.shapes pc ≡ Some shape)
  pub waits : (pc : ℕ) → Contains old.waiting pc → Contains new.waiting pc
  pub room : HaveRoom limits old.shapes → HaveRoom limits new.shapes
  pub long : length new.shapes ≡ length old.shapes
  pub falls : measure limits new ≤ measure limits old

-- a shape stands at each of some pcs
pub record Stand (limits : Limits) (old : Known) (pcs : List ℕ) (shape : Shape) (new : Known) : Type 0 where
  pub weakens : Weakens limits old new
  pub led : (pc : ℕ) → Contains pcs pc → IsLed (shape_at new.shapes) shape pc

-- ---- all shapes that meet the rules

-- each shape that is known is above one of these
abbrev pub AreBelow : List (Option Shape) → GivenShapes → Type 0
AreBelow found all = (pc : ℕ) (shape : Shape) → shape_at found pc ≡ Some shape → IsLed all shape pc

-- these shapes have room, and are at pcs below a count
abbrev pub CanStand : Limits → ℕ → GivenShapes → Type 0
CanStand limits count all = (pc : ℕ) (shape : Shape) → all pc ≡ Some shape
    → (pc < count) × (words shape.stack ≤ limits.max_stack)

-- ---- one shape is led to a pc

-- the shape at a pc becomes less
pub record Puts (old : Known) (pc : ℕ) (shape : Shape) (new : Known) : Type 0 where
  pub both : Shape
  pub joins : JoinsTo (shape_at old.shapes pc) shape both
  pub shapes : new.shapes ≡ slice_set old.shapes pc (Some both)
  pub waiting : new.waiting ≡ old.waiting ++ pc ∷ []

-- a shape has room at a pc
abbrev pub HasRoomAt : Limits → Known → ℕ → Shape → Type 0
HasRoomAt limits old pc shape = (pc < length old.shapes) × (words shape.stack ≤ limits.max_stack)

-- what came of it
abbrev pub Leads : Limits → Known → ℕ → Shape → Bool → Known → Type 0
Leads limits old pc shape false new = HasRoomAt limits old pc shape → HasOtherStack (shape_at old.shapes pc) shape
Leads limits old pc shape true new =
    HasRoomAt limits old pc shape × (((new ≡ old) × StandsFor (shape_at old.shapes pc) shape) ⊎ Puts old pc shape new)

-- ---- the search

-- what is known at a pc that does not wait leads to shapes that are known
pub record IsSound (flow : Flow) (found : List (Option Shape)) (waiting : List ℕ) : Type 0 where
  pub entry : IsLed (shape_at found) flow.start 0
  pub room : HaveRoom flow.limits found
  pub flows : (pc : ℕ) (shape : Shape) → shape_at found pc ≡ Some shape
      → Contains waiting pc ⊎ Flows flow (shape_at found) pc shape
