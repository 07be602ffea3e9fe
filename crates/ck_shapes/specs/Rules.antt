-- Which shapes meet the rules (JVM Specification SE 8, 4.9.2 and 4.10.1), by what each instruction does and where it
-- goes.
use Rattle.std.specs.Prelude.{◌≡◌, ℕ, ◌==◌, ◌≤◌, ◌<◌, if◌then◌else◌, List, [], ◌∷◌, length, Option, Some, None}
use Rattle.std.specs.Prelude.{Contains, MatchOption, option_and_then, slice_get}
use Rattle.ck_shapes.specs.declared.shape.ValueType.TheVariants.{Reference}
use Rattle.ck_shapes.specs.declared.shape.Shape.{Shape}
use Rattle.ck_shapes.specs.declared.flow.Action.{Action}
use Rattle.ck_shapes.specs.declared.flow.Step.{Step}
use Rattle.ck_shapes.specs.declared.flow.Handler.{Handler}
use Rattle.ck_shapes.specs.declared.flow.Flow.{Flow}
use Rattle.ck_shapes.specs.declared.find.Shapes.{Shapes}
use Rattle.ck_shapes.specs.Shape.{words, Applies, IsWeaker}

-- the shapes at the pcs that have one
abbrev pub GivenShapes : Type 0
GivenShapes = ℕ → Option Shape

-- the shapes of a list, each at the pc that is its place
abbrev pub shape_at : List (Option Shape) → GivenShapes
shape_at found pc = option_and_then (λ s. s) (slice_get found pc)

-- the instruction at a pc
abbrev pub step_at : List Step → ℕ → Option Step
step_at [] pc = None
step_at (s ∷ ss) pc = if s.pc == pc then Some s else step_at ss pc

-- the pc has a shape that stands where this one is expected
abbrev pub IsLed : GivenShapes → Shape → ℕ → Type 0
IsLed shapes shape pc = (weaker : Shape) × (shapes pc ≡ Some weaker) × IsWeaker weaker shape

-- a handler is for what is thrown at a pc
abbrev pub Covers : Handler → ℕ → Type 0
Covers h pc = (h.start ≤ pc) × (pc < h.end)

-- the shape where a handler begins: the locals before the instruction, and on the stack what was thrown (2.10)
abbrev pub at_handler : Shape → Shape
at_handler shape = record { locals = shape.locals; stack = Reference ∷ [] }

-- the instruction at a pc takes this shape to one that stands at each pc that can be next, and its handlers have theirs
pub record Flows (flow : Flow) (shapes : GivenShapes) (pc : ℕ) (shape : Shape) : Type 0 where
  pub step : Step
  pub action : Action
  pub after : Shape
  pub is : step_at flow.steps pc ≡ Some step
  pub acts : step.action ≡ Some action
  pub applies : Applies flow.limits action.effect shape after
  pub nexts : (next : ℕ) → Contains action.nexts next → IsLed shapes after next
  pub handlers : (h : Handler) → Contains flow.handlers h → Covers h pc → IsLed shapes (at_handler shape) h.handler

-- These shapes meet the rules. At pc 0 stands a shape where that of the start is expected; a pc that is never reached
-- needs none.
pub record MeetsRules (flow : Flow) (shapes : GivenShapes) : Type 0 where
  pub locals : length flow.start.locals ≤ flow.limits.max_locals
  pub entry : IsLed shapes flow.start 0
  pub room : (pc : ℕ) (shape : Shape) → shapes pc ≡ Some shape → words shape.stack ≤ flow.limits.max_stack
  pub flows : (pc : ℕ) (shape : Shape) → shapes pc ≡ Some shape → Flows flow shapes pc shape

-- shapes that meet the rules; none where no shapes meet them
abbrev pub AreShapesOf : Flow → Option Shapes → Type 0
AreShapesOf flow found =
    MatchOption found ((all : GivenShapes) → MeetsRules flow all → ⊥) (λ s. MeetsRules flow (shape_at s.shapes))
