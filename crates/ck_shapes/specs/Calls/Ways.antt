-- Serves the search for shapes: where an instruction takes a shape.
use Rattle.std.specs.Prelude.{◌≡◌, ℕ, Bool, ◌&&◌, nat_le, nat_lt, List, map, Option, Some, MatchOption}
use Rattle.std.specs.List.{filter}
use Rattle.ck_shapes.specs.declared.shape.Shape.{Shape}
use Rattle.ck_shapes.specs.declared.flow.Action.{Action}
use Rattle.ck_shapes.specs.declared.flow.Step.{Step}
use Rattle.ck_shapes.specs.declared.flow.Handler.{Handler}
use Rattle.ck_shapes.specs.declared.flow.Flow.{Flow}
use Rattle.ck_shapes.specs.declared.way.Way.{Way}
use Rattle.ck_shapes.specs.Shape.{Applies}
use Rattle.ck_shapes.specs.Rules.{step_at, at_handler}

-- the handlers of what is thrown at a pc
abbrev pub covers : ℕ → Handler → Bool
covers pc h = nat_le h.start pc && nat_lt pc h.end

abbrev pub handlers_at : List Handler → ℕ → List ℕ
handlers_at handlers pc = map (λ h. h.handler) (filter (covers pc) handlers)

-- the instruction at the pc takes the shape there
pub record IsWay (flow : Flow) (pc : ℕ) (shape : Shape) (way : Way) : Type 0 where
  pub step : Step
  pub action : Action
  pub is : step_at flow.steps pc ≡ Some step
  pub acts : step.action ≡ Some action
  pub applies : Applies flow.limits action.effect shape way.after
  pub nexts : way.nexts ≡ action.nexts
  pub thrown : way.thrown ≡ at_handler shape
  pub handlers : way.handlers ≡ handlers_at flow.handlers pc

-- no instruction at the pc can take the shape
abbrev pub HasNoWay : Flow → ℕ → Shape → Type 0
HasNoWay flow pc shape =
    (step : Step) (action : Action) (after : Shape) → step_at flow.steps pc ≡ Some step → step.action ≡ Some action
    → Applies flow.limits action.effect shape after → ⊥

abbrev pub GivesWay : Flow → ℕ → Shape → Option Way → Type 0
GivesWay flow pc shape found = MatchOption found (HasNoWay flow pc shape) (IsWay flow pc shape)
