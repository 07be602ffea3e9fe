-- How far the initialisation of classes is (JVM Specification SE 8, 5.5). A class that is not listed is fresh.
use Rattle.std.specs.Prelude.{ℕ, List, Option}
use Rattle.std.specs.List.{position, find}
use Rattle.std.specs.Option.{option_map}
use Rattle.std.specs.Str.{bytes_eq}
use Rattle.vm_world.specs.declared.classes.Stage.{Stage}
use Rattle.vm_world.specs.declared.classes.ClassState.{ClassState}
use Rattle.vm_world.specs.Lists.{change_first}

-- the first place of a class
abbrev pub place_of_class : List ClassState → List ℕ → Option ℕ
place_of_class states name = position (λ state. bytes_eq state.name name) states

-- the first of the entries of a class, if there is one
abbrev pub state_of_class : List ClassState → List ℕ → Option ClassState
state_of_class states name = find (λ state. bytes_eq state.name name) states

-- how far a class is, if it is listed
abbrev pub stage_of : List ClassState → List ℕ → Option Stage
stage_of states name = option_map (λ state. state.stage) (state_of_class states name)

-- the classes with another stage of the first one of this name, and as they were where there is none
abbrev pub with_stage : List ClassState → List ℕ → Stage → List ClassState
with_stage states name stage =
    change_first (λ state. bytes_eq state.name name) (λ state. record state { stage = stage }) states
