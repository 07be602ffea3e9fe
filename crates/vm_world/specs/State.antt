-- States of the machine.
use Rattle.std.specs.Prelude.{ℕ, List, [], Option, None}
use Rattle.std.specs.List.{find}
use Rattle.std.specs.Option.{option_map}
use Rattle.std.specs.Str.{bytes_eq}
use Rattle.vm_world.specs.declared.state.State.{State}
use Rattle.vm_world.specs.declared.state.Literal.{Literal}
use Rattle.vm_world.specs.declared.state.Mirror.{Mirror}

-- the state with nothing in it
abbrev pub nothing : State
nothing = record { frames = []; heap = []; statics = []; classes = []; thrown = None; literals = []; mirrors = [] }

-- the number of the String object of the literals of a content, if one was made
abbrev pub literal_in : List Literal → List ℕ → Option ℕ
literal_in literals text = option_map (λ literal. literal.object) (find (λ literal. bytes_eq literal.text text) literals)

-- the number of the Class object of a name, if one was made
abbrev pub mirror_in : List Mirror → List ℕ → Option ℕ
mirror_in mirrors class = option_map (λ mirror. mirror.object) (find (λ mirror. bytes_eq mirror.class class) mirrors)
