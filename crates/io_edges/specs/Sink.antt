-- What a write adds.
use Rattle.std.specs.Prelude.{◌≡◌, ℕ, List, ◌++◌, take, Option}
use Rattle.std.specs.Option.{option_map}
use Rattle.io_edges.specs.declared.sink.Put.{Put}
use Rattle.io_edges.specs.declared.sink.Put.TheVariants.{Done, Failed}

-- where the written bytes are told, they have this piece more
abbrev pub Holds : Option (List ℕ) → List ℕ → Option (List ℕ) → Type 0
Holds old piece new = new ≡ option_map (λ bytes. bytes ++ piece) old

-- where the written bytes are told, they have some front of this piece more
abbrev pub HoldsFront : Option (List ℕ) → List ℕ → Option (List ℕ) → Type 0
HoldsFront old piece new = (n : ℕ) × Holds old (take n piece) new

-- a write that is done adds the piece, and one that failed adds a front of it
abbrev pub Adds : Option (List ℕ) → List ℕ → Put → Option (List ℕ) → Type 0
Adds old piece Done new = Holds old piece new
Adds old piece Failed new = HoldsFront old piece new
