-- The indices that stand behind the tag of an entry.
use Rattle.std.specs.Prelude.{ℕ, ◌+◌, List, [], ◌∷◌}
use Rattle.cf_judge.specs.declared.entry.Indices.{Indices}
use Rattle.cf_judge.specs.declared.entry.Indices.TheVariants.{None, One, Two}
use Rattle.cf_judge.specs.Demands.{Demand, demand, finds, pair_demands}

abbrev pub indices_demands : ℕ → Indices → List Demand
indices_demands place None = []
indices_demands place (One wanted index) = demand (place + 1) (finds wanted index) ∷ []
indices_demands place (Two first a second b) = pair_demands (place + 1) first a second b

-- how many bytes they take with the tag
abbrev pub indices_size : Indices → ℕ
indices_size None = 0
indices_size (One wanted index) = 3
indices_size (Two first a second b) = 5
