-- Serves the locals of shapes: runs of locals, one behind the other, and a store that is made from the first local on.
use Rattle.std.specs.Prelude.{ℕ, ◌-◌, ◌==◌, ◌&&◌, if◌then◌else◌, List, [], ◌∷◌, Option, Some, None}
use Rattle.std.specs.List.{flat_map}
use Rattle.ck_shapes.specs.declared.shape.ValueType.{ValueType}
use Rattle.ck_shapes.specs.Shape.{is_long}

-- what is in runs
abbrev pub joined : {A : Type 0} → List (List A) → List A
joined runs = flat_map (λ r. r) runs

-- what is known of a local where a value was stored to one near it; so many locals are left from here to the one behind
-- that, this one counted
abbrev pub stored_near : Option ValueType → ValueType → ℕ → Option ValueType
stored_near local t reach =
    if reach == 2 then Some t
    else (if (reach == 3) && is_long local then None
    else (if (reach == 1) && is_long (Some t) then None else local))

-- the locals after a store, from one on
abbrev pub stored_from : List (Option ValueType) → ValueType → ℕ → List (Option ValueType)
stored_from [] t reach = []
stored_from (l ∷ ls) t reach = stored_near l t reach ∷ stored_from ls t (reach - 1)
