-- Lists in which one element is changed.
use Rattle.std.specs.Prelude.{Bool, List, [], ◌∷◌, if◌then◌else◌}

-- the list in which the first element that passes a test is changed, and the list as it was where none passes
abbrev pub change_first : {X : Type 0} → (X → Bool) → (X → X) → List X → List X
change_first test change [] = []
change_first test change (x ∷ xs) = if test x then change x ∷ xs else x ∷ change_first test change xs
