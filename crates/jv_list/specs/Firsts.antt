-- The first element of a list that breaks a rule.
use Rattle.std.specs.Prelude.{List, [], ◌∷◌, ◌⊎◌}

-- an element breaks a rule, and each before it keeps it
unfoldable pub FirstBreaks : {A : Type 0} → (A → Type 0) → (A → Type 0) → List A → Type 0
FirstBreaks Breaks Keeps [] = ⊥
FirstBreaks Breaks Keeps (x ∷ xs) = Breaks x ⊎ (Keeps x × FirstBreaks Breaks Keeps xs)
