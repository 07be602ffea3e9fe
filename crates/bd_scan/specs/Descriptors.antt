-- What descriptors say of classes, floats and doubles (JVM Specification SE 8, 4.3), read from their texts.
use Rattle.std.specs.Prelude.{ℕ, Bool, true, false, ◌==◌, ◌||◌, not, List, [], ◌∷◌, Option, Some, None, if◌then◌else◌}

-- a text behind the `[` that it begins with
abbrev pub without_brackets : List ℕ → List ℕ
without_brackets [] = []
without_brackets (b ∷ bs) = if b == 91 then without_brackets bs else b ∷ bs

-- what stands before the first `;`
abbrev pub before_mark : List ℕ → List ℕ
before_mark [] = []
before_mark (b ∷ bs) = if b == 59 then [] else b ∷ before_mark bs

-- the class of `L`, a name and `;`; another type is no class
abbrev pub object_class : List ℕ → Option (List ℕ)
object_class [] = None
object_class (b ∷ bs) = if b == 76 then Some (before_mark bs) else None

-- The class that the text of a Class entry names: itself, but of an array type the class of its elements in the end,
-- if that is one (4.4.1).
abbrev pub named_class : List ℕ → Option (List ℕ)
named_class [] = Some []
named_class (b ∷ bs) = if b == 91 then object_class (without_brackets bs) else Some (b ∷ bs)

-- whether `F` or `D` stands in a descriptor outside the names of its classes, which stand between `L` and `;`
abbrev pub has_float_within : Bool → List ℕ → Bool
has_float_within in_name [] = false
has_float_within true (b ∷ bs) = has_float_within (not (b == 59)) bs
has_float_within false (b ∷ bs) = (b == 70) || (b == 68) || has_float_within (b == 76) bs

-- whether a descriptor has a float or a double in it, or an array of them
abbrev pub has_float : List ℕ → Bool
has_float desc = has_float_within false desc
