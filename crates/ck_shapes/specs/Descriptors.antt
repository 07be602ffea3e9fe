-- The types of values that descriptors tell (JVM Specification SE 8, 4.3), read from their texts.
use Rattle.std.specs.Prelude.{ℕ, ◌==◌, ◌||◌, not, Bool, true, false, List, [], ◌∷◌, ◌++◌, Option, Some, None}
use Rattle.std.specs.Prelude.{if◌then◌else◌, option_map, option_and_then}
use Rattle.ck_shapes.specs.declared.shape.ValueType.{ValueType}
use Rattle.ck_shapes.specs.declared.shape.ValueType.TheVariants.{Int, Long, Reference}
use Rattle.ck_shapes.specs.declared.signature.Signature.{Signature}

-- the type of a value by the letter that its descriptor begins with: of `J`, of `L` and `[`, and of `B`, `C`, `I`, `S`
-- and `Z`; a float or a double has none (4.3.2)
abbrev pub letter_type : ℕ → Option ValueType
letter_type b =
    if b == 74 then Some Long
    else (if (b == 76) || (b == 91) then Some Reference
    else (if (b == 66) || (b == 67) || (b == 73) || (b == 83) || (b == 90) then Some Int else None))

-- the type of a field
abbrev pub field_type : List ℕ → Option ValueType
field_type [] = None
field_type (b ∷ bs) = letter_type b

-- the type of the result, or that there is none, for which `V` stands (4.3.3)
abbrev pub result_type : List ℕ → Option (Option ValueType)
result_type [] = None
result_type (b ∷ bs) = if b == 86 then Some None else option_map (λ t. Some t) (letter_type b)

-- the type that ends with a letter, behind `[` an array
abbrev pub ended_type : Bool → ℕ → Option ValueType
ended_type true b = Some Reference
ended_type false b = letter_type b

abbrev pub signed : List ValueType → Option (Option ValueType) → Option Signature
signed found result = option_map (λ r. record { parameters = found; result = r }) result

-- The types of the parameters and of the result, where those of some parameters are found and this text follows: within
-- a name, which ends with `;`, or behind the `[` of an array, or else where a type or `)` begins.
abbrev pub signature_within : List ValueType → Bool → Bool → List ℕ → Option Signature
signature_within found in_name in_array [] = None
signature_within found true in_array (b ∷ bs) = signature_within found (not (b == 59)) false bs
signature_within found false in_array (b ∷ bs) =
    if b == 41 then signed found (result_type bs)
    else (if b == 91 then signature_within found false true bs
    else option_and_then (λ t. signature_within (found ++ t ∷ []) (b == 76) false bs) (ended_type in_array b))

-- the types of the parameters and of the result of a method, by its descriptor; none where one is a float or a double
abbrev pub signature : List ℕ → Option Signature
signature [] = None
signature (b ∷ bs) = signature_within [] false false bs
