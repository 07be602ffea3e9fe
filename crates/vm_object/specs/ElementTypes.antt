-- The element types of arrays, and their values (JVM Specification SE 8, 2.3, 2.4 and 4.3.2).
use Rattle.std.specs.Prelude.{◌==◌, ◌||◌, ℕ, ℤ, pos, Bool, true, false, if◌then◌else◌, List, Option, Some, None}
use Rattle.std.specs.Prelude.{slice_get, codes}
use Rattle.std.specs.Int.{w8, w16, int_wrap, int_rem_euclid}
use Rattle.jv_base.specs.declared.value.Value.{Value}
use Rattle.jv_base.specs.declared.value.Value.TheVariants as values
use Rattle.cf_code.specs.declared.array.Element.{Element}
use Rattle.cf_code.specs.declared.array.Element.TheVariants as elements
use Rattle.vm_object.specs.declared.element.ElementType.{ElementType}
use Rattle.vm_object.specs.declared.element.ElementType.TheVariants.{Boolean, Byte, Char, Short, Int, Long, Reference}

-- the element type whose descriptor begins with a character (4.3.2): Z, B, C, S, I, J, and L or [. F and D have none: no
-- value is a float or a double.
abbrev pub type_of : ℕ → Option ElementType
type_of c =
    if c == 90 then Some Boolean else
    (if c == 66 then Some Byte else
    (if c == 67 then Some Char else
    (if c == 83 then Some Short else
    (if c == 73 then Some Int else
    (if c == 74 then Some Long else
    (if c == 76 || c == 91 then Some Reference else None))))))

abbrev pub type_at : Option ℕ → Option ElementType
type_at None = None
type_at (Some c) = type_of c

-- the element type of a descriptor
abbrev pub element_type : List ℕ → Option ElementType
element_type descriptor = type_at (slice_get descriptor 0)

-- 6.5 newarray: the descriptor of the type of a code
abbrev pub type_text : ℕ → Option (List ℕ)
type_text code =
    if code == 4 then Some (codes "Z") else
    (if code == 5 then Some (codes "C") else
    (if code == 6 then Some (codes "F") else
    (if code == 7 then Some (codes "D") else
    (if code == 8 then Some (codes "B") else
    (if code == 9 then Some (codes "S") else
    (if code == 10 then Some (codes "I") else
    (if code == 11 then Some (codes "J") else None)))))))

-- 2.3, 2.4: the default value of a type
abbrev pub default_value : ElementType → Value
default_value Long = values.Long (pos 0)
default_value Reference = values.Ref None
default_value element = values.Int (pos 0)

-- 6.5: which arrays a load or a store takes. baload and bastore take those of bytes and of booleans.
abbrev pub takes : Element → ElementType → Bool
takes elements.Int Int = true
takes elements.Long Long = true
takes elements.Reference Reference = true
takes elements.Byte Byte = true
takes elements.Byte Boolean = true
takes elements.Char Char = true
takes elements.Short Short = true
takes element held = false

-- 6.5: which values a load gives and a store takes. What is smaller than an int is an int on the stack.
abbrev pub holds : Element → Value → Bool
holds elements.Int (values.Int n) = true
holds elements.Byte (values.Int n) = true
holds elements.Char (values.Int n) = true
holds elements.Short (values.Int n) = true
holds elements.Long (values.Long n) = true
holds elements.Reference (values.Ref r) = true
holds element value = false

-- 6.5 bastore: of an int the low 8 bits are kept, with their sign, and in an array of booleans the lowest bit. castore: the
-- low 16 bits, without a sign. sastore: the low 16 bits, with their sign.
abbrev pub narrowed_int : ElementType → ℤ → ℤ
narrowed_int Boolean n = int_rem_euclid n (pos 2)
narrowed_int Byte n = int_wrap w8 n
narrowed_int Char n = int_rem_euclid n (pos 65536)
narrowed_int Short n = int_wrap w16 n
narrowed_int held n = n

-- what an array keeps of a value
abbrev pub narrowed : ElementType → Value → Value
narrowed held (values.Int n) = values.Int (narrowed_int held n)
narrowed held (values.Long n) = values.Long n
narrowed held (values.Ref r) = values.Ref r
