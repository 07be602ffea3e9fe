-- Trees as JSON values, each by the descriptor of its type (JVM Specification SE 8, 4.3.2).
use Rattle.std.specs.Prelude.{ℕ, ℤ, pos, suc, zero, negsuc, Bool, true, false, List, [], ◌∷◌, ◌++◌, map, drop, codes, nat_eq, if◌then◌else◌}
use Rattle.std.specs.Cmp.Lexicographic.{pointwise}
use Rattle.jv_base.specs.Spelling.{name_text}
use Rattle.jv_base.specs.declared.method.FieldId.{FieldId}
use Rattle.jv_base.specs.declared.input.Tree.{Tree}
use Rattle.jv_base.specs.declared.input.Tree.TheOpen.{Tree-F, Part-F}
use Rattle.jv_base.specs.declared.input.Tree.TheFolds.{fold-Tree}
use Rattle.serde_json.specs.Data.{Data, null, boolean, number, array, object, Members, no_members, member, put}
use Rattle.serde_json.specs.Find.{of_integer}
use Rattle.serde_json.specs.View.{items_of}

-- the key of a field: its class, `.`, its name, `:`, its descriptor
abbrev pub field_key : FieldId → List ℕ
field_key field = name_text field.class ++ codes "." ++ name_text field.name ++ codes ":" ++ name_text field.desc

-- the descriptor of the elements of an array
abbrev pub element_type : List ℕ → List ℕ
element_type desc = drop 1 desc

-- a whole number
abbrev pub integer : ℤ → Data
integer n = number (of_integer n)

-- the truth of a boolean, which is false where it is 0
abbrev pub truth : ℤ → Bool
truth (pos zero) = false
truth (pos (suc n)) = true
truth (negsuc n) = true

-- a boolean by its truth, and another int by its number
abbrev pub int_value : ℤ → List ℕ → Data
int_value n desc = if pointwise nat_eq desc (codes "Z") then boolean (truth n) else integer n

-- an object of one member
abbrev pub only_member : List ℕ → Data → Data
only_member key value = object (member key value no_members)

-- a string by its UTF-16 units
abbrev pub text_value : List ℕ → Data
text_value units = only_member (codes "string") (array (items_of (map (λ unit. integer (pos unit)) units)))

-- members put one after another, each in the place of its key
abbrev pub put_all : Members → List (List ℕ × Data) → Members
put_all members [] = members
put_all members (part ∷ parts) = put_all (put part.0 part.1 members) parts

-- the members of an object, in the order of their keys
abbrev pub members_in_order : List (List ℕ × Data) → Members
members_in_order parts = put_all no_members parts

-- a value that waits for the descriptor of its type
abbrev pub Typed : Type 0
Typed = List ℕ → Data

-- one level of a tree by its descriptor, with each tree inside as its value, and each field inside as its key with its value
abbrev pub level_value : Tree-F Typed (List ℕ × Data) → Typed
level_value (Tree-F.Int n) desc = int_value n desc
level_value (Tree-F.Long n) desc = integer n
level_value Tree-F.Null desc = null
level_value (Tree-F.Text units) desc = text_value units
level_value (Tree-F.Array trees) desc =
    only_member (codes "array") (array (items_of (map (λ value. value (element_type desc)) trees)))
level_value (Tree-F.Object parts) desc = only_member (codes "object") (object (members_in_order parts))

-- a field as its key with its value
abbrev pub field_value : Part-F Typed (List ℕ × Data) → List ℕ × Data
field_value part = (field_key part.field, part.value part.field.desc)

-- a tree as a JSON value, by the descriptor of its type
abbrev pub tree_value : Tree → Typed
tree_value tree = fold-Tree Typed (List ℕ × Data) level_value field_value tree

-- trees of one type
abbrev pub values_of : List Tree → List ℕ → List Data
values_of trees desc = map (λ value. value desc) (map tree_value trees)
