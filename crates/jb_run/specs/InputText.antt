-- Inputs as JSON. A tree of a boolean is written as the int that it is: no parameter of a thin method is one.
use Rattle.std.specs.Prelude.{ℕ, pos, List, [], ◌∷◌, ◌++◌, map, codes}
use Rattle.serde_json.specs.Data.{Data, null, number, array, object, Members, no_members, member, put}
use Rattle.serde_json.specs.Find.{of_integer}
use Rattle.serde_json.specs.View.{items_of}
use Rattle.serde_json.specs.Written.{compact_text}
use Rattle.jv_base.specs.Spelling.{name_text}
use Rattle.jv_base.specs.declared.method.FieldId.{FieldId}
use Rattle.jv_base.specs.declared.input.Tree.{Tree}
use Rattle.jv_base.specs.declared.input.Tree.TheOpen.{Tree-F, Part-F}
use Rattle.jv_base.specs.declared.input.Tree.TheFolds.{fold-Tree}
use Rattle.jv_base.specs.declared.input.Input.{Input}

-- the key of a field: its class, `.`, its name, `:`, its descriptor
abbrev pub field_key : FieldId → List ℕ
field_key field = name_text field.class ++ codes "." ++ name_text field.name ++ codes ":" ++ name_text field.desc

-- members in the order of their keys
abbrev pub members_in_order : List (List ℕ × Data) → Members
members_in_order [] = no_members
members_in_order (part ∷ parts) = put part.0 part.1 (members_in_order parts)

-- an object of one member
abbrev pub only_member : List ℕ → Data → Data
only_member key value = object (member key value no_members)

-- one level of a tree, with each tree inside as its JSON, and each field inside as its key with its JSON
abbrev pub level_json : Tree-F Data (List ℕ × Data) → Data
level_json (Tree-F.Int n) = number (of_integer n)
level_json (Tree-F.Long n) = number (of_integer n)
level_json Tree-F.Null = null
level_json (Tree-F.Text units) =
    only_member (codes "string") (array (items_of (map (λ unit. number (of_integer (pos unit))) units)))
level_json (Tree-F.Array trees) = only_member (codes "array") (array (items_of trees))
level_json (Tree-F.Object parts) = only_member (codes "object") (object (members_in_order parts))

abbrev pub part_json : Part-F Data (List ℕ × Data) → List ℕ × Data
part_json part = (field_key part.field, part.value)

-- an argument as JSON
abbrev pub argument_json : Tree → Data
argument_json = fold-Tree Data (List ℕ × Data) level_json part_json

-- an input: an object with the member `args`, the arguments in order
abbrev pub input_json : Input → Data
input_json input = only_member (codes "args") (array (items_of (map argument_json input.args)))

-- an input as compact JSON
unfoldable pub input_text : Input → List ℕ
input_text input = compact_text (input_json input)
