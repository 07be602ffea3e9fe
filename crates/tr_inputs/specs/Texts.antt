-- Inputs as compact JSON: an object with the member `args`, the arguments in order.
use Rattle.std.specs.Prelude.{◌≡◌, ◌≤◌, ℕ, List, length, map, codes, Some}
use Rattle.std.specs.List.{zip}
use Rattle.jv_base.specs.declared.method.MethodId.{MethodId}
use Rattle.jv_base.specs.declared.input.Tree.{Tree}
use Rattle.jv_base.specs.declared.input.Input.{Input}
use Rattle.jv_base.specs.Descriptor.{MethodType, IsMethodType, method_text}
use Rattle.serde_json.specs.Data.{Data, array, depth}
use Rattle.serde_json.specs.Read.{read, max_depth}
use Rattle.serde_json.specs.View.{items_of}
use Rattle.serde_json.specs.Written.{compact_text}
use Rattle.tr_inputs.specs.Arguments.{argument_types}
use Rattle.tr_inputs.specs.Values.{only_member, tree_value}

-- arguments, each by its type
abbrev pub arguments_value : List Tree → List (List ℕ) → Data
arguments_value args types = array (items_of (map (λ pair. tree_value pair.0 pair.1) (zip args types)))

-- an input, by the types of its arguments
abbrev pub input_value : Input → List (List ℕ) → Data
input_value input types = only_member (codes "args") (arguments_value input.args types)

-- the compact text of an input, by the types of its arguments
unfoldable pub text_by : Input → List (List ℕ) → List ℕ
text_by input types = compact_text (input_value input types)

-- the JSON value and the text of an input of an entry, whose descriptor stands for a type
abbrev pub entry_value : MethodId → MethodType → Input → Data
entry_value entry type input = input_value input (argument_types entry type (length input.args))

abbrev pub input_text : MethodId → MethodType → Input → List ℕ
input_text entry type input = text_by input (argument_types entry type (length input.args))

-- the text is that of an input of an entry
abbrev pub IsInputText : MethodId → Input → List ℕ → Type 0
IsInputText entry input text =
    (type : MethodType) → IsMethodType type → entry.desc ≡ method_text type → text ≡ input_text entry type input

-- a text is read as a value, where that does not nest deeper than a reader follows
abbrev pub ReadsAs : Data → List ℕ → Type 0
ReadsAs value text = depth value ≤ max_depth → read text ≡ Some value

-- a text is read as the value of an input of an entry
abbrev pub ReadsAsInput : MethodId → Input → List ℕ → Type 0
ReadsAsInput entry input text =
    (type : MethodType) → IsMethodType type → entry.desc ≡ method_text type → ReadsAs (entry_value entry type input) text
