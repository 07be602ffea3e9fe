-- For private functions and proofs alone: how far characters have come towards a form. The steps are by the characters
-- of a text or by its UTF-8 bytes: all characters that the forms tell apart are ASCII.
use Rattle.std.specs.Prelude.{ℕ, suc, Bool, true, false, not, ◌&&◌, ◌==◌, nat_le, List, [], ◌∷◌, Option, Some, None, if◌then◌else◌}
use Rattle.jv_base.specs.declared.form.Form.{Form}
use Rattle.jv_base.specs.declared.form.Form.TheVariants.{ClassName, MethodName, MethodDescriptor, FieldDescriptor}
use Rattle.jv_base.specs.declared.form.Progress.{Progress}
use Rattle.jv_base.specs.declared.form.Progress.TheVariants.{InClass, InMethod, Open, Parameters, Field, Named, End}
use Rattle.jv_base.specs.Descriptor.{is_base_letter}

abbrev pub is_name_character : ℕ → Bool
is_name_character c = not (c == 46) && not (c == 59) && not (c == 91) && not (c == 47) && not (c == 0)

-- in a class name, by whether the part at hand has a character
abbrev pub class_step : Bool → ℕ → Option Bool
class_step some c =
    if c == 47 then (if some then Some false else None)
    else if is_name_character c then Some true else None

abbrev pub method_step : ℕ → Option Bool
method_step c = if is_name_character c && not (c == 60) && not (c == 62) then Some true else None

abbrev pub in_class : Option Bool → Option Progress
in_class None = None
in_class (Some some) = Some (InClass some)

abbrev pub in_method : Option Bool → Option Progress
in_method None = None
in_method (Some some) = Some (InMethod some)

abbrev pub named : Bool → Option Bool → Option Progress
named parameter None = None
named parameter (Some some) = Some (Named parameter some)

-- after a whole field type: further parameters, or nothing
abbrev pub after_type : Bool → Progress
after_type true = Parameters 0
after_type false = End

abbrev pub bracket : ℕ → Progress → Option Progress
bracket dimensions next = if nat_le 255 dimensions then None else Some next

abbrev pub parameters_step : ℕ → ℕ → Option Progress
parameters_step dimensions c =
    if c == 91 then bracket dimensions (Parameters (suc dimensions))
    else if is_base_letter c then Some (Parameters 0)
    else if c == 76 then Some (Named true false)
    else if c == 41 && dimensions == 0 then Some (Field 0 true)
    else None

-- a field type, or also `V` where it is a result and has no dimensions yet
abbrev pub field_step : ℕ → Bool → ℕ → Option Progress
field_step dimensions last c =
    if c == 91 then bracket dimensions (Field (suc dimensions) last)
    else if is_base_letter c then Some End
    else if c == 76 then Some (Named false false)
    else if c == 86 && last && dimensions == 0 then Some End
    else None

abbrev pub named_step : Bool → Bool → ℕ → Option Progress
named_step parameter some c =
    if c == 59 then (if some then Some (after_type parameter) else None)
    else named parameter (class_step some c)

abbrev pub step : Progress → ℕ → Option Progress
step (InClass some) c = in_class (class_step some c)
step (InMethod some) c = in_method (method_step c)
step Open c = if c == 40 then Some (Parameters 0) else None
step (Parameters dimensions) c = parameters_step dimensions c
step (Field dimensions last) c = field_step dimensions last c
step (Named parameter some) c = named_step parameter some c
step End c = None

-- how far a list of characters or bytes leads, where it can be part of the form at all
abbrev pub run_from : Option Progress → List ℕ → Option Progress
run_from None cs = None
run_from (Some progress) [] = Some progress
run_from (Some progress) (c ∷ cs) = run_from (step progress c) cs

abbrev pub run : Progress → List ℕ → Option Progress
run progress cs = run_from (Some progress) cs

abbrev pub start_of : Form → Progress
start_of ClassName = InClass false
start_of MethodName = InMethod false
start_of MethodDescriptor = Open
start_of FieldDescriptor = Field 0 false

-- whether any character of a name may come next, so that an escape may
abbrev pub takes_names : Progress → Bool
takes_names (InClass some) = true
takes_names (InMethod some) = true
takes_names Open = false
takes_names (Parameters dimensions) = false
takes_names (Field dimensions last) = false
takes_names (Named parameter some) = true
takes_names End = false

-- whether what leads to the progress is a whole text of its form
abbrev pub is_whole : Progress → Bool
is_whole (InClass some) = some
is_whole (InMethod some) = some
is_whole End = true
is_whole _ = false
