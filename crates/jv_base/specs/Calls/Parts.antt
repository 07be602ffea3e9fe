-- For private functions and proofs alone: the parts of the text forms of entries and goals, from the right.
use Rattle.std.specs.Prelude.{◌≡◌, ℕ, ◌<◌, ◌^◌, List}
use Rattle.std.specs.Str.{IsUtf8}
use Rattle.std.specs.Fmt.{decimal}
use Rattle.jv_base.specs.declared.form.Form.TheVariants.{ClassName, MethodName, MethodDescriptor}
use Rattle.jv_base.specs.declared.method.Kind.{Kind}
use Rattle.jv_base.specs.Entry.{IsAnyMethodName}
use Rattle.jv_base.specs.Forms.{IsSpelled}
use Rattle.jv_base.specs.Calls.Fronts.{Joined}
use Rattle.jv_base.specs.Spelling.{name_text, kind_name}

-- METHOD:DESC of an entry
abbrev pub IsMethodText : List ℕ → Type 0
IsMethodText text = Joined 58 (IsSpelled MethodName) (IsSpelled MethodDescriptor) text

-- CLASS.METHOD:DESC of an entry
abbrev pub IsClassAndMethod : List ℕ → Type 0
IsClassAndMethod text = Joined 46 (IsSpelled ClassName) IsMethodText text

-- the word for a kind of fault
abbrev pub IsKindText : List ℕ → Type 0
IsKindText text = (kind : Kind) × (text ≡ kind_name kind)

-- a place in code, in decimal
abbrev pub IsPcText : List ℕ → Type 0
IsPcText text = (pc : ℕ) × (pc < 2 ^ 16) × (text ≡ decimal pc)

-- PC:KIND
abbrev pub IsPlaceText : List ℕ → Type 0
IsPlaceText text = Joined 58 IsPcText IsKindText text

-- DESC@PC:KIND
abbrev pub IsDescText : List ℕ → Type 0
IsDescText text = Joined 64 (IsSpelled MethodDescriptor) IsPlaceText text

-- the name of a method, which may be `<init>` or `<clinit>`, with its escapes
abbrev pub IsAnyMethodText : List ℕ → Type 0
IsAnyMethodText text = (name : List ℕ) × IsUtf8 name × IsAnyMethodName name × (text ≡ name_text name)

-- METHOD:DESC@PC:KIND
abbrev pub IsMemberText : List ℕ → Type 0
IsMemberText text = Joined 58 IsAnyMethodText IsDescText text

-- CLASS.METHOD:DESC@PC:KIND
abbrev pub IsClassAndMember : List ℕ → Type 0
IsClassAndMember text = Joined 46 (IsSpelled ClassName) IsMemberText text
