-- For private functions and proofs alone: the texts of each form.
use Rattle.std.specs.Prelude.{◌≡◌, ℕ, false, List}
use Rattle.std.specs.Str.{IsUtf8}
use Rattle.std.specs.Char.{IsScalar}
use Rattle.jv_base.specs.declared.form.Form.{Form}
use Rattle.jv_base.specs.declared.form.Form.TheVariants.{ClassName, MethodName, MethodDescriptor, FieldDescriptor}
use Rattle.jv_base.specs.Names.{IsClassName, IsMethodName}
use Rattle.jv_base.specs.Descriptor.{IsMethodDescriptor, IsFieldDescriptor}
use Rattle.jv_base.specs.Spelling.{is_plain, escape_text, name_text}

abbrev pub IsOfForm : Form → List ℕ → Type 0
IsOfForm ClassName text = IsClassName text
IsOfForm MethodName text = IsMethodName text
IsOfForm MethodDescriptor text = IsMethodDescriptor text
IsOfForm FieldDescriptor text = IsFieldDescriptor text

-- a Unicode text of a form
abbrev pub IsTextOf : Form → List ℕ → Type 0
IsTextOf form text = IsUtf8 text × IsOfForm form text

-- the text of a name or a descriptor of a form, with its escapes
abbrev pub IsSpelled : Form → List ℕ → Type 0
IsSpelled form text = (name : List ℕ) × IsUtf8 name × IsOfForm form name × (text ≡ name_text name)

-- the escape of a character that a name may have
abbrev pub IsEscape : List ℕ → Type 0
IsEscape text = (c : ℕ) × IsScalar c × (is_plain c ≡ false) × ((c ≡ 0 → ⊥) × (text ≡ escape_text c))
