-- Names and descriptors in the constant pool (JVM Specification SE 8, 4.2, 4.3 and 4.4.7): by their UTF-16 units.
use Rattle.std.specs.Prelude.{◌≡◌, ◌≢◌, ℕ, ◌<◌, List, All, map, slice_get, Option, Some, None, if◌then◌else◌, ◌⊎◌}
use Rattle.std.specs.Char.Utf16.{utf16_chars, utf16_lossy_chars, has_unpaired_surrogate}
use Rattle.std.specs.Str.{encode_utf8_all}
use Rattle.jv_base.specs.Names.{IsUnqualifiedName, IsClassName}
use Rattle.jv_base.specs.Entry.{IsAnyMethodName}
use Rattle.jv_base.specs.Descriptor.{FieldType, IsFieldType, field_text, IsFieldDescriptor, IsMethodDescriptor}
use Rattle.cf_pool.specs.declared.entry.PoolEntry.{PoolEntry}
use Rattle.cf_pool.specs.declared.entry.PoolEntry.TheVariants.{Utf8}
use Rattle.cf_judge.specs.declared.form.Form.{Form}
use Rattle.cf_judge.specs.declared.form.Form.TheVariants as forms

-- The name is the UTF-8 text of the characters that the units spell. Where a surrogate stands alone there is none.
pub record IsNameOf (units name : List ℕ) : Type 0 where
  pub characters : List ℕ
  pub spelled : utf16_chars units ≡ map Some characters
  pub name_is : name ≡ encode_utf8_all characters

-- that name, by its units
abbrev pub name_of : List ℕ → Option (List ℕ)
name_of units = if has_unpaired_surrogate units then None else Some (encode_utf8_all (utf16_lossy_chars units))

-- a field type with a dimension
abbrev pub IsArrayDescriptor : List ℕ → Type 0
IsArrayDescriptor text = (t : FieldType) × IsFieldType t × (0 < t.dimensions) × (text ≡ field_text t)

-- the text of a name has a form; any text will do for an attribute (4.7), but for the character 0
abbrev pub IsOfForm : Form → List ℕ → Type 0
IsOfForm forms.Attribute text = All (λ b. b ≢ 0) text
IsOfForm forms.Unqualified text = IsUnqualifiedName text
IsOfForm forms.Method text = IsAnyMethodName text
IsOfForm forms.Class text = IsClassName text
IsOfForm forms.Array text = IsArrayDescriptor text
IsOfForm forms.ClassOrArray text = IsClassName text ⊎ IsArrayDescriptor text
IsOfForm forms.FieldDescriptor text = IsFieldDescriptor text
IsOfForm forms.MethodDescriptor text = IsMethodDescriptor text
IsOfForm forms.Descriptor text = IsFieldDescriptor text ⊎ IsMethodDescriptor text

-- the units spell a text of a form
abbrev pub Spell : Form → List ℕ → Type 0
Spell form units = (name : List ℕ) × IsNameOf units name × IsOfForm form name

-- the text with these units stands at an index of the pool
abbrev pub HasText : List PoolEntry → ℕ → List ℕ → Type 0
HasText pool index units = slice_get pool index ≡ Some (Utf8 units)

-- a text of a form stands at an index
abbrev pub HasForm : List PoolEntry → Form → ℕ → Type 0
HasForm pool form index = (units : List ℕ) × HasText pool index units × Spell form units

-- the same text stands at two indices, which may be one
abbrev pub HaveOneText : List PoolEntry → ℕ → ℕ → Type 0
HaveOneText pool i j = (units : List ℕ) × HasText pool i units × HasText pool j units
