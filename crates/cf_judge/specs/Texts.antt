-- The texts of a pool, each with the forms that it has.
use Rattle.std.specs.Prelude.{◌↔◌, ℕ, ◌≤◌, List, Bool, ◌||◌, IsTrue, Option, Some, None, IfSome, IfNone, slice_get}
use Rattle.cf_pool.specs.declared.entry.PoolEntry.{PoolEntry}
use Rattle.cf_pool.specs.declared.entry.PoolEntry.TheVariants.{Utf8}
use Rattle.cf_judge.specs.declared.form.Form.{Form}
use Rattle.cf_judge.specs.declared.form.Form.TheVariants as forms
use Rattle.cf_judge.specs.declared.text.Forms.{Forms}
use Rattle.cf_judge.specs.declared.text.Text.{Text}
use Rattle.cf_judge.specs.Forms.{IsNameOf, IsOfForm, Spell, HasText}

-- the forms have this one
abbrev pub has : Forms → Form → Bool
has f forms.Attribute = f.attribute
has f forms.Unqualified = f.unqualified
has f forms.Method = f.method
has f forms.Class = f.class
has f forms.Array = f.array
has f forms.ClassOrArray = f.class || f.array
has f forms.FieldDescriptor = f.field_descriptor
has f forms.MethodDescriptor = f.method_descriptor
has f forms.Descriptor = f.field_descriptor || f.method_descriptor

-- the forms are those of a name, and those of what units spell
abbrev pub AreFormsOf : List ℕ → Forms → Type 0
AreFormsOf name f = (form : Form) → IsTrue (has f form) ↔ IsOfForm form name

abbrev pub AreSpelled : List ℕ → Forms → Type 0
AreSpelled units f = (form : Form) → IsTrue (has f form) ↔ Spell form units

-- the first index at which a text stands
pub record IsFirstIndex (pool : List PoolEntry) (units : List ℕ) (first : ℕ) : Type 0 where
  pub stands : HasText pool first units
  pub least : (index : ℕ) → HasText pool index units → first ≤ index

-- the text with these units: its forms, its name, where it has one, and where it first stands
pub record IsTextFor (pool : List PoolEntry) (units : List ℕ) (t : Text) : Type 0 where
  pub forms : AreSpelled units t.forms
  pub name : IfSome t.name (λ name. IsNameOf units name)
  pub none : IfNone t.name ((name : List ℕ) → IsNameOf units name → ⊥)
  pub first : IsFirstIndex pool units t.first

-- what stands in a table of texts for what stands in the pool: for a text that text, for another entry none
abbrev pub IsTextOf : List PoolEntry → Option PoolEntry → Option (Option Text) → Type 0
IsTextOf pool (Some (Utf8 units)) (Some (Some t)) = IsTextFor pool units t
IsTextOf pool (Some (Utf8 units)) o = ⊥
IsTextOf pool (Some e) (Some None) = Unit {0}
IsTextOf pool None None = Unit {0}
IsTextOf pool e o = ⊥

-- the table has the texts of the pool, at the same indices
abbrev pub AreTexts : List PoolEntry → List (Option Text) → Type 0
AreTexts pool texts = (index : ℕ) → IsTextOf pool (slice_get pool index) (slice_get texts index)
