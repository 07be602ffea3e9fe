-- What an index into the constant pool has to find (JVM Specification SE 8, 4.1, 4.4 to 4.7), and what is wrong where it does not.
use Rattle.std.specs.Prelude.{◌≡◌, ◌≢◌, ℕ, List, codes, slice_get, Some, ◌⊎◌}
use Rattle.cf_pool.specs.declared.entry.PoolEntry.{PoolEntry}
use Rattle.cf_pool.specs.declared.entry.PoolEntry.TheVariants.{Class, NameAndType, Integer, Float, Long, Double, Str}
use Rattle.cf_pool.specs.declared.fault.What.{What}
use Rattle.cf_pool.specs.declared.fault.What.TheVariants.{BadIndex, BadName, BadDesc}
use Rattle.cf_judge.specs.declared.form.Form.{Form}
use Rattle.cf_judge.specs.declared.form.Form.TheVariants as forms
use Rattle.cf_judge.specs.declared.index.Wanted.{Wanted}
use Rattle.cf_judge.specs.declared.index.Wanted.TheVariants as wanted
use Rattle.cf_judge.specs.Forms.{HasText, HasForm, Spell}

-- the word for a text that lacks its form
abbrev pub word_of : Form → What
word_of forms.Attribute = BadName
word_of forms.Unqualified = BadName
word_of forms.Method = BadName
word_of forms.Class = BadName
word_of forms.Array = BadName
word_of forms.ClassOrArray = BadName
word_of forms.FieldDescriptor = BadDesc
word_of forms.MethodDescriptor = BadDesc
word_of forms.Descriptor = BadDesc

-- no text stands at the index
abbrev pub HasNoText : List PoolEntry → ℕ → Type 0
HasNoText pool index = (units : List ℕ) → HasText pool index units → ⊥

-- a text without the form stands at the index
abbrev pub LacksForm : List PoolEntry → Form → ℕ → Type 0
LacksForm pool form index = (units : List ℕ) × HasText pool index units × (Spell form units → ⊥)

-- a class stands at the index, by the index of its name
abbrev pub HasClass : List PoolEntry → ℕ → ℕ → Type 0
HasClass pool index name = slice_get pool index ≡ Some (Class name)

abbrev pub IsClassAt : List PoolEntry → ℕ → Type 0
IsClassAt pool index = (name : ℕ) × HasClass pool index name

-- a class stands at the index, and it is no array
abbrev pub HasPlainClass : List PoolEntry → ℕ → Type 0
HasPlainClass pool index = (name : ℕ) × HasClass pool index name × (HasForm pool forms.Array name → ⊥)

-- a name and type stands at the index
abbrev pub HasNameAndType : List PoolEntry → ℕ → ℕ → ℕ → Type 0
HasNameAndType pool index name desc = slice_get pool index ≡ Some (NameAndType name desc)

abbrev pub IsNameAndTypeAt : List PoolEntry → ℕ → Type 0
IsNameAndTypeAt pool index = (name : ℕ) × (desc : ℕ) × HasNameAndType pool index name desc

-- A name and type is in order (4.4.6), but the word's part of it is of the other kind. One that is out of order is at fault
-- itself.
pub record IsOfOtherKind (pool : List PoolEntry) (name_form desc_form : Form) (name desc : ℕ) (what : What) : Type 0 where
  pub name_in_order : HasForm pool forms.Unqualified name
  pub desc_in_order : HasForm pool forms.Descriptor desc
  pub other : ((what ≡ BadName) × (HasForm pool name_form name → ⊥))
      ⊎ ((what ≡ BadDesc) × (HasForm pool desc_form desc → ⊥))

-- what is wrong with an index that does not find what is wanted
abbrev pub IsWrongIndex : List PoolEntry → Wanted → ℕ → What → Type 0
IsWrongIndex pool wanted.Text index what = (what ≡ BadIndex) × HasNoText pool index
IsWrongIndex pool (wanted.Formed form) index what =
    ((what ≡ BadIndex) × HasNoText pool index) ⊎ ((what ≡ word_of form) × LacksForm pool form index)
IsWrongIndex pool wanted.Class index what = (what ≡ BadIndex) × (IsClassAt pool index → ⊥)
IsWrongIndex pool wanted.PlainClass index what = (what ≡ BadIndex) × (HasPlainClass pool index → ⊥)
IsWrongIndex pool wanted.CatchType index what = (what ≡ BadIndex) × (index ≢ 0) × (HasPlainClass pool index → ⊥)
IsWrongIndex pool (wanted.NameAndType name_form desc_form) index what =
    ((what ≡ BadIndex) × (IsNameAndTypeAt pool index → ⊥))
    ⊎ ((name : ℕ) × (desc : ℕ) × HasNameAndType pool index name desc × IsOfOtherKind pool name_form desc_form name desc what)

-- a constant fits the descriptor of a field (4.7.2, table 4.7.2-A)
abbrev pub Fits : PoolEntry → List ℕ → Type 0
Fits (Integer n) desc =
    (desc ≡ codes "I") ⊎ (desc ≡ codes "S") ⊎ (desc ≡ codes "C") ⊎ (desc ≡ codes "B") ⊎ (desc ≡ codes "Z")
Fits (Float bits) desc = desc ≡ codes "F"
Fits (Long n) desc = desc ≡ codes "J"
Fits (Double bits) desc = desc ≡ codes "D"
Fits (Str text) desc = desc ≡ codes "Ljava/lang/String;"
Fits entry desc = ⊥

-- a constant stands at the index, and it fits the descriptor
pub record FitsField (pool : List PoolEntry) (desc index : ℕ) : Type 0 where
  pub entry : PoolEntry
  pub units : List ℕ
  pub stands : slice_get pool index ≡ Some entry
  pub text : HasText pool desc units
  pub fits : Fits entry units
