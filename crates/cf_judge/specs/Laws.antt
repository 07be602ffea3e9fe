-- What holds of the definitions: a file is in order, or it has one first fault, and not both.
use Rattle.std.specs.Prelude.{◌≡◌, ◌⊎◌, ℕ, List}
use Rattle.cf_pool.specs.declared.entry.PoolEntry.{PoolEntry}
use Rattle.cf_pool.specs.declared.fault.What.{What}
use Rattle.cf_pool.specs.declared.fault.Fault.{Fault}
use Rattle.cf_structure.specs.Raw.{RawFile}
use Rattle.cf_judge.specs.declared.form.Form.{Form}
use Rattle.cf_judge.specs.declared.index.Wanted.TheVariants.{Formed}
use Rattle.cf_judge.specs.Forms.{IsNameOf, HasForm}
use Rattle.cf_judge.specs.Indices.{HasPlainClass, IsWrongIndex}
use Rattle.cf_judge.specs.Judged.{IsFirst, IsJudged, IsJudgedFault}

pub record OneJudgementOf (file : RawFile) : Type 0 where
  pub one : IsJudged file ⊎ ((fault : Fault) × IsJudgedFault file fault)
  pub one_fault : (a b : Fault) → IsJudgedFault file a → IsJudgedFault file b → a ≡ b
  pub not_both : (fault : Fault) → IsJudged file → IsJudgedFault file fault → ⊥

abbrev pub OneJudgement : Type 0
OneJudgement = (file : RawFile) → OneJudgementOf file

-- at an index there is a class that is no array, or there is none
abbrev pub PlainClassDecided : Type 0
PlainClassDecided = (pool : List PoolEntry) (index : ℕ) → HasPlainClass pool index ⊎ (HasPlainClass pool index → ⊥)

-- of two faults each is not behind the other only where they are the same
abbrev pub OneFirst : Type 0
OneFirst = (a b : Fault) → IsFirst a b → IsFirst b a → a ≡ b

-- at an index there is a text of the form, or some word says what is wrong
abbrev pub FormDecided : Type 0
FormDecided = (pool : List PoolEntry) (form : Form) (index : ℕ)
    → HasForm pool form index ⊎ ((what : What) × IsWrongIndex pool (Formed form) index what)

-- units spell one name at most
abbrev pub OneName : Type 0
OneName = (units a b : List ℕ) → IsNameOf units a → IsNameOf units b → a ≡ b
