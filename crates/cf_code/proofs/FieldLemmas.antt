-- The instructions on fields: read back from their bytes, and as long as their opcodes tell.
use Rattle.std.proofs.Common.{◌≡◌, ℕ, List, ◌++◌, length, refl}
use Rattle.cf_code.specs.Bytes.{two}
use Rattle.cf_code.specs.Fields.{field_opcode, field_spelling, FitsField}
use Rattle.cf_code.specs.Sizes.{HasSize}
use Rattle.cf_code.specs.declared.field.FieldUse.{FieldUse}
use Rattle.cf_code.specs.declared.field.FieldUse.TheVariants.{GetStatic, PutStatic, Get, Put}
use Rattle.cf_code.specs.declared.field.Field.{Field as TheField}
use Rattle.cf_code.specs.declared.instr.Instr.{Instr}
use Rattle.cf_code.specs.declared.instr.Instr.TheVariants.{Field}
use Rattle.cf_code.proofs.OpcodeLemmas.{Tells, fixed_sized, pair_back, read}

abbrev field_of : FieldUse → ℕ → Instr
field_of access index = Field (record { access = access; index = index })

use_back : (pc : ℕ) (access : FieldUse) (n : ℕ) → FitsField (record { access = access; index = n })
    → read pc (field_spelling (record { access = access; index = n })) ≡ field_of access n
use_back pc GetStatic n a = pair_back (field_of GetStatic) pc n a
use_back pc PutStatic n a = pair_back (field_of PutStatic) pc n a
use_back pc Get n a = pair_back (field_of Get) pc n a
use_back pc Put n a = pair_back (field_of Put) pc n a

pub field_back : (pc : ℕ) (f : TheField) → FitsField f → read pc (field_spelling f) ≡ Field f
field_back pc f a = use_back pc f.access f.index a

use_tells : (access : FieldUse) → Tells (field_opcode access) 3
use_tells GetStatic = (refl, refl)
use_tells access = (refl, refl)

pub field_sized : (pc : ℕ) (rest : List ℕ) (f : TheField)
    → HasSize pc (field_spelling f ++ rest) (length (field_spelling f))
field_sized pc rest f = fixed_sized pc (field_opcode f.access) (two f.index) rest (use_tells f.access)
