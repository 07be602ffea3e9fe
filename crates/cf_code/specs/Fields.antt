-- The bytes of the instructions on fields (JVM Specification SE 8, 6.5).
use Rattle.std.specs.Prelude.{ℕ, List, ◌∷◌}
use Rattle.cf_code.specs.Bytes.{two, IsTwo}
use Rattle.cf_code.specs.declared.field.FieldUse.{FieldUse}
use Rattle.cf_code.specs.declared.field.FieldUse.TheVariants.{GetStatic, PutStatic, Get, Put}
use Rattle.cf_code.specs.declared.field.Field.{Field}

-- getstatic, putstatic, getfield, putfield
abbrev pub field_opcode : FieldUse → ℕ
field_opcode GetStatic = 178
field_opcode PutStatic = 179
field_opcode Get = 180
field_opcode Put = 181

-- the use, and the index of the field in the constant pool
abbrev pub field_spelling : Field → List ℕ
field_spelling field = field_opcode field.access ∷ two field.index

-- what has a spelling
abbrev pub FitsField : Field → Type 0
FitsField field = IsTwo field.index
