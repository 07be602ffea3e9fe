-- The bytes of the jumps (JVM Specification SE 8, 6.5). An offset counts from the pc of the jump's opcode.
use Rattle.std.specs.Prelude.{ℕ, List, ◌∷◌}
use Rattle.std.specs.Int.{w16}
use Rattle.std.specs.Int.RustNames.{FitsSigned}
use Rattle.cf_code.specs.Bytes.{offset, signed_two, signed_four, IsTwo}
use Rattle.cf_code.specs.declared.jump.Condition.{Condition}
use Rattle.cf_code.specs.declared.jump.Condition.TheVariants.{Equal, NotEqual, Less, AtLeast, Greater, AtMost}
use Rattle.cf_code.specs.declared.jump.Equality.{Equality}
use Rattle.cf_code.specs.declared.jump.Equality.TheVariants.{Same, Other}
use Rattle.cf_code.specs.declared.jump.Jump.{Jump}
use Rattle.cf_code.specs.declared.jump.Jump.TheVariants.{IfZero, IfInts, IfReferences, IfNull, Goto, GotoW, Jsr, JsrW}

-- ifeq, ifne, iflt, ifge, ifgt, ifle
abbrev pub zero_opcode : Condition → ℕ
zero_opcode Equal = 153
zero_opcode NotEqual = 154
zero_opcode Less = 155
zero_opcode AtLeast = 156
zero_opcode Greater = 157
zero_opcode AtMost = 158

-- if_icmpeq, if_icmpne, if_icmplt, if_icmpge, if_icmpgt, if_icmple
abbrev pub ints_opcode : Condition → ℕ
ints_opcode Equal = 159
ints_opcode NotEqual = 160
ints_opcode Less = 161
ints_opcode AtLeast = 162
ints_opcode Greater = 163
ints_opcode AtMost = 164

-- if_acmpeq, if_acmpne
abbrev pub references_opcode : Equality → ℕ
references_opcode Same = 165
references_opcode Other = 166

-- ifnull, ifnonnull
abbrev pub null_opcode : Equality → ℕ
null_opcode Same = 198
null_opcode Other = 199

-- a jump with an offset of two bytes
abbrev pub near_spelling : ℕ → ℕ → ℕ → List ℕ
near_spelling opcode pc target = opcode ∷ signed_two (offset pc target)

-- a jump with an offset of four bytes
abbrev pub far_spelling : ℕ → ℕ → ℕ → List ℕ
far_spelling opcode pc target = opcode ∷ signed_four (offset pc target)

-- a jump at a pc
abbrev pub jump_spelling : ℕ → Jump → List ℕ
jump_spelling pc (IfZero condition target) = near_spelling (zero_opcode condition) pc target
jump_spelling pc (IfInts condition target) = near_spelling (ints_opcode condition) pc target
jump_spelling pc (IfReferences equality target) = near_spelling (references_opcode equality) pc target
jump_spelling pc (IfNull equality target) = near_spelling (null_opcode equality) pc target
jump_spelling pc (Goto target) = near_spelling 167 pc target
jump_spelling pc (GotoW target) = far_spelling 200 pc target
jump_spelling pc (Jsr target) = near_spelling 168 pc target
jump_spelling pc (JsrW target) = far_spelling 201 pc target

-- a target that an offset of two bytes reaches
abbrev pub IsNear : ℕ → ℕ → Type 0
IsNear pc target = IsTwo target × FitsSigned w16 (offset pc target)

-- what has a spelling at a pc
abbrev pub FitsJump : ℕ → Jump → Type 0
FitsJump pc (IfZero condition target) = IsNear pc target
FitsJump pc (IfInts condition target) = IsNear pc target
FitsJump pc (IfReferences equality target) = IsNear pc target
FitsJump pc (IfNull equality target) = IsNear pc target
FitsJump pc (Goto target) = IsNear pc target
FitsJump pc (GotoW target) = IsTwo target
FitsJump pc (Jsr target) = IsNear pc target
FitsJump pc (JsrW target) = IsTwo target
