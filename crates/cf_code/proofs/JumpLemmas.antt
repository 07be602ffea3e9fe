-- The jumps: read back from their bytes, and as long as their opcodes tell.
use Rattle.std.proofs.Common.{◌≡◌, ◌≤◌, ◌<◌, ◌^◌, ℕ, List, [], ◌∷◌, ◌++◌, length, get_or, ap, refl, arith}
use Rattle.cf_code.specs.Bytes.{signed_two, signed_four, offset, IsTwo}
use Rattle.cf_code.specs.Jumps.{zero_opcode, ints_opcode, references_opcode, null_opcode, near_spelling, jump_spelling}
use Rattle.cf_code.specs.Jumps.{far_spelling, IsNear, FitsJump}
use Rattle.cf_code.specs.Sizes.{HasSize}
use Rattle.cf_code.specs.Steps.Opcodes.{jump_opcode}
use Rattle.cf_code.specs.Targets.{jump_target}
use Rattle.cf_code.specs.declared.jump.Condition.{Condition}
use Rattle.cf_code.specs.declared.jump.Condition.TheVariants.{Equal, NotEqual, Less, AtLeast, Greater, AtMost}
use Rattle.cf_code.specs.declared.jump.Equality.{Equality}
use Rattle.cf_code.specs.declared.jump.Equality.TheVariants.{Same, Other}
use Rattle.cf_code.specs.declared.jump.Jump.{Jump as TheJump}
use Rattle.cf_code.specs.declared.jump.Jump.TheVariants.{IfZero, IfInts, IfReferences, IfNull, Goto, GotoW, Jsr, JsrW}
use Rattle.cf_code.specs.declared.instr.Instr.TheVariants.{Jump}
use Rattle.cf_code.proofs.OpcodeLemmas.{Tells, fixed_sized, near_back, far_back, read}

-- a jump with an offset of two bytes is read at its opcode, and has its size
abbrev pub IsNearJump : ℕ → (ℕ → TheJump) → Type 0
IsNearJump opcode of =
    ((pc t : ℕ) → IsNear pc t → read pc (near_spelling opcode pc t) ≡ Jump (of t)) × Tells opcode 3

zero_near : (c : Condition) → IsNearJump (zero_opcode c) (IfZero c)
zero_near Equal = (λ pc t a. near_back (λ s. Jump (IfZero Equal s)) pc t a, (refl, refl))
zero_near NotEqual = (λ pc t a. near_back (λ s. Jump (IfZero NotEqual s)) pc t a, (refl, refl))
zero_near Less = (λ pc t a. near_back (λ s. Jump (IfZero Less s)) pc t a, (refl, refl))
zero_near AtLeast = (λ pc t a. near_back (λ s. Jump (IfZero AtLeast s)) pc t a, (refl, refl))
zero_near Greater = (λ pc t a. near_back (λ s. Jump (IfZero Greater s)) pc t a, (refl, refl))
zero_near AtMost = (λ pc t a. near_back (λ s. Jump (IfZero AtMost s)) pc t a, (refl, refl))

ints_near : (c : Condition) → IsNearJump (ints_opcode c) (IfInts c)
ints_near Equal = (λ pc t a. near_back (λ s. Jump (IfInts Equal s)) pc t a, (refl, refl))
ints_near NotEqual = (λ pc t a. near_back (λ s. Jump (IfInts NotEqual s)) pc t a, (refl, refl))
ints_near Less = (λ pc t a. near_back (λ s. Jump (IfInts Less s)) pc t a, (refl, refl))
ints_near AtLeast = (λ pc t a. near_back (λ s. Jump (IfInts AtLeast s)) pc t a, (refl, refl))
ints_near Greater = (λ pc t a. near_back (λ s. Jump (IfInts Greater s)) pc t a, (refl, refl))
ints_near AtMost = (λ pc t a. near_back (λ s. Jump (IfInts AtMost s)) pc t a, (refl, refl))

references_near : (e : Equality) → IsNearJump (references_opcode e) (IfReferences e)
references_near Same = (λ pc t a. near_back (λ s. Jump (IfReferences Same s)) pc t a, (refl, refl))
references_near Other = (λ pc t a. near_back (λ s. Jump (IfReferences Other s)) pc t a, (refl, refl))

null_near : (e : Equality) → IsNearJump (null_opcode e) (IfNull e)
null_near Same = (λ pc t a. near_back (λ s. Jump (IfNull Same s)) pc t a, (refl, refl))
null_near Other = (λ pc t a. near_back (λ s. Jump (IfNull Other s)) pc t a, (refl, refl))

pub jump_back : (pc : ℕ) (j : TheJump) → pc ≤ 2 ^ 31 → FitsJump pc j → read pc (jump_spelling pc j) ≡ Jump j
jump_back pc (IfZero c t) reach a = (zero_near c).0 pc t a
jump_back pc (IfInts c t) reach a = (ints_near c).0 pc t a
jump_back pc (IfReferences e t) reach a = (references_near e).0 pc t a
jump_back pc (IfNull e t) reach a = (null_near e).0 pc t a
jump_back pc (Goto t) reach a = near_back (λ s. Jump (Goto s)) pc t a
jump_back pc (Jsr t) reach a = near_back (λ s. Jump (Jsr s)) pc t a
jump_back pc (GotoW t) reach a = far_back (λ s. Jump (GotoW s)) pc t reach a
jump_back pc (JsrW t) reach a = far_back (λ s. Jump (JsrW s)) pc t reach a

module _ (pc : ℕ) (rest : List ℕ) where
  near_sized : (opcode t : ℕ) → Tells opcode 3
      → HasSize pc (near_spelling opcode pc t ++ rest) (length (near_spelling opcode pc t))
  near_sized opcode t tells = fixed_sized pc opcode (signed_two (offset pc t)) rest tells

  pub jump_sized : (of : TheJump) → HasSize pc (jump_spelling pc of ++ rest) (length (jump_spelling pc of))
  jump_sized (IfZero c t) = near_sized (zero_opcode c) t (zero_near c).1
  jump_sized (IfInts c t) = near_sized (ints_opcode c) t (ints_near c).1
  jump_sized (IfReferences e t) = near_sized (references_opcode e) t (references_near e).1
  jump_sized (IfNull e t) = near_sized (null_opcode e) t (null_near e).1
  jump_sized (Goto t) = near_sized 167 t (refl, refl)
  jump_sized (Jsr t) = near_sized 168 t (refl, refl)
  jump_sized (GotoW t) = fixed_sized pc 200 (signed_four (offset pc t)) rest (refl, refl)
  jump_sized (JsrW t) = fixed_sized pc 201 (signed_four (offset pc t)) rest (refl, refl)

-- ---- the bytes of a jump, one by one

-- an opcode and an offset of two bytes
abbrev HasNear : List ℕ → ℕ → ℕ → ℕ → Type 0
HasNear bytes pc opcode t =
    (get_or bytes 0 0 ≡ opcode) × IsNear pc t
    × (get_or bytes 1 0 ∷ get_or bytes 2 0 ∷ [] ≡ signed_two (offset pc t))

-- an opcode and an offset of four bytes
abbrev HasFar : List ℕ → ℕ → ℕ → ℕ → Type 0
HasFar bytes pc opcode t =
    (get_or bytes 0 0 ≡ opcode) × IsTwo t
    × (get_or bytes 1 0 ∷ get_or bytes 2 0 ∷ get_or bytes 3 0 ∷ get_or bytes 4 0 ∷ [] ≡ signed_four (offset pc t))

module _ (pc : ℕ) (bytes : List ℕ) where
  near_parts : (opcode t : ℕ) → IsNear pc t → bytes ≡ near_spelling opcode pc t → HasNear bytes pc opcode t
  near_parts opcode t fits is = (
    ap (λ (b : List ℕ). get_or b 0 0) is,
    fits,
    ap (λ (b : List ℕ). get_or b 1 0 ∷ get_or b 2 0 ∷ []) is,
  )

  far_parts : (opcode t : ℕ) → IsTwo t → bytes ≡ far_spelling opcode pc t → HasFar bytes pc opcode t
  far_parts opcode t fits is = (
    ap (λ (b : List ℕ). get_or b 0 0) is,
    fits,
    ap (λ (b : List ℕ). get_or b 1 0 ∷ get_or b 2 0 ∷ get_or b 3 0 ∷ get_or b 4 0 ∷ []) is,
  )

  pub jump_near : (j : TheJump) → length bytes < 5 → FitsJump pc j → bytes ≡ jump_spelling pc j
      → HasNear bytes pc (jump_opcode j) (jump_target j)
  jump_near (IfZero c t) short fits is = near_parts (zero_opcode c) t fits is
  jump_near (IfInts c t) short fits is = near_parts (ints_opcode c) t fits is
  jump_near (IfReferences e t) short fits is = near_parts (references_opcode e) t fits is
  jump_near (IfNull e t) short fits is = near_parts (null_opcode e) t fits is
  jump_near (Goto t) short fits is = near_parts 167 t fits is
  jump_near (Jsr t) short fits is = near_parts 168 t fits is
  jump_near (GotoW t) short fits is = absurd (omega (arith, ap length is))
  jump_near (JsrW t) short fits is = absurd (omega (arith, ap length is))

  pub jump_far : (j : TheJump) → 4 < length bytes → FitsJump pc j → bytes ≡ jump_spelling pc j
      → HasFar bytes pc (jump_opcode j) (jump_target j)
  jump_far (IfZero c t) long fits is = absurd (omega (arith, ap length is))
  jump_far (IfInts c t) long fits is = absurd (omega (arith, ap length is))
  jump_far (IfReferences e t) long fits is = absurd (omega (arith, ap length is))
  jump_far (IfNull e t) long fits is = absurd (omega (arith, ap length is))
  jump_far (Goto t) long fits is = absurd (omega (arith, ap length is))
  jump_far (Jsr t) long fits is = absurd (omega (arith, ap length is))
  jump_far (GotoW t) long fits is = far_parts 200 t fits is
  jump_far (JsrW t) long fits is = far_parts 201 t fits is
