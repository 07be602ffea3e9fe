-- Bytes are one instruction at most, and have the size that its opcode and its operands tell.
use Rattle.std.proofs.Common.{◌≡◌, ℕ, ◌<◌, ◌≤◌, ◌^◌, List, [], ◌∷◌, ◌++◌, length, get_or, ap, sym, subst, ◌∙◌, refl}
use Rattle.std.proofs.Common.{◌⊎◌, inl, inr, arith}
use Rattle.cf_code.specs.declared.instr.Instr.{Instr}
use Rattle.cf_code.specs.declared.instr.Instr.TheVariants.{Nop, Constant, Local, Array, Stack, Number, Jump, Table}
use Rattle.cf_code.specs.declared.instr.Instr.TheVariants.{Lookup, Return, Field, Call, Object}
use Rattle.cf_code.specs.declared.switch.TableSwitch.{TableSwitch}
use Rattle.cf_code.specs.declared.switch.LookupSwitch.{LookupSwitch}
use Rattle.cf_code.specs.Instr.{spelling, Fits, IsInstr, IsPlain}
use Rattle.cf_code.specs.Laws.{HasItsSize}
use Rattle.cf_code.specs.Numbers.{number_opcode}
use Rattle.cf_code.specs.Returns.{return_opcode}
use Rattle.cf_code.specs.Sizes.{HasSize}
use Rattle.cf_code.specs.Stacks.{stack_opcode}
use Rattle.cf_code.specs.Steps.Families.{IsOpcode, HasOperands}
use Rattle.cf_code.specs.Switches.{table_body, lookup_body, table_spelling, lookup_spelling, FitsTable, FitsLookup}
use Rattle.cf_code.proofs.ArrayLemmas.{array_back, array_sized}
use Rattle.cf_code.proofs.CallLemmas.{call_back, call_sized}
use Rattle.cf_code.proofs.ConstantLemmas.{constant_back, constant_sized}
use Rattle.cf_code.proofs.FieldLemmas.{field_back, field_sized}
use Rattle.cf_code.proofs.JumpLemmas.{jump_back, jump_sized}
use Rattle.cf_code.proofs.LocalLemmas.{local_back, local_sized}
use Rattle.cf_code.proofs.NumberLemmas.{number_alone}
use Rattle.cf_code.proofs.ObjectLemmas.{object_back, object_sized}
use Rattle.cf_code.proofs.OpcodeLemmas.{fixed_sized, read}
use Rattle.cf_code.proofs.ReturnLemmas.{return_alone}
use Rattle.cf_code.proofs.StackLemmas.{stack_alone}
use Rattle.cf_code.proofs.SwitchLemmas.{one_table, one_lookup, table_sized, lookup_sized}

-- ---- one instruction

-- a plain instruction is read back from its bytes
pub plain_back : (pc : ℕ) (i : Instr) → pc ≤ 2 ^ 31 → IsPlain i → Fits pc i → read pc (spelling pc i) ≡ i
plain_back pc Nop reach plain a = refl
plain_back pc (Constant c) reach plain a = constant_back pc c a
plain_back pc (Local l) reach plain a = local_back pc l a
plain_back pc (Array x) reach plain a = array_back pc x a
plain_back pc (Stack s) reach plain a = (stack_alone s).0 pc
plain_back pc (Number n) reach plain a = (number_alone n).0 pc
plain_back pc (Jump j) reach plain a = jump_back pc j reach a
plain_back pc (Table s) reach plain a = absurd plain
plain_back pc (Lookup s) reach plain a = absurd plain
plain_back pc (Return r) reach plain a = (return_alone r).0 pc
plain_back pc (Field f) reach plain a = field_back pc f a
plain_back pc (Call c) reach plain a = call_back pc c a
plain_back pc (Object x) reach plain a = object_back pc x a

module _ (pc : ℕ) (reach : pc ≤ 2 ^ 31) where
  -- what begins with the opcode of a switch is no plain instruction
  not_plain : (opcode : ℕ) (rest : List ℕ) (j : Instr) → IsPlain j → Fits pc j → opcode ∷ rest ≡ spelling pc j
      → read pc (opcode ∷ rest) ≡ Nop → 0 < opcode → ⊥
  not_plain opcode rest j plain fits is none some =
      let nop : j ≡ Nop = sym (plain_back pc j reach plain fits) ∙ ap (λ (b : List ℕ). read pc b) (sym is) ∙ none in
      let first : opcode ∷ rest ≡ 0 ∷ [] = is ∙ ap (λ (i : Instr). spelling pc i) nop in
      omega (arith, ap (λ (b : List ℕ). get_or b 0 0) first)

  from_table : (s : TableSwitch) (j : Instr) → FitsTable pc s → Fits pc j → table_spelling pc s ≡ spelling pc j
      → Table s ≡ j
  from_table s (Table t) a b is = ap (λ (x : TableSwitch). Table x) (one_table pc s t reach a b is)
  from_table s (Lookup t) a b is = absurd (omega (arith, ap (λ (x : List ℕ). get_or x 0 0) is))
  from_table s j a b is =
      absurd (not_plain 170 (s.padding ++ table_body pc s.default s.low s.targets) j tt b is refl (omega arith))

  from_lookup : (s : LookupSwitch) (j : Instr) → FitsLookup pc s → Fits pc j → lookup_spelling pc s ≡ spelling pc j
      → Lookup s ≡ j
  from_lookup s (Table t) a b is = absurd (omega (arith, ap (λ (x : List ℕ). get_or x 0 0) is))
  from_lookup s (Lookup t) a b is = ap (λ (x : LookupSwitch). Lookup x) (one_lookup pc s t reach a b is)
  from_lookup s j a b is =
      absurd (not_plain 171 (s.padding ++ lookup_body pc s.default s.cases) j tt b is refl (omega arith))

  from_plain : (i j : Instr) → IsPlain i → Fits pc i → Fits pc j → spelling pc i ≡ spelling pc j → i ≡ j
  from_plain i (Table t) plain a b is = sym (from_table t i b a (sym is))
  from_plain i (Lookup t) plain a b is = sym (from_lookup t i b a (sym is))
  from_plain i j plain a b is =
      sym (plain_back pc i reach plain a) ∙ ap (λ (x : List ℕ). read pc x) is ∙ plain_back pc j reach tt b

  -- instructions at a pc in reach of four signed bytes, of the same bytes, are one
  pub one_instr : (i j : Instr) → Fits pc i → Fits pc j → spelling pc i ≡ spelling pc j → i ≡ j
  one_instr (Table s) j a b is = from_table s j a b is
  one_instr (Lookup s) j a b is = from_lookup s j a b is
  one_instr i j a b is = from_plain i j tt a b is

-- bytes are one instruction at a pc of two bytes
pub one_found : (pc : ℕ) (bytes : List ℕ) (i j : Instr) → pc < 2 ^ 16 → IsInstr pc bytes i → IsInstr pc bytes j → i ≡ j
one_found pc bytes i j short a b = one_instr pc (omega arith) i j a.1 b.1 (sym a.0 ∙ b.0)

-- a plain instruction is of a family that has operands, or the first byte is its opcode
pub operands_or_opcode : (pc : ℕ) (bytes : List ℕ) (i : Instr) → IsPlain i → IsInstr pc bytes i
    → HasOperands i ⊎ IsOpcode i (get_or bytes 0 0)
operands_or_opcode pc bytes Nop plain is = inr (ap (λ (b : List ℕ). get_or b 0 0) is.0)
operands_or_opcode pc bytes (Stack s) plain is = inr (ap (λ (b : List ℕ). get_or b 0 0) is.0)
operands_or_opcode pc bytes (Number n) plain is = inr (ap (λ (b : List ℕ). get_or b 0 0) is.0)
operands_or_opcode pc bytes (Return r) plain is = inr (ap (λ (b : List ℕ). get_or b 0 0) is.0)
operands_or_opcode pc bytes (Table s) plain is = absurd plain
operands_or_opcode pc bytes (Lookup s) plain is = absurd plain
operands_or_opcode pc bytes i plain is = inl tt

-- ---- sizes

module _ (pc : ℕ) (rest : List ℕ) where
  -- what an instruction is spelled as has its size
  spelling_sized : (of : Instr) → Fits pc of → HasSize pc (spelling pc of ++ rest) (length (spelling pc of))
  spelling_sized Nop fits = fixed_sized pc 0 [] rest (refl, refl)
  spelling_sized (Constant c) fits = constant_sized pc rest c fits
  spelling_sized (Local l) fits = local_sized pc rest l fits
  spelling_sized (Array a) fits = array_sized pc rest a
  spelling_sized (Stack s) fits = fixed_sized pc (stack_opcode s) [] rest (stack_alone s).1
  spelling_sized (Number n) fits = fixed_sized pc (number_opcode n) [] rest (number_alone n).1
  spelling_sized (Jump j) fits = jump_sized pc rest j
  spelling_sized (Table s) fits = table_sized pc rest s fits
  spelling_sized (Lookup s) fits = lookup_sized pc rest s fits
  spelling_sized (Return r) fits = fixed_sized pc (return_opcode r) [] rest (return_alone r).1
  spelling_sized (Field f) fits = field_sized pc rest f
  spelling_sized (Call c) fits = call_sized pc rest c
  spelling_sized (Object o) fits = object_sized pc rest o

-- the bytes of an instruction have its size, whatever follows them
pub instr_has_size : HasItsSize
instr_has_size pc bytes rest of is =
    subst (λ (b : List ℕ). HasSize pc (b ++ rest) (length b)) (sym is.0) (spelling_sized pc rest of is.1)
