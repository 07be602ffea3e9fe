-- Whether an instruction has bytes at a pc is decided, family by family.
use Rattle.std.proofs.Common.{◌≡◌, ℕ, ℤ, ◌<◌, ◌^◌, List, length, inl}
use Rattle.std.specs.Prelude.{◌<ℤ◌}
use Rattle.std.specs.Int.{w8, w16, w32}
use Rattle.std.specs.Int.RustNames.{FitsSigned}
use Rattle.std.specs.List.{All}
use Rattle.cf_code.specs.Bytes.{offset, IsByte, IsTwo}
use Rattle.cf_code.specs.Constants.{FitsConstant}
use Rattle.cf_code.specs.Locals.{FitsIndex, FitsLocal}
use Rattle.cf_code.specs.Arrays.{FitsArray}
use Rattle.cf_code.specs.Jumps.{IsNear, FitsJump}
use Rattle.cf_code.specs.Switches.{padding_at, high_key, FitsCase, Rise, FitsTableBody, FitsLookupBody}
use Rattle.cf_code.specs.Switches.{FitsTable, FitsLookup}
use Rattle.cf_code.specs.Calls.{FitsCall}
use Rattle.cf_code.specs.Objects.{FitsObject}
use Rattle.cf_code.specs.Instr.{Fits}
use Rattle.cf_code.specs.declared.constant.Constant.{Constant as TheConstant}
use Rattle.cf_code.specs.declared.constant.Constant.TheVariants.{Null, Iconst, Lconst, Fconst, Dconst, Bipush, Sipush}
use Rattle.cf_code.specs.declared.constant.Constant.TheVariants.{Ldc, LdcW, Ldc2W}
use Rattle.cf_code.specs.declared.local.LocalIndex.{LocalIndex}
use Rattle.cf_code.specs.declared.local.LocalIndex.TheVariants as index
use Rattle.cf_code.specs.declared.local.Local.{Local as TheLocal}
use Rattle.cf_code.specs.declared.local.Local.TheVariants as local
use Rattle.cf_code.specs.declared.array.Array.{Array as TheArray}
use Rattle.cf_code.specs.declared.array.Array.TheVariants as array
use Rattle.cf_code.specs.declared.jump.Jump.{Jump as TheJump}
use Rattle.cf_code.specs.declared.jump.Jump.TheVariants.{GotoW, JsrW, IfZero, IfInts, IfReferences, IfNull, Goto, Jsr}
use Rattle.cf_code.specs.declared.switch.Case.{Case}
use Rattle.cf_code.specs.declared.switch.TableSwitch.{TableSwitch}
use Rattle.cf_code.specs.declared.switch.LookupSwitch.{LookupSwitch}
use Rattle.cf_code.specs.declared.call.Call.{Call as TheCall}
use Rattle.cf_code.specs.declared.call.Call.TheVariants.{Virtual, Special, Static, Interface, Dynamic}
use Rattle.cf_code.specs.declared.object.Object.{Object as TheObject}
use Rattle.cf_code.specs.declared.object.Object.TheVariants as object
use Rattle.cf_code.specs.declared.instr.Instr.{Instr}
use Rattle.cf_code.specs.declared.instr.Instr.TheVariants.{Nop, Constant, Local, Array, Stack, Number, Jump, Table}
use Rattle.cf_code.specs.declared.instr.Instr.TheVariants.{Lookup, Return, Field, Call, Object}
use Rattle.jv_list.proofs.DecidedLemmas.{Decided, both, other, numbers, below, at_most, int_at_most, int_below}
use Rattle.jv_list.proofs.DecidedLemmas.{signed, all}
use Rattle.jv_list.proofs.DecidedLemmas.{adjacent}

-- ---- operands

byte : (n : ℕ) → Decided (IsByte n)
byte n = below n (2 ^ 8)

two : (n : ℕ) → Decided (IsTwo n)
two n = below n (2 ^ 16)

near : (pc target : ℕ) → Decided (IsNear pc target)
near pc target = both (IsTwo target) (FitsSigned w16 (offset pc target)) (two target) (signed w16 (offset pc target))

-- ---- families

constant : (c : TheConstant) → Decided (FitsConstant c)
constant Null = inl tt
constant (Iconst z) = both _ _ (int_at_most _ z) (int_at_most z _)
constant (Lconst n) = at_most n 1
constant (Fconst n) = at_most n 2
constant (Dconst n) = at_most n 1
constant (Bipush z) = signed w8 z
constant (Sipush z) = signed w16 z
constant (Ldc n) = byte n
constant (LdcW n) = two n
constant (Ldc2W n) = two n

local_index : (i : LocalIndex) → Decided (FitsIndex i)
local_index (index.Short n) = at_most n 3
local_index (index.Byte n) = byte n
local_index (index.Wide n) = two n

local_fits : (l : TheLocal) → Decided (FitsLocal l)
local_fits (local.Load word i) = local_index i
local_fits (local.Store word i) = local_index i
local_fits (local.Iinc n z) = both (IsByte n) (FitsSigned w8 z) (byte n) (signed w8 z)
local_fits (local.IincWide n z) = both (IsTwo n) (FitsSigned w16 z) (two n) (signed w16 z)
local_fits (local.Ret n) = byte n
local_fits (local.RetWide n) = two n

array_fits : (a : TheArray) → Decided (FitsArray a)
array_fits (array.Load element) = inl tt
array_fits (array.Store element) = inl tt
array_fits (array.New code) = byte code
array_fits (array.NewOf n) = two n
array_fits (array.NewMany n dimensions) = both (IsTwo n) (IsByte dimensions) (two n) (byte dimensions)
array_fits array.Length = inl tt

jump_fits : (pc : ℕ) (j : TheJump) → Decided (FitsJump pc j)
jump_fits pc (IfZero condition target) = near pc target
jump_fits pc (IfInts condition target) = near pc target
jump_fits pc (IfReferences equality target) = near pc target
jump_fits pc (IfNull equality target) = near pc target
jump_fits pc (Goto target) = near pc target
jump_fits pc (Jsr target) = near pc target
jump_fits pc (GotoW target) = two target
jump_fits pc (JsrW target) = two target

call_fits : (c : TheCall) → Decided (FitsCall c)
call_fits (Virtual n) = two n
call_fits (Special n) = two n
call_fits (Static n) = two n
call_fits (Interface n count last) =
    other (IsTwo n × (IsByte count × IsByte last)) _ (λ h. (h.0, h.1.0, h.1.1)) (λ h. (h.0, (h.1, h.2)))
    (both (IsTwo n) _ (two n) (both (IsByte count) (IsByte last) (byte count) (byte last)))
call_fits (Dynamic n last) = both (IsTwo n) (IsTwo last) (two n) (two last)

object_fits : (o : TheObject) → Decided (FitsObject o)
object_fits (object.New n) = two n
object_fits object.Throw = inl tt
object_fits (object.CheckCast n) = two n
object_fits (object.InstanceOf n) = two n
object_fits object.MonitorEnter = inl tt
object_fits object.MonitorExit = inl tt

-- ---- switches

table_body_fits : (default : ℕ) (low : ℤ) (targets : List ℕ) → Decided (FitsTableBody default low targets)
table_body_fits default low targets =
    other (IsTwo default × (FitsSigned w32 low × (FitsSigned w32 high × ((0 < length targets) × All IsTwo targets)))) _
    (λ h. record { is_pc = h.0; low_fits = h.1.0; high_fits = h.1.1.0; some = h.1.1.1.0; are_pcs = h.1.1.1.1 })
    (λ h. (h.is_pc, (h.low_fits, (h.high_fits, (h.some, h.are_pcs)))))
    (both (IsTwo default) _ (two default) (both (FitsSigned w32 low) _ (signed w32 low)
    (both (FitsSigned w32 high) _ (signed w32 high) (both (0 < length targets) (All IsTwo targets)
    (below 0 (length targets)) (all IsTwo two targets)))))
  where
    high : ℤ
    high = high_key low targets

case_fits : (c : Case) → Decided (FitsCase c)
case_fits c = both (FitsSigned w32 c.key) (IsTwo c.target) (signed w32 c.key) (two c.target)

rises : (cases : List Case) → Decided (Rise cases)
rises cases = adjacent (λ (a b : Case). a.key <ℤ b.key) (λ a b. int_below a.key b.key) cases

lookup_body_fits : (default : ℕ) (cases : List Case) → Decided (FitsLookupBody default cases)
lookup_body_fits default cases =
    other (IsTwo default × ((length cases < 2 ^ 32) × (All FitsCase cases × Rise cases))) _
    (λ h. record { is_pc = h.0; few = h.1.0; all_fit = h.1.1.0; rise = h.1.1.1 })
    (λ h. (h.is_pc, (h.few, (h.all_fit, h.rise))))
    (both (IsTwo default) _ (two default) (both (length cases < 2 ^ 32) _ (below (length cases) (2 ^ 32))
    (both (All FitsCase cases) (Rise cases) (all FitsCase case_fits cases) (rises cases))))

module _ (pc : ℕ) where
  table_fits : (s : TableSwitch) → Decided (FitsTable pc s)
  table_fits s =
      both (length s.padding ≡ padding_at pc) (FitsTableBody s.default s.low s.targets)
      (numbers (length s.padding) (padding_at pc)) (table_body_fits s.default s.low s.targets)

  lookup_fits : (s : LookupSwitch) → Decided (FitsLookup pc s)
  lookup_fits s =
      both (length s.padding ≡ padding_at pc) (FitsLookupBody s.default s.cases)
      (numbers (length s.padding) (padding_at pc)) (lookup_body_fits s.default s.cases)

  -- ---- all

  pub instr_fits : (i : Instr) → Decided (Fits pc i)
  instr_fits Nop = inl tt
  instr_fits (Constant c) = constant c
  instr_fits (Local l) = local_fits l
  instr_fits (Array a) = array_fits a
  instr_fits (Stack s) = inl tt
  instr_fits (Number n) = inl tt
  instr_fits (Jump j) = jump_fits pc j
  instr_fits (Table s) = table_fits s
  instr_fits (Lookup s) = lookup_fits s
  instr_fits (Return r) = inl tt
  instr_fits (Field f) = two f.index
  instr_fits (Call c) = call_fits c
  instr_fits (Object o) = object_fits o
