-- Where the instructions of code stand among its places.
use Rattle.std.proofs.Common.{◌≡◌, ℕ, ◌+◌, ◌-◌, ◌<◌, List, [], ◌∷◌, ◌++◌, length, length-append, slice_get}
use Rattle.std.proofs.Common.{Some, None, Contains, refl, sym, ap, subst, ◌∙◌, arith, inl, inr, append_assoc}
use Rattle.std.specs.Prelude.{IsSome}
use Rattle.std.specs.List.{AllByRecursion}
use Rattle.std.proofs.lemmas.List.{length-replicate}
use Rattle.cf_code.specs.declared.constant.Constant.TheVariants as constants
use Rattle.cf_code.specs.declared.local.LocalIndex as index
use Rattle.cf_code.specs.declared.local.LocalIndex.TheVariants as indices
use Rattle.cf_code.specs.declared.local.Local.TheVariants as locals
use Rattle.cf_code.specs.declared.word.Word.TheVariants as words
use Rattle.cf_code.specs.declared.word.Returned.TheVariants as returns
use Rattle.cf_code.specs.declared.number.BitOp.TheVariants as bits
use Rattle.cf_code.specs.declared.number.Whole.TheVariants as wholes
use Rattle.cf_code.specs.declared.number.Number.TheVariants as numbers
use Rattle.cf_code.specs.declared.jump.Condition.TheVariants as conditions
use Rattle.cf_code.specs.declared.jump.Jump.TheVariants as jumps
use Rattle.cf_code.specs.declared.object.Object.TheVariants as objects
use Rattle.cf_code.specs.declared.instr.Instr.{Instr}
use Rattle.cf_code.specs.declared.instr.Instr.TheVariants as instrs
use Rattle.cf_code.specs.declared.code.Placed.{Placed}
use Rattle.cf_code.specs.Instr.{spelling}
use Rattle.cf_code.specs.Locals.{access_spelling}
use Rattle.cf_code.specs.Code.{code_spelling}
use Rattle.cf_code.specs.Decoding.{IsCode, IsLaid}
use Rattle.cf_thin.specs.declared.instr.ThinInstr.{ThinInstr}
use Rattle.cf_thin.specs.Instr.{Found, Places, of_access, thin_of, places_of, thin_places}
use Rattle.cf_thin.specs.Laws.{StandsInPlace}
use Rattle.jv_list.proofs.MemberLemmas.{none_member, member_cases}

-- what is found is as long as the bytes, if anything is found
abbrev IsLong : Found → ℕ → Type 0
IsLong None bytes = Unit {0}
IsLong (Some found) bytes = (found.1 ≡ bytes) × (0 < bytes)

access_long : (access : ℕ → ThinInstr) (first opcode : ℕ) (index : index.LocalIndex)
    → IsLong (of_access access index) (length (access_spelling first opcode index))
access_long access first opcode (indices.Short n) = (refl, omega arith)
access_long access first opcode (indices.Byte n) = (refl, omega arith)
access_long access first opcode (indices.Wide n) = tt

long : (pc : ℕ) (instr : Instr) → IsLong (thin_of instr) (length (spelling pc instr))
long pc instrs.Nop = tt
long pc (instrs.Constant constants.Null) = (refl, omega arith)
long pc (instrs.Constant (constants.Iconst z)) = (refl, omega arith)
long pc (instrs.Constant (constants.Bipush z)) = (refl, omega arith)
long pc (instrs.Constant (constants.Sipush z)) = (refl, omega arith)
long pc (instrs.Constant c) = tt
long pc (instrs.Local (locals.Load words.Int index)) = access_long _ 26 21 index
long pc (instrs.Local (locals.Store words.Int index)) = access_long _ 59 54 index
long pc (instrs.Local l) = tt
long pc (instrs.Array a) = tt
long pc (instrs.Stack s) = tt
long pc (instrs.Number (numbers.Bitwise bits.Xor wholes.WholeInt)) = (refl, omega arith)
long pc (instrs.Number n) = tt
long pc (instrs.Jump (jumps.IfZero conditions.Equal t)) = (refl, omega arith)
long pc (instrs.Jump (jumps.IfZero conditions.NotEqual t)) = (refl, omega arith)
long pc (instrs.Jump (jumps.IfInts conditions.Equal t)) = (refl, omega arith)
long pc (instrs.Jump (jumps.IfInts conditions.NotEqual t)) = (refl, omega arith)
long pc (instrs.Jump (jumps.Goto t)) = (refl, omega arith)
long pc (instrs.Jump j) = tt
long pc (instrs.Table s) = tt
long pc (instrs.Lookup s) = tt
long pc (instrs.Return (returns.Value words.Int)) = (refl, omega arith)
long pc (instrs.Return returns.Nothing) = (refl, omega arith)
long pc (instrs.Return r) = tt
long pc (instrs.Field f) = tt
long pc (instrs.Call c) = tt
long pc (instrs.Object objects.Throw) = (refl, omega arith)
long pc (instrs.Object o) = tt

-- so many places has what is found
found_places : (found : Found) (bytes : ℕ) → IsSome found → IsLong found bytes → length (places_of found) ≡ bytes
found_places None bytes some is = absurd cc
found_places (Some found) bytes some is =
    omega (arith, is.0, is.1, length-replicate {A = Found} (found.1 - 1) None)

abbrev IsThinPlaced : Placed → Type 0
IsThinPlaced placed = IsSome (thin_of placed.instr)

-- there are as many places as bytes
pub as_many : (code : List Placed) → AllByRecursion IsThinPlaced code
    → length (thin_places code) ≡ length (code_spelling code)
as_many [] all = refl
as_many (p ∷ code) all =
    let here = found_places (thin_of p.instr) (length (spelling p.pc p.instr)) all.0 (long p.pc p.instr) in
    length-append (places_of (thin_of p.instr)) (thin_places code)
    ∙ omega (arith, here, as_many code all.1, length-append (spelling p.pc p.instr) (code_spelling code))

-- at the first of its places stands what is found
first_place : (before : Places) (found : Found) (rest : Places) (at : ℕ) → at ≡ length before
    → slice_get (before ++ (places_of found ++ rest)) at ≡ Some found
first_place [] None rest at e = rw e refl
first_place [] (Some found) rest at e = rw e refl
first_place (b ∷ before) found rest at e =
    rw e (first_place before found rest (length before) refl)

-- each instruction stands at its pc, where the first stands behind so many places
pub stand : (before : Places) (code : List Placed) → IsLaid (length before) code → AllByRecursion IsThinPlaced code
    → (p : Placed) → Contains code p → slice_get (before ++ thin_places code) p.pc ≡ Some (thin_of p.instr)
stand before [] laid all p c = absurd (none_member p c)
stand before (q ∷ code) laid all p c =
    let found : Found = thin_of q.instr in
    let rest : Places = thin_places code in
    elim (member_cases q code p c) [
      | inl same ↦
          let at : slice_get (before ++ (places_of found ++ rest)) q.pc ≡ Some found =
          first_place before found rest q.pc laid.0 in
          subst (λ (x : Placed). slice_get (before ++ (places_of found ++ rest)) x.pc ≡ Some (thin_of x.instr)) same at
      | inr later ↦
          let size = found_places found (length (spelling q.pc q.instr)) all.0 (long q.pc q.instr) in
          let behind : length (before ++ places_of found) ≡ length before + length (spelling q.pc q.instr) =
          length-append before (places_of found) ∙ ap (λ (n : ℕ). length before + n) size in
          let next = subst (λ (n : ℕ). IsLaid n code) (sym behind) laid.1 in
          let there = stand (before ++ places_of found) code next all.1 p later in
          ap (λ (xs : Places). slice_get xs p.pc) (sym (append_assoc before (places_of found) rest)) ∙ there
    ]

pub in_place : (bytes : List ℕ) (code : List Placed) → IsCode bytes code → AllByRecursion IsThinPlaced code
    → StandsInPlace bytes code
in_place bytes code is all = record {
  places = as_many code all ∙ ap length (sym is.spelled);
  each = stand [] code is.laid all;
}
