-- The instruction at a pc: its parts, where it ends and where it jumps to.
use Rattle.std.proofs.lemmas.Option.{some_pair_parts, cond_some}
use Rattle.std.proofs.lemmas.Bool.Decides.{nat_tests}
use Rattle.std.proofs.Common.{◌+◌, length, slice_get, Option, ◌∙◌, ◌≡◌, ℕ, ◌<◌, ◌≤◌, Bool, true, false, ◌&&◌}
use Rattle.std.proofs.Common.{nat_le, nat_lt}
use Rattle.std.proofs.Common.{Some, None, refl, sym, ap, arith}
use Rattle.cf_thin.specs.declared.instr.ThinInstr.{ThinInstr}
use Rattle.cf_thin.specs.Instr.{Found, Places, target_of, jumps_on, goes_on, standing_at, found_at, instr_at}

-- the parts of what is found
pub found_parts : (i instr : ThinInstr) (n size : ℕ)
    → ◌≡◌ {A = Option (ThinInstr × ℕ)} (Some (i, n)) (Some (instr, size)) → (i ≡ instr) × (n ≡ size)
found_parts i instr n size is = some_pair_parts i instr n size is

both_true : (a b : Bool) → (a && b) ≡ true → (a ≡ true) × (b ≡ true)
both_true true b h = (refl, h)
both_true false b h = absurd cc

-- where an instruction goes on, it ends behind the pc and within the bytes, and jumps behind the pc
record GoesOn (bytes pc : ℕ) (instr : ThinInstr) (size : ℕ) : Type 0 where
  ends : 0 < size
  within : pc + size ≤ bytes
  jumps : jumps_on pc (target_of instr) ≡ true

goes : (bytes pc : ℕ) (instr : ThinInstr) (size : ℕ) → goes_on bytes pc instr size ≡ true → GoesOn bytes pc instr size
goes bytes pc instr size h =
    let last = both_true (nat_lt 0 size && nat_le (pc + size) bytes) (jumps_on pc (target_of instr)) h in
    let first = both_true (nat_lt 0 size) (nat_le (pc + size) bytes) last.0 in
    record { ends = grind (arith, nat_tests); within = grind (arith, nat_tests); jumps = last.1 }

-- what stands at a pc was found there, and goes on
record IsStanding (bytes pc : ℕ) (instr : ThinInstr) (next : ℕ) : Type 0 where
  size : ℕ
  next_is : pc + size ≡ next
  on : GoesOn bytes pc instr size

standing : (bytes pc : ℕ) (i instr : ThinInstr) (size next : ℕ) → standing_at bytes pc (i, size) ≡ Some (instr, next)
    → IsStanding bytes pc instr next
standing bytes pc i instr size next is =
    let e = cond_some (goes_on bytes pc i size) (i, pc + size) (instr, next) is in
    let same : i ≡ instr = ap (λ (x : ThinInstr × ℕ). x.0) e.1 in
    let at : pc + size ≡ next = ap (λ (x : ThinInstr × ℕ). x.1) e.1 in
    let ahead : goes_on bytes pc instr size ≡ true = sym (ap (λ (x : ThinInstr). goes_on bytes pc x size) same) ∙ e.0 in
    record { size = size; next_is = at; on = goes bytes pc instr size ahead }

found_standing : (bytes pc : ℕ) (found : Option Found) (instr : ThinInstr) (next : ℕ)
    → found_at bytes pc found ≡ Some (instr, next) → IsStanding bytes pc instr next
found_standing bytes pc (Some (Some found)) instr next is = standing bytes pc found.0 instr found.1 next is
found_standing bytes pc (Some None) instr next is = absurd cc
found_standing bytes pc None instr next is = absurd cc

stands : (code : Places) (pc : ℕ) (instr : ThinInstr) (next : ℕ) → instr_at code pc ≡ Some (instr, next)
    → IsStanding (length code) pc instr next
unfolding instr_at
stands code pc instr next is = found_standing (length code) pc (slice_get code pc) instr next is

-- an instruction ends behind its opcode and within the code
pub instr_ends : (code : Places) (pc : ℕ) (instr : ThinInstr) (next : ℕ) → instr_at code pc ≡ Some (instr, next)
    → (pc < next) × (next ≤ length code)
instr_ends code pc instr next is =
    let at = stands code pc instr next is in
    (omega (arith, at.next_is, at.on.ends), omega (arith, at.next_is, at.on.within))

jumped : (pc target : ℕ) (to : Option ℕ) → jumps_on pc to ≡ true → to ≡ Some target → pc < target
jumped pc target None h is = absurd cc
jumped pc target (Some t) h is = let same : t ≡ target = cc in grind (arith, nat_tests)

-- each jump of thin code goes forward
pub target_forward : (code : Places) (pc next target : ℕ) (instr : ThinInstr) → instr_at code pc ≡ Some (instr, next)
    → target_of instr ≡ Some target → pc < target
target_forward code pc next target instr is to =
    let at = stands code pc instr next is in
    jumped pc target (target_of instr) at.on.jumps to
