-- The machine on a few states, as chapter 6 of the JVM Specification SE 8 has it.
use Rattle.std.proofs.Common.{◌≡◌, ℕ, pos, negsuc, [], ◌∷◌, Some, None, refl}
use Rattle.jv_base.specs.declared.method.Kind.TheVariants.{Null}
use Rattle.jv_base.specs.declared.value.Value.TheVariants.{Int, Ref}
use Rattle.cf_thin.specs.declared.instr.ThinInstr.TheVariants.{Iload, Istore, Ixor, Ifeq, Ifne, IfIcmpeq, IfIcmpne}
use Rattle.cf_thin.specs.declared.instr.ThinInstr.TheVariants.{AconstNull, Ireturn, Return, Athrow}
use Rattle.cf_thin.specs.Instr.{Places, instr_at}
use Rattle.jb_run.specs.declared.machine.State.{State}
use Rattle.jb_run.specs.declared.machine.Outcome.TheVariants.{Next, Raised, Stuck}
use Rattle.jb_run.specs.Machine.{step_of, step, after, start}

-- a state with the locals 7 and nothing, and with 5 below -1 on the stack
abbrev sample : State
sample = record { pc = 10; locals = Some (Int (pos 7)) ∷ None ∷ []; stack = Int (pos 5) ∷ Int (negsuc 0) ∷ [] }

abbrev sample_at : ℕ → State
sample_at pc = record sample { pc = pc; stack = [] }

pub xor_is : step_of Ixor 11 sample ≡ Next (record sample { pc = 11; stack = Int (negsuc 5) ∷ [] })
xor_is = refl

pub load_is : step_of (Iload 0) 12 sample ≡ Next
    (record sample { pc = 12; stack = Int (pos 5) ∷ Int (negsuc 0) ∷ Int (pos 7) ∷ [] })
load_is = refl

pub load_of_nothing_is : step_of (Iload 1) 12 sample ≡ Stuck
load_of_nothing_is = refl

pub load_past_end_is : step_of (Iload 2) 12 sample ≡ Stuck
load_past_end_is = refl

pub store_is : step_of (Istore 3) 12 sample ≡ Next
    (record {
      pc = 12;
      locals = Some (Int (pos 7)) ∷ None ∷ None ∷ Some (Int (negsuc 0)) ∷ [];
      stack = Int (pos 5) ∷ [];
    })
store_is = refl

pub store_over_is : step_of (Istore 0) 12 sample ≡ Next
    (record { pc = 12; locals = Some (Int (negsuc 0)) ∷ None ∷ []; stack = Int (pos 5) ∷ [] })
store_over_is = refl

pub not_equal_is : step_of (IfIcmpne 40) 13 sample ≡ Next (sample_at 40)
not_equal_is = refl

pub equal_is : step_of (IfIcmpeq 40) 13 sample ≡ Next (sample_at 13)
equal_is = refl

pub not_zero_is : step_of (Ifne 40) 13 sample ≡ Next (record sample { pc = 40; stack = Int (pos 5) ∷ [] })
not_zero_is = refl

pub zero_is : step_of (Ifeq 40) 13 sample ≡ Next (record sample { pc = 13; stack = Int (pos 5) ∷ [] })
zero_is = refl

pub throw_of_int_is : step_of Athrow 11 sample ≡ Stuck
throw_of_int_is = refl

pub throw_of_null_is : step_of Athrow 11 (record sample { stack = Ref None ∷ [] }) ≡ Raised Null
throw_of_null_is = refl

pub give_of_null_is : step_of Ireturn 11 (record sample { stack = Ref None ∷ [] }) ≡ Stuck
give_of_null_is = refl

-- iload_0, iload_1, if_icmpne 7, aconst_null, athrow, return
abbrev equal_ints : Places
equal_ints =
    Some (Iload 0, 1) ∷ Some (Iload 1, 1) ∷ Some (IfIcmpne 7, 3) ∷ None ∷ None ∷ Some (AconstNull, 1) ∷ Some (Athrow, 1)
    ∷ Some (Return, 1) ∷ []

-- with 7 and 7, the fifth step raises null at 6
pub sevens_reach : after equal_ints 4 (start (pos 7 ∷ pos 7 ∷ [])) ≡ Some
    (record { pc = 6; locals = Some (Int (pos 7)) ∷ Some (Int (pos 7)) ∷ []; stack = Ref None ∷ [] })
unfolding after step instr_at
sevens_reach = refl

pub sevens_raise : step equal_ints
    (record { pc = 6; locals = Some (Int (pos 7)) ∷ Some (Int (pos 7)) ∷ []; stack = Ref None ∷ [] }) ≡ Raised Null
unfolding step instr_at
sevens_raise = refl

-- with 7 and 1, the run comes to the end of the code, and returns
pub others_reach : after equal_ints 3 (start (pos 7 ∷ pos 1 ∷ [])) ≡ Some
    (record { pc = 7; locals = Some (Int (pos 7)) ∷ Some (Int (pos 1)) ∷ []; stack = [] })
unfolding after step instr_at
others_reach = refl

pub others_end : after equal_ints 4 (start (pos 7 ∷ pos 1 ∷ [])) ≡ None
unfolding after step instr_at
others_end = refl
