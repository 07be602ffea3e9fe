-- Thin code raises null alone.
use Rattle.std.proofs.Common.{◌≡◌, ℕ, ℤ, pos, ◌∷◌, [], ◌++◌, Option, Some, None}
use Rattle.std.specs.Prelude.{if◌then◌else◌}
use Rattle.std.specs.Int.{w32, int_bit_xor}
use Rattle.std.specs.Ordering.{int_eq}
use Rattle.jv_base.specs.declared.method.Kind.{Kind}
use Rattle.jv_base.specs.declared.method.Kind.TheVariants.{Null}
use Rattle.jv_base.specs.declared.value.Value.{Value}
use Rattle.jv_base.specs.declared.value.Value.TheVariants.{Int, Long, Ref}
use Rattle.cf_thin.specs.declared.instr.ThinInstr.{ThinInstr}
use Rattle.cf_thin.specs.declared.instr.ThinInstr.TheVariants.{AconstNull, Iconst, Iload, Istore, Ixor, Ifeq, Ifne}
use Rattle.cf_thin.specs.declared.instr.ThinInstr.TheVariants.{IfIcmpeq, IfIcmpne, Goto, Ireturn, Return, Athrow}
use Rattle.jb_run.specs.declared.machine.State.{State}
use Rattle.jb_run.specs.declared.machine.Outcome.{Outcome}
use Rattle.jb_run.specs.declared.machine.Outcome.TheVariants.{Next, Raised, Ended, Stuck}
use Rattle.jb_run.specs.Stack.{top, below}
use Rattle.jb_run.specs.Locals.{local_at, with_local}
use Rattle.jb_run.specs.Machine.{int_inside, with_int, with_ints, throw, goes_to, push, step_of}

-- what is raised, if anything, is null
record RaisesNull (outcome : Outcome) : Type 0 where
  null : (kind : Kind) → outcome ≡ Raised kind → kind ≡ Null

next_null : (state : State) → RaisesNull (Next state)
next_null state = record { null = λ kind is. absurd cc }

stuck_null : RaisesNull Stuck
stuck_null = record { null = λ kind is. absurd cc }

ended_null : RaisesNull Ended
ended_null = record { null = λ kind is. absurd cc }

int_null : (o : Option ℤ) (go : ℤ → Outcome) → ((n : ℤ) → RaisesNull (go n)) → RaisesNull (with_int o go)
int_null None go each = stuck_null
int_null (Some n) go each = each n

ints_null : (o p : Option ℤ) (go : ℤ → ℤ → Outcome) → ((a b : ℤ) → RaisesNull (go a b)) → RaisesNull (with_ints o p go)
ints_null None p go each = stuck_null
ints_null (Some a) None go each = stuck_null
ints_null (Some a) (Some b) go each = each a b

throw_null : (value : Option Value) → RaisesNull (throw value)
throw_null None = stuck_null
throw_null (Some (Int n)) = stuck_null
throw_null (Some (Long n)) = stuck_null
throw_null (Some (Ref None)) = record { null = λ kind is. cc }
throw_null (Some (Ref (Some n))) = stuck_null

each_null : (instr : ThinInstr) (next : ℕ) (state : State) → RaisesNull (step_of instr next state)
each_null AconstNull next state = next_null _
each_null (Iconst n) next state = next_null _
each_null (Iload index) next state = int_null (int_inside (local_at state.locals index)) (λ n. push (Int n) next state)
    (λ n. next_null _)
each_null (Istore index) next state =
    int_null (int_inside (top state.stack))
    (λ n. Next (record { pc = next; locals = with_local state.locals index (Int n); stack = below state.stack }))
    (λ n. next_null _)
each_null Ixor next state = ints_null (int_inside (top (below state.stack))) (int_inside (top state.stack))
    (λ a b. goes_to state next (below (below state.stack) ++ Int (int_bit_xor w32 a b) ∷ [])) (λ a b. next_null _)
each_null (Ifeq target) next state =
    int_null (int_inside (top state.stack)) (λ n. goes_to state (if int_eq n (pos 0) then target else next)
    (below state.stack)) (λ n. next_null _)
each_null (Ifne target) next state =
    int_null (int_inside (top state.stack)) (λ n. goes_to state (if int_eq n (pos 0) then next else target)
    (below state.stack)) (λ n. next_null _)
each_null (IfIcmpeq target) next state = ints_null (int_inside (top (below state.stack))) (int_inside (top state.stack))
    (λ a b. goes_to state (if int_eq a b then target else next) (below (below state.stack))) (λ a b. next_null _)
each_null (IfIcmpne target) next state = ints_null (int_inside (top (below state.stack))) (int_inside (top state.stack))
    (λ a b. goes_to state (if int_eq a b then next else target) (below (below state.stack))) (λ a b. next_null _)
each_null (Goto target) next state = next_null _
each_null Ireturn next state = int_null (int_inside (top state.stack)) (λ n. Ended) (λ n. ended_null)
each_null Return next state = ended_null
each_null Athrow next state = throw_null (top state.stack)

pub raises_null : (instr : ThinInstr) (next : ℕ) (state : State) (kind : Kind) → step_of instr next state ≡ Raised kind
    → kind ≡ Null
raises_null instr next state kind is = (each_null instr next state).null kind is
