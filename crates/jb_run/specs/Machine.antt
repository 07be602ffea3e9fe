-- The machine of thin code: what each instruction does to the state of a run, in the JVM Specification SE 8's terms.
use Rattle.std.specs.Prelude.{ℕ, zero, suc, ℤ, pos, if◌then◌else◌, List, [], ◌∷◌, ◌++◌, map, Option, Some, None}
use Rattle.std.specs.Int.{w32, int_bit_xor}
use Rattle.std.specs.Ordering.{int_eq}
use Rattle.jv_base.specs.declared.method.Kind.TheVariants.{Null}
use Rattle.jv_base.specs.declared.value.Value.{Value}
use Rattle.jv_base.specs.declared.value.Value.TheVariants.{Int, Ref}
use Rattle.cf_thin.specs.declared.instr.ThinInstr.{ThinInstr}
use Rattle.cf_thin.specs.declared.instr.ThinInstr.TheVariants.{AconstNull, Iconst, Iload, Istore, Ixor, Ifeq, Ifne}
use Rattle.cf_thin.specs.declared.instr.ThinInstr.TheVariants.{IfIcmpeq, IfIcmpne, Goto, Ireturn, Return, Athrow}
use Rattle.cf_thin.specs.Instr.{Places, instr_at}
use Rattle.jb_run.specs.Locals.{local_at, with_local}
use Rattle.jb_run.specs.Stack.{top, below}
use Rattle.jb_run.specs.declared.machine.State.{State}
use Rattle.jb_run.specs.declared.machine.Outcome.{Outcome}
use Rattle.jb_run.specs.declared.machine.Outcome.TheVariants.{Next, Raised, Ended, Stuck}

-- the int of a value that is one (2.11.1)
abbrev pub int_inside : Option Value → Option ℤ
int_inside (Some (Int n)) = Some n
int_inside value = None

-- goes on with an int, and is stuck where there is none
abbrev pub with_int : Option ℤ → (ℤ → Outcome) → Outcome
with_int None go = Stuck
with_int (Some n) go = go n

-- pops an int
abbrev pub pop_int : List Value → (ℤ → List Value → Outcome) → Outcome
pop_int stack go = with_int (int_inside (top stack)) (λ n. go n (below stack))

-- goes on with two ints, and is stuck where one is wanting
abbrev pub with_ints : Option ℤ → Option ℤ → (ℤ → ℤ → Outcome) → Outcome
with_ints None second go = Stuck
with_ints (Some a) None go = Stuck
with_ints (Some a) (Some b) go = go a b

-- pops two ints, of which the second was on top
abbrev pub pop_ints : List Value → (ℤ → ℤ → List Value → Outcome) → Outcome
pop_ints stack go =
    with_ints (int_inside (top (below stack))) (int_inside (top stack)) (λ a b. go a b (below (below stack)))

-- the next state is at a pc, has an operand stack, and has the same locals
abbrev pub goes_to : State → ℕ → List Value → Outcome
goes_to state pc stack = Next (record state { pc = pc; stack = stack })

-- a value is pushed (6.5: aconst_null, iconst_<i>, bipush, sipush)
abbrev pub push : Value → ℕ → State → Outcome
push value next state = goes_to state next (state.stack ++ value ∷ [])

-- the int of a local is pushed (6.5: iload, iload_<n>)
abbrev pub load : ℕ → ℕ → State → Outcome
load index next state = with_int (int_inside (local_at state.locals index)) (λ n. push (Int n) next state)

-- an int is popped into a local (6.5: istore, istore_<n>)
abbrev pub store : ℕ → ℕ → State → Outcome
store index next state =
    pop_int state.stack
    (λ n rest. Next (record { pc = next; locals = with_local state.locals index (Int n); stack = rest }))

-- two ints are popped, and their exclusive or, bit by bit, is pushed (6.5: ixor)
abbrev pub exclusive_or : ℕ → State → Outcome
exclusive_or next state = pop_ints state.stack (λ a b rest. goes_to state next (rest ++ Int (int_bit_xor w32 a b) ∷ []))

-- an int is popped, and it is said where the run goes on where it is 0, and where it is not (6.5: if<cond>)
abbrev pub branch_on_zero : ℕ → ℕ → State → Outcome
branch_on_zero zero_pc other_pc state =
    pop_int state.stack (λ n rest. goes_to state (if int_eq n (pos 0) then zero_pc else other_pc) rest)

-- two ints are popped, and it is said where the run goes on where they are equal, and where they are not (6.5:
-- if_icmp<cond>)
abbrev pub branch_on_equal : ℕ → ℕ → State → Outcome
branch_on_equal equal_pc other_pc state =
    pop_ints state.stack (λ a b rest. goes_to state (if int_eq a b then equal_pc else other_pc) rest)

-- what the reference on top of the stack raises: null where it is null (6.5: athrow). Thin code makes no object.
abbrev pub throw : Option Value → Outcome
throw (Some (Ref None)) = Raised Null
throw value = Stuck

-- the int on top of the stack is given, and the run ends (6.5: ireturn)
abbrev pub give : State → Outcome
give state = pop_int state.stack (λ n rest. Ended)

-- what an instruction does, with another behind it at the pc `next` (6.5)
abbrev pub step_of : ThinInstr → ℕ → State → Outcome
step_of AconstNull next state = push (Ref None) next state
step_of (Iconst n) next state = push (Int n) next state
step_of (Iload index) next state = load index next state
step_of (Istore index) next state = store index next state
step_of Ixor next state = exclusive_or next state
step_of (Ifeq target) next state = branch_on_zero target next state
step_of (Ifne target) next state = branch_on_zero next target state
step_of (IfIcmpeq target) next state = branch_on_equal target next state
step_of (IfIcmpne target) next state = branch_on_equal next target state
step_of (Goto target) next state = goes_to state target state.stack
step_of Ireturn next state = give state
step_of Return next state = Ended
step_of Athrow next state = throw (top state.stack)

-- what the instruction does that was found, and nothing can go on where none was
abbrev pub step_found : Option (ThinInstr × ℕ) → State → Outcome
step_found None state = Stuck
step_found (Some found) state = step_of found.0 found.1 state

-- one step of code: what the instruction at the pc does (2.11)
unfoldable pub step : Places → State → Outcome
step code state = step_found (instr_at code state.pc) state

-- goes on from the next state, where there is one
abbrev pub on_next : Outcome → (State → Option State) → Option State
on_next (Next state) go = go state
on_next outcome go = None

-- the state after so many steps, where the run gets so far
unfoldable pub after : Places → ℕ → State → Option State
after code zero state = Some state
after code (suc n) state = on_next (step code state) (after code n)

-- the state of an invocation with these ints: they are in the first locals, and nothing is on the stack (2.6.1, 2.6.2)
abbrev pub start : List ℤ → State
start ints = record { pc = 0; locals = map (λ n. Some (Int n)) ints; stack = [] }
