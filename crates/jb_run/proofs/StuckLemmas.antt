-- A machine whose state is shown by a frame of the shape that its instruction wants is not stuck there.
use Rattle.std.proofs.Common.{◌≡◌, ℕ, ℤ, Bool, List, [], ◌∷◌, ◌++◌, Option, Some, None, refl, sym, ap, ◌∙◌}
use Rattle.std.specs.Prelude.{pos, if◌then◌else◌}
use Rattle.std.specs.Int.{w32, int_bit_xor}
use Rattle.std.specs.Ordering.{int_eq}
use Rattle.jv_base.specs.declared.value.Value.{Value}
use Rattle.jv_base.specs.declared.value.Value.TheVariants.{Int, Ref}
use Rattle.cf_thin.specs.declared.instr.ThinInstr.{ThinInstr}
use Rattle.cf_thin.specs.declared.instr.ThinInstr.TheVariants.{AconstNull, Iconst, Iload, Istore, Ixor, Ifeq, Ifne}
use Rattle.cf_thin.specs.declared.instr.ThinInstr.TheVariants.{IfIcmpeq, IfIcmpne, Goto, Ireturn, Return, Athrow}
use Rattle.cf_thin.specs.declared.shape.OperandType.TheVariants as kinds
use Rattle.cf_thin.specs.declared.shape.Limits.{Limits}
use Rattle.cf_thin.specs.ThinCode.{Shapes, takes}
use Rattle.jb_run.specs.declared.frame.Frame.{Frame}
use Rattle.jb_run.specs.declared.encoder.Encoder.{Encoder}
use Rattle.jb_run.specs.declared.machine.State.{State}
use Rattle.jb_run.specs.declared.machine.Outcome.{Outcome}
use Rattle.jb_run.specs.declared.machine.Outcome.TheVariants.{Next, Ended, Stuck}
use Rattle.jb_run.specs.Locals.{local_at, with_local}
use Rattle.jb_run.specs.Machine as machine
use Rattle.jb_run.specs.Shown.{ShowsFrame}
use Rattle.jb_run.specs.Stack.{top, below}
use Rattle.jb_run.specs.Encoder.{IsReady}
use Rattle.jb_run.proofs.NumberLemmas.{taken_int, taken_ints, taken_null}
use Rattle.jb_run.proofs.StackLemmas.{top_int, top_null}

-- the outcome is not that the machine is stuck
record Goes_on (outcome : Outcome) : Type 0 where
  goes_on : outcome ≡ Stuck → ⊥

next_on : (state : State) → Goes_on (Next state)
next_on state = record { goes_on = λ is. cc }

ended_on : Goes_on Ended
ended_on = record { goes_on = λ is. cc }

-- an int is found, and what is done with it goes on
with_int_on : (o : Option ℤ) (n : ℤ) (go : ℤ → Outcome) → o ≡ Some n → Goes_on (go n) → Goes_on (machine.with_int o go)
with_int_on o n go is on =
    record { goes_on = λ stuck. on.goes_on (sym (ap (λ (p : Option ℤ). machine.with_int p go) is) ∙ stuck) }

with_ints_on : (o p : Option ℤ) (n m : ℤ) (go : ℤ → ℤ → Outcome) → o ≡ Some n → p ≡ Some m → Goes_on (go n m)
    → Goes_on (machine.with_ints o p go)
with_ints_on o p n m go first second on = record {
  goes_on =
      λ stuck. on.goes_on
      (sym (ap (λ (q : Option ℤ). machine.with_ints q p go) first
      ∙ ap (λ (q : Option ℤ). machine.with_ints (Some n) q go) second) ∙ stuck);
}

throw_on : (o : Option Value) → o ≡ Some (Ref None) → Goes_on (machine.throw o)
throw_on o is = record { goes_on = λ stuck. (let e = sym (ap machine.throw is) ∙ stuck in cc) }

-- an int is popped, where the instruction takes one
pops_on : (limits : Limits) (shapes : Shapes) (encoder : Encoder) (pc : ℕ) (frame : Frame) (instr : ThinInstr)
    (next : ℕ) (a : ℕ → Bool) (state : State) (go : ℤ → List Value → Outcome)
    → IsReady limits shapes encoder pc frame instr next → takes instr ≡ kinds.Int ∷ [] → ShowsFrame a frame state
    → ((n : ℤ) → Goes_on (go n (below state.stack))) → Goes_on (machine.pop_int state.stack go)
pops_on limits shapes encoder pc frame instr next a state go ready taken shown each =
    let t = top_int encoder.formula.variables ready.steps.stack.0 frame.stack
    (taken_int limits shapes encoder pc next frame instr ready taken) in
    let p = t.top.shows a state.stack shown.stack in
    with_int_on (machine.int_inside (top state.stack)) p.int (λ n. go n (below state.stack)) p.is (each p.int)

-- two ints are popped, where the instruction takes two
pops_two_on : (limits : Limits) (shapes : Shapes) (encoder : Encoder) (pc : ℕ) (frame : Frame) (instr : ThinInstr)
    (next : ℕ) (a : ℕ → Bool) (state : State) (go : ℤ → ℤ → List Value → Outcome)
    → IsReady limits shapes encoder pc frame instr next → takes instr ≡ kinds.Int ∷ kinds.Int ∷ []
    → ShowsFrame a frame state → ((n m : ℤ) → Goes_on (go n m (below (below state.stack))))
    → Goes_on (machine.pop_ints state.stack go)
pops_two_on limits shapes encoder pc frame instr next a state go ready taken shown each =
    let n = encoder.formula.variables in
    let t = top_int n (ready.steps.stack.0 ++ kinds.Int ∷ []) frame.stack
    (taken_ints limits shapes encoder pc next frame instr ready taken) in
    let p = t.top.shows a state.stack shown.stack in
    let u = top_int n ready.steps.stack.0 (below frame.stack) t.top.under in
    let q = u.top.shows a (below state.stack) p.under_shown in
    with_ints_on (machine.int_inside (top (below state.stack))) (machine.int_inside (top state.stack)) q.int p.int
    (λ x y. go x y (below (below state.stack))) q.is p.is (each q.int p.int)

loads_on : (limits : Limits) (shapes : Shapes) (encoder : Encoder) (pc : ℕ) (frame : Frame) (index next : ℕ) (a : ℕ
    → Bool) (state : State) → IsReady limits shapes encoder pc frame (Iload index) next → ShowsFrame a frame state
    → Goes_on (machine.load index next state)
loads_on limits shapes encoder pc frame index next a state ready shown =
    let known = ready.has.frame_is.known index ready.steps.locals.0 in
    let v = shown.locals index known.0 known.1 in
    with_int_on (machine.int_inside (local_at state.locals index)) v.0 (λ n. machine.push (Int n) next state)
    (ap machine.int_inside v.1) (next_on (record state { pc = next; stack = state.stack ++ Int v.0 ∷ [] }))

-- what is done with what is popped
abbrev stored : ℕ → ℕ → State → ℤ → List Value → Outcome
stored index next state n rest =
    Next (record { pc = next; locals = with_local state.locals index (Int n); stack = rest })

abbrev combined : ℕ → State → ℤ → ℤ → List Value → Outcome
combined next state n m rest = machine.goes_to state next (rest ++ Int (int_bit_xor w32 n m) ∷ [])

abbrev on_zero : ℕ → ℕ → State → ℤ → List Value → Outcome
on_zero one other state n rest = machine.goes_to state (if int_eq n (pos 0) then one else other) rest

abbrev on_equal : ℕ → ℕ → State → ℤ → ℤ → List Value → Outcome
on_equal one other state n m rest = machine.goes_to state (if int_eq n m then one else other) rest

steps_on : (limits : Limits) (shapes : Shapes) (encoder : Encoder) (pc : ℕ) (frame : Frame) (instr : ThinInstr)
    (next : ℕ) (a : ℕ → Bool) (state : State) → IsReady limits shapes encoder pc frame instr next
    → ShowsFrame a frame state → Goes_on (machine.step_of instr next state)
steps_on limits shapes encoder pc frame AconstNull next a state ready shown =
    next_on (record state { pc = next; stack = state.stack ++ Ref None ∷ [] })
steps_on limits shapes encoder pc frame (Iconst n) next a state ready shown =
    next_on (record state { pc = next; stack = state.stack ++ Int n ∷ [] })
steps_on limits shapes encoder pc frame (Iload index) next a state ready shown =
    loads_on limits shapes encoder pc frame index next a state ready shown
steps_on limits shapes encoder pc frame (Istore index) next a state ready shown =
    pops_on limits shapes encoder pc frame (Istore index) next a state (stored index next state) ready refl shown
    (λ n. next_on (record { pc = next; locals = with_local state.locals index (Int n); stack = below state.stack }))
steps_on limits shapes encoder pc frame Ixor next a state ready shown =
    pops_two_on limits shapes encoder pc frame Ixor next a state (combined next state) ready refl shown
    (λ n m. next_on (record state { pc = next; stack = below (below state.stack) ++ Int (int_bit_xor w32 n m) ∷ [] }))
steps_on limits shapes encoder pc frame (Ifeq target) next a state ready shown =
    pops_on limits shapes encoder pc frame (Ifeq target) next a state (on_zero target next state) ready refl shown
    (λ n. next_on (record state { pc = if int_eq n (pos 0) then target else next; stack = below state.stack }))
steps_on limits shapes encoder pc frame (Ifne target) next a state ready shown =
    pops_on limits shapes encoder pc frame (Ifne target) next a state (on_zero next target state) ready refl shown
    (λ n. next_on (record state { pc = if int_eq n (pos 0) then next else target; stack = below state.stack }))
steps_on limits shapes encoder pc frame (IfIcmpeq target) next a state ready shown =
    pops_two_on limits shapes encoder pc frame (IfIcmpeq target) next a state
    (on_equal target next state) ready refl shown
    (λ n m. next_on (record state { pc = if int_eq n m then target else next; stack = below (below state.stack) }))
steps_on limits shapes encoder pc frame (IfIcmpne target) next a state ready shown =
    pops_two_on limits shapes encoder pc frame (IfIcmpne target) next a state
    (on_equal next target state) ready refl shown
    (λ n m. next_on (record state { pc = if int_eq n m then next else target; stack = below (below state.stack) }))
steps_on limits shapes encoder pc frame (Goto target) next a state ready shown = next_on (record state { pc = target })
steps_on limits shapes encoder pc frame Ireturn next a state ready shown =
    pops_on limits shapes encoder pc frame Ireturn next a state (λ n rest. Ended) ready refl shown (λ n. ended_on)
steps_on limits shapes encoder pc frame Return next a state ready shown = ended_on
steps_on limits shapes encoder pc frame Athrow next a state ready shown =
    throw_on (top state.stack) (top_null encoder.formula.variables ready.steps.stack.0 frame.stack a state.stack
    (taken_null limits shapes encoder pc next frame ready) shown.stack)

pub never_stuck : (limits : Limits) (shapes : Shapes) (encoder : Encoder) (pc : ℕ) (frame : Frame) (instr : ThinInstr)
    (next : ℕ) (a : ℕ → Bool) (state : State) → IsReady limits shapes encoder pc frame instr next
    → ShowsFrame a frame state → machine.step_of instr next state ≡ Stuck → ⊥
never_stuck limits shapes encoder pc frame instr next a state ready shown stuck =
    (steps_on limits shapes encoder pc frame instr next a state ready shown).goes_on stuck
