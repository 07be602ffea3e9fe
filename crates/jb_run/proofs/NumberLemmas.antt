-- What the encoder does for constants and xor is what the machine does, for each state that the frame shows.
use Rattle.std.proofs.Common.{◌≡◌, ◌+◌, ◌≤◌, ℕ, ℤ, Bool, true, List, [], ◌∷◌, ◌++◌, Option, Some, None, refl, sym, ap}
use Rattle.std.proofs.Common.{◌∙◌, subst, arith}
use Rattle.std.specs.Prelude.{slice_get, OnOk, Result}
use Rattle.std.specs.declared.alloc.AllocError.{AllocError}
use Rattle.std.specs.Int.{w32, int_bit_xor}
use Rattle.std.proofs.lemmas.List.{append-nil}
use Rattle.jv_base.specs.declared.value.Value.{Value}
use Rattle.jv_base.specs.declared.value.Value.TheVariants.{Int, Ref}
use Rattle.cf_thin.specs.declared.instr.ThinInstr.{ThinInstr}
use Rattle.cf_thin.specs.declared.instr.ThinInstr.TheVariants as instrs
use Rattle.cf_thin.specs.declared.shape.OperandType as kind
use Rattle.cf_thin.specs.declared.shape.OperandType.TheVariants as kinds
use Rattle.cf_thin.specs.declared.shape.Shape.{Shape}
use Rattle.cf_thin.specs.declared.shape.Limits.{Limits}
use Rattle.cf_thin.specs.ThinCode.{falls_through, takes, leaves, Shapes}
use Rattle.jb_run.specs.declared.formula.Formula.{Formula}
use Rattle.jb_run.specs.declared.int_bits.IntBits.{IntBits}
use Rattle.jb_run.specs.declared.frame.Operand.{Operand}
use Rattle.jb_run.specs.declared.frame.Operand.TheVariants as operand
use Rattle.jb_run.specs.declared.frame.Frame.{Frame}
use Rattle.jb_run.specs.declared.encoder.Encoder.{Encoder}
use Rattle.jb_run.specs.declared.machine.State.{State}
use Rattle.jb_run.specs.declared.machine.Outcome.{Outcome}
use Rattle.jb_run.specs.declared.machine.Outcome.TheVariants.{Next}
use Rattle.jb_run.specs.Bits as bits
use Rattle.jb_run.specs.Satisfies.{Satisfies}
use Rattle.jb_run.specs.Gate.{AreIntsNamed, IsIntGate, bit_at, different}
use Rattle.jb_run.specs.Machine as machine
use Rattle.jb_run.specs.Stack.{top, below}
use Rattle.jb_run.specs.Shown.{ShowsInt, ShowsValue, ShowsFrame, IsIntBelow, IsOfKind, AreOfKinds, IsFrameOf}
use Rattle.jb_run.specs.Encoder.{Here, came_of, IsFormed, Goes, HasFrame, Arrives, IsReady, Executes}
use Rattle.jb_run.proofs.DefinitionLemmas.{extends_refl}
use Rattle.jb_run.proofs.GrowthLemmas.{HasGrown, formed_grown, kinds_later, frame_later, goes_grown, goes_by}
use Rattle.jb_run.proofs.StackLemmas.{kinds_push, stack_push, top_known, top_found, two_on_top}

-- the encoder has grown by nothing
pub grown_none : (shapes : Shapes) (encoder : Encoder) → IsFormed shapes encoder → HasGrown encoder encoder
grown_none shapes encoder formed =
    record { extends = extends_refl encoder.formula formed.clauses; pending = refl; raised = refl }

-- a frame with the same locals is of a shape with the same locals, if the stack is
with_stack : (n : ℕ) (shape after : Shape) (frame : Frame) (stack : List Operand) → IsFrameOf n shape frame
    → after.locals ≡ shape.locals → AreOfKinds n after.stack stack → IsFrameOf n after (record frame { stack = stack })
with_stack n shape after frame stack is known are = record {
  guard = is.guard;
  known = λ k at. is.known k (ap (λ (l : List Bool). slice_get l k) (sym known) ∙ at);
  locals = is.locals;
  stack = are;
}

-- a frame that shows what comes of the instruction arrives at the next pc
pub next_goes : (limits : Limits) (shapes : Shapes) (old between new : Encoder) (pc next : ℕ) (frame changed : Frame)
    (instr : ThinInstr) → (ready : IsReady limits shapes old pc frame instr next) → falls_through instr ≡ true
    → HasGrown old between → Arrives between new next changed → changed.guard ≡ frame.guard
    → IsFrameOf between.formula.variables ready.after changed
    → ((a : ℕ → Bool) → Satisfies a between.formula → (state : State) → ShowsFrame a frame state
    → (shown : State) × ShowsFrame a changed shown
    × (machine.step_of instr next state ≡ Next (record shown { pc = next })))
    → Goes shapes old new (pc + 1) frame (λ a state. came_of pc (machine.step_of instr next state))
next_goes limits shapes old between new pc next frame changed instr ready falls grown arrives guard is shows =
    let above : pc + 1 ≤ next = omega (arith, ready.falls_on) in
    let has : HasFrame shapes between ready.after changed =
    record { formed = formed_grown shapes old between grown ready.has.formed; frame_is = is } in
    let goes = arrives shapes ready.after (pc + 1) has (ready.falls falls) above in
    goes_grown shapes old between new (pc + 1) frame (λ a state. came_of pc (machine.step_of instr next state)) grown
    (goes_by shapes between new (pc + 1) frame changed (λ a state. came_of pc (machine.step_of instr next state))
    (λ a state. Here (record state { pc = next })) guard goes
    (λ a holds state here. let s = shows a (goes.extends.keeps a holds) state here
    in (s.0, s.1, sym (ap (came_of pc) s.2))))

-- an operand is pushed that shows the value that is pushed
pub push_goes : (limits : Limits) (shapes : Shapes) (old new : Encoder) (pc next : ℕ) (frame : Frame)
    (instr : ThinInstr) (k : kind.OperandType) (shown : Operand)
    → (ready : IsReady limits shapes old pc frame instr next) → falls_through instr ≡ true → takes instr ≡ []
    → leaves instr ≡ k ∷ [] → ready.after.locals ≡ ready.shape.locals
    → Arrives old new next (record frame { stack = frame.stack ++ shown ∷ [] }) → IsOfKind old.formula.variables k shown
    → ((a : ℕ → Bool) (state : State) → ShowsFrame a frame state → (value : Value) × ShowsValue a shown value
    × (machine.step_of instr next state ≡ machine.push value next state))
    → Goes shapes old new (pc + 1) frame (λ a state. came_of pc (machine.step_of instr next state))
push_goes limits shapes old new pc next frame instr k shown ready falls taken left known arrives is value =
    let n = old.formula.variables in
    let rest = ready.steps.stack.0 in
    let old_stack : ready.shape.stack ≡ rest = ready.steps.stack.1 ∙ ap (λ (w : List kind.OperandType). rest ++ w) taken
    ∙ append-nil rest in
    let new_stack : ready.after.stack ≡ rest ++ k ∷ [] = ready.steps.stack.2
    ∙ ap (λ (w : List kind.OperandType). rest ++ w) left in
    let are : AreOfKinds n rest frame.stack =
    subst (λ (w : List kind.OperandType). AreOfKinds n w frame.stack) old_stack ready.has.frame_is.stack in
    let changed_are : AreOfKinds n ready.after.stack (frame.stack ++ shown ∷ []) =
    subst (λ (w : List kind.OperandType). AreOfKinds n w (frame.stack ++ shown ∷ [])) (sym new_stack)
    (kinds_push n rest k frame.stack shown are is) in
    next_goes limits shapes old old new pc next frame
    (record frame { stack = frame.stack ++ shown ∷ [] }) instr ready falls
    (grown_none shapes old ready.has.formed) arrives refl
    (with_stack n ready.shape ready.after frame (frame.stack ++ shown ∷ []) ready.has.frame_is known changed_are)
    (λ a holds state here.
    let v = value a state here in (
      record state { stack = state.stack ++ v.0 ∷ [] },
      record { locals = here.locals; stack = stack_push a frame.stack shown state.stack v.0 here.stack v.1 },
      v.2,
    ))

pub push_null_goes : (old new : Encoder) (pc next : ℕ) (frame changed : Frame)
    → changed ≡ record frame { stack = frame.stack ++ operand.Null ∷ [] } → Arrives old new next changed
    → Executes old new pc frame instrs.AconstNull next
push_null_goes old new pc next frame changed is arrives limits shapes ready =
    push_goes limits shapes old new pc next frame instrs.AconstNull kinds.Reference operand.Null ready refl refl refl
    ready.steps.locals (subst (Arrives old new next) is arrives) tt
    (λ a state here. (Ref None, tt, refl))

pub push_int_goes : (old new : Encoder) (pc next : ℕ) (frame changed : Frame) (value : ℤ) (word : IntBits)
    → changed ≡ record frame { stack = frame.stack ++ operand.Int word ∷ [] } → ((n : ℕ) → IsIntBelow n word)
    → ((a : ℕ → Bool) → ShowsInt a word value) → Arrives old new next changed
    → Executes old new pc frame (instrs.Iconst value) next
push_int_goes old new pc next frame changed value word is within shows arrives limits shapes ready =
    push_goes limits shapes old new pc next frame (instrs.Iconst value) kinds.Int
    (operand.Int word) ready refl refl refl ready.steps.locals (subst (Arrives old new next) is arrives)
    (within old.formula.variables)
    (λ a state here. (Int value, shows a, refl))

-- the frame's int on top of the stack, where the instruction takes one
pub taken_int : (limits : Limits) (shapes : Shapes) (old : Encoder) (pc next : ℕ) (frame : Frame) (instr : ThinInstr)
    → (ready : IsReady limits shapes old pc frame instr next) → takes instr ≡ kinds.Int ∷ []
    → AreOfKinds old.formula.variables (ready.steps.stack.0 ++ kinds.Int ∷ []) frame.stack
taken_int limits shapes old pc next frame instr ready taken =
    let is : ready.shape.stack ≡ ready.steps.stack.0 ++ kinds.Int ∷ [] = ready.steps.stack.1
    ∙ ap (λ (w : List kind.OperandType). ready.steps.stack.0 ++ w) taken in
    subst (λ (w : List kind.OperandType). AreOfKinds old.formula.variables w frame.stack) is ready.has.frame_is.stack

-- and its two ints, where it takes two
pub taken_ints : (limits : Limits) (shapes : Shapes) (old : Encoder) (pc next : ℕ) (frame : Frame) (instr : ThinInstr)
    → (ready : IsReady limits shapes old pc frame instr next) → takes instr ≡ kinds.Int ∷ kinds.Int ∷ []
    → AreOfKinds old.formula.variables ((ready.steps.stack.0 ++ kinds.Int ∷ []) ++ kinds.Int ∷ []) frame.stack
taken_ints limits shapes old pc next frame instr ready taken =
    let is : ready.shape.stack ≡ (ready.steps.stack.0 ++ kinds.Int ∷ []) ++ kinds.Int ∷ [] = ready.steps.stack.1
    ∙ ap (λ (w : List kind.OperandType). ready.steps.stack.0 ++ w) taken ∙ two_on_top ready.steps.stack.0 in
    subst (λ (w : List kind.OperandType). AreOfKinds old.formula.variables w frame.stack) is ready.has.frame_is.stack

-- and its reference, where a reference is thrown
pub taken_null : (limits : Limits) (shapes : Shapes) (old : Encoder) (pc next : ℕ) (frame : Frame)
    → (ready : IsReady limits shapes old pc frame instrs.Athrow next)
    → AreOfKinds old.formula.variables (ready.steps.stack.0 ++ kinds.Reference ∷ []) frame.stack
taken_null limits shapes old pc next frame ready =
    subst (λ (w : List kind.OperandType). AreOfKinds old.formula.variables w frame.stack) ready.steps.stack.1
    ready.has.frame_is.stack

-- the frame with the exclusive or in place of the two ints on top
abbrev combined : Frame → IntBits → Frame
combined frame word = record frame { stack = below (below frame.stack) ++ operand.Int word ∷ [] }

pub xor_goes : (old new : Encoder) (grown : Formula) (pc next : ℕ) (frame one two changed : Frame) (a b word : IntBits)
    → bits.bits_inside (top frame.stack) ≡ Some b → one ≡ record frame { stack = below frame.stack }
    → bits.bits_inside (top one.stack) ≡ Some a → two ≡ record one { stack = below one.stack }
    → changed ≡ record two { stack = two.stack ++ operand.Int word ∷ [] }
    → (AreIntsNamed old.formula a b → IsIntGate old.formula grown word (λ k. different (bit_at a k) (bit_at b k)))
    → (AreIntsNamed old.formula a b → (w : ℕ → Bool) (n m : ℤ) → Satisfies w grown → ShowsInt w a n → ShowsInt w b m
    → ShowsInt w word (int_bit_xor w32 n m)) → Arrives (record old { formula = grown }) new next changed
    → Executes old new pc frame instrs.Ixor next
xor_goes old new grown pc next frame one two changed a b word found_b one_is found_a two_is is gated int arrives limits
    shapes ready =
    let n = old.formula.variables in
    let rest = ready.steps.stack.0 in
    let first =
    top_known n (rest ++ kinds.Int ∷ []) frame.stack b
    (taken_ints limits shapes old pc next frame instrs.Ixor ready refl) found_b in
    let second =
    top_known n rest (below frame.stack) a first.under
    (sym (ap (λ (f : Frame). bits.bits_inside (top f.stack)) one_is) ∙ found_a) in
    let named : AreIntsNamed old.formula a b =
    record { clauses = ready.has.formed.clauses; first = second.within; second = first.within } in
    let gate = gated named in
    let between : Encoder = record old { formula = grown } in
    let has_grown : HasGrown old between = record { extends = gate.extends; pending = refl; raised = refl } in
    let within : IsIntBelow grown.variables word = λ k under. (gate.shows k under).within in
    let two_same : two ≡ record frame { stack = below (below frame.stack) } =
    two_is ∙ ap (λ (f : Frame). record f { stack = below f.stack }) one_is in
    let same : changed ≡ combined frame word =
    is ∙ ap (λ (f : Frame). record f { stack = f.stack ++ operand.Int word ∷ [] }) two_same in
    let are : AreOfKinds grown.variables (rest ++ kinds.Int ∷ []) (below (below frame.stack) ++ operand.Int word ∷ []) =
    kinds_push grown.variables rest kinds.Int (below (below frame.stack)) (operand.Int word)
    (kinds_later n grown.variables rest (below (below frame.stack)) gate.extends.grows second.under) within in
    let frame_is : IsFrameOf grown.variables ready.after (combined frame word) =
    with_stack grown.variables ready.shape ready.after frame (below (below frame.stack) ++ operand.Int word ∷ [])
    (frame_later n grown.variables ready.shape frame gate.extends.grows ready.has.frame_is) ready.steps.locals
    (subst (λ (w : List kind.OperandType). AreOfKinds grown.variables w
    (below (below frame.stack) ++ operand.Int word ∷ [])) (sym ready.steps.stack.2) are) in
    next_goes limits shapes old between new pc next frame (combined frame word) instrs.Ixor ready refl has_grown
    (subst (Arrives between new next) same arrives) refl frame_is
    (λ w holds state here.
    let y = first.shows w state.stack here.stack in
    let x = second.shows w (below state.stack) y.under_shown in
    let value : Value = Int (int_bit_xor w32 x.int y.int) in
    let go : ℤ → ℤ → Outcome =
    λ p q. machine.goes_to state next (below (below state.stack) ++ Int (int_bit_xor w32 p q) ∷ []) in (
      record state { stack = below (below state.stack) ++ value ∷ [] },
      record {
        locals = here.locals;
        stack = stack_push w (below (below frame.stack)) (operand.Int word)
            (below (below state.stack)) value x.under_shown (int named w x.int y.int holds x.int_shown y.int_shown);
      },
      ap (λ (o : Option ℤ). machine.with_ints o (machine.int_inside (top state.stack)) go) x.is
          ∙ ap (λ (o : Option ℤ). machine.with_ints (Some x.int) o go) y.is,
    ))

pub xor_none : (old : Encoder) (pc next : ℕ) (frame : Frame) → bits.bits_inside (top frame.stack) ≡ None
    → Executes old old pc frame instrs.Ixor next
xor_none old pc next frame none limits shapes ready =
    absurd (top_found old.formula.variables (ready.steps.stack.0 ++ kinds.Int ∷ []) frame.stack
    (taken_ints limits shapes old pc next frame instrs.Ixor ready refl) none)

pub xor_none_below : (old : Encoder) (pc next : ℕ) (frame one : Frame) (b : IntBits)
    → bits.bits_inside (top frame.stack) ≡ Some b → one ≡ record frame { stack = below frame.stack }
    → bits.bits_inside (top one.stack) ≡ None → Executes old old pc frame instrs.Ixor next
xor_none_below old pc next frame one b found one_is none limits shapes ready =
    let n = old.formula.variables in
    let rest = ready.steps.stack.0 in
    let first =
    top_known n (rest ++ kinds.Int ∷ []) frame.stack b
    (taken_ints limits shapes old pc next frame instrs.Ixor ready refl) found in
    absurd (top_found n rest (below frame.stack) first.under
    (sym (ap (λ (f : Frame). bits.bits_inside (top f.stack)) one_is) ∙ none))

-- the instruction that was found is the one that was encoded
pub found_goes : (r : Result (Unit {0}) AllocError) (old new : Encoder) (pc next : ℕ) (frame : Frame)
    (instr found : ThinInstr) → instr ≡ found → OnOk r (Executes old new pc frame found next)
    → OnOk r (Executes old new pc frame instr next)
found_goes r old new pc next frame instr found is goes =
    subst (λ (i : ThinInstr). OnOk r (Executes old new pc frame i next)) (sym is) goes
