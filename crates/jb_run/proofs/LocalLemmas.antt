-- What the encoder does for the instructions of locals is what the machine does, for each state that the frame shows.
use Rattle.std.proofs.Common.{◌≡◌, ℕ, ℤ, Bool, true, List, [], ◌∷◌, ◌++◌, Option, Some, None, refl, sym, ap, ◌∙◌}
use Rattle.std.proofs.Common.{subst, inl, inr}
use Rattle.std.specs.Prelude.{slice_get, slice_set}
use Rattle.std.proofs.lemmas.Bool.{cases_eq}
use Rattle.std.proofs.lemmas.List.{append-nil}
use Rattle.std.proofs.lemmas.Option.{same_Some}
use Rattle.jv_base.specs.declared.value.Value.{Value}
use Rattle.jv_base.specs.declared.value.Value.TheVariants.{Int}
use Rattle.cf_thin.specs.declared.instr.ThinInstr.TheVariants as instrs
use Rattle.cf_thin.specs.declared.shape.OperandType as kind
use Rattle.cf_thin.specs.declared.shape.OperandType.TheVariants as kinds
use Rattle.cf_thin.specs.declared.shape.Shape.{Shape}
use Rattle.jb_run.specs.declared.int_bits.IntBits.{IntBits}
use Rattle.jb_run.specs.declared.frame.Operand.TheVariants as operand
use Rattle.jb_run.specs.declared.frame.Frame.{Frame}
use Rattle.jb_run.specs.declared.encoder.Encoder.{Encoder}
use Rattle.jb_run.specs.declared.machine.State.{State}
use Rattle.jb_run.specs.declared.machine.Outcome.TheVariants.{Next}
use Rattle.jb_run.specs.Bits as bits
use Rattle.jb_run.specs.Locals.{local_at, with_local}
use Rattle.jb_run.specs.Machine as machine
use Rattle.jb_run.specs.Stack.{top, below}
use Rattle.jb_run.specs.Shown.{ShowsInt, ShowsFrame, IsIntBelow, AreOfKinds, IsFrameOf}
use Rattle.jb_run.specs.Encoder.{Arrives, Executes}
use Rattle.jb_run.proofs.RoomLemmas.{with_local_same, with_local_other}
use Rattle.jb_run.proofs.StackLemmas.{top_known, top_found}
use Rattle.jb_run.proofs.NumberLemmas.{grown_none, next_goes, push_goes, taken_int}
use Rattle.jv_list.proofs.PlaceLemmas.{slice_get-set_other}

pub load_goes : (old new : Encoder) (pc next index : ℕ) (frame changed : Frame) (word : IntBits)
    → local_at frame.locals index ≡ Some word → changed ≡ record frame { stack = frame.stack ++ operand.Int word ∷ [] }
    → Arrives old new next changed → Executes old new pc frame (instrs.Iload index) next
load_goes old new pc next index frame changed word held is arrives limits shapes ready =
    push_goes limits shapes old new pc next frame (instrs.Iload index) kinds.Int
    (operand.Int word) ready refl refl refl ready.steps.locals.1 (subst (Arrives old new next) is arrives)
    (ready.has.frame_is.locals index word held)
    (λ a state here.
    let v = here.locals index word held in (
      Int v.0,
      v.2,
      ap (λ (o : Option Value). machine.with_int (machine.int_inside o) (λ n. machine.push (Int n) next state)) v.1,
    ))

-- a frame that an int is stored in
abbrev stored : Frame → ℕ → IntBits → Frame
stored frame index word = record frame { locals = with_local frame.locals index word; stack = below frame.stack }

stored_is : (n : ℕ) (shape after : Shape) (rest : List kind.OperandType) (frame : Frame) (index : ℕ) (word : IntBits)
    → IsFrameOf n shape frame → after.locals ≡ slice_set shape.locals index true → after.stack ≡ rest ++ []
    → IsIntBelow n word → AreOfKinds n rest (below frame.stack) → IsFrameOf n after (stored frame index word)
stored_is n shape after rest frame index word is known stack within are = record {
  guard = is.guard;
  known = λ k at. elim (cases_eq k index) [
    | inl same ↦ (
      word,
      ap (λ (j : ℕ). local_at (with_local frame.locals index word) j) same
          ∙ with_local_same frame.locals index word,
    )
    | inr other ↦
        let o = is.known k (sym (slice_get-set_other shape.locals index k true other)
        ∙ ap (λ (l : List Bool). slice_get l k) (sym known) ∙ at) in
        (o.0, with_local_other frame.locals index k word other ∙ o.1)
  ];
  locals = λ k held at. elim (cases_eq k index) [
    | inl same ↦
        subst (IsIntBelow n)
        (same_Some word held
        (sym (with_local_same frame.locals index word) ∙ sym
        (ap (λ (j : ℕ). local_at (with_local frame.locals index word) j) same) ∙ at)) within
    | inr other ↦ is.locals k held (sym (with_local_other frame.locals index k word other) ∙ at)
  ];
  stack = subst (λ (w : List kind.OperandType). AreOfKinds n w (below frame.stack))
      (sym (append-nil rest) ∙ sym stack) are;
}

stored_shows : (a : ℕ → Bool) (frame : Frame) (state : State) (index : ℕ) (word : IntBits) (m : ℤ)
    → ShowsFrame a frame state → ShowsInt a word m → (k : ℕ) (held : IntBits)
    → local_at (with_local frame.locals index word) k ≡ Some held
    → (n : ℤ) × (local_at (with_local state.locals index (Int m)) k ≡ Some (Int n)) × ShowsInt a held n
stored_shows a frame state index word m here shown k held at = elim (cases_eq k index) [
  | inl same ↦
      let is : word ≡ held =
      same_Some word held
      (sym (with_local_same frame.locals index word) ∙ sym
      (ap (λ (j : ℕ). local_at (with_local frame.locals index word) j) same) ∙ at) in (
        m,
        ap (λ (j : ℕ). local_at (with_local state.locals index (Int m)) j) same
            ∙ with_local_same state.locals index (Int m),
        subst (λ (w : IntBits). ShowsInt a w m) is shown,
      )
  | inr other ↦
      let v = here.locals k held (sym (with_local_other frame.locals index k word other) ∙ at) in
      (v.0, with_local_other state.locals index k (Int m) other ∙ v.1, v.2)
]

pub store_goes : (old new : Encoder) (pc next index : ℕ) (frame one changed : Frame) (word : IntBits)
    → bits.bits_inside (top frame.stack) ≡ Some word → one ≡ record frame { stack = below frame.stack }
    → changed ≡ record one { locals = with_local one.locals index word } → Arrives old new next changed
    → Executes old new pc frame (instrs.Istore index) next
store_goes old new pc next index frame one changed word found one_is is arrives limits shapes ready =
    let n = old.formula.variables in
    let rest = ready.steps.stack.0 in
    let t = top_known n rest frame.stack word
    (taken_int limits shapes old pc next frame (instrs.Istore index) ready refl) found in
    let same : changed ≡ stored frame index word =
    is ∙ ap (λ (f : Frame). record f { locals = with_local f.locals index word }) one_is in
    next_goes limits shapes old old new pc next frame (stored frame index word) (instrs.Istore index) ready refl
    (grown_none shapes old ready.has.formed) (subst (Arrives old new next) same arrives) refl
    (stored_is n ready.shape ready.after rest frame index word ready.has.frame_is ready.steps.locals.1
    ready.steps.stack.2 t.within t.under)
    (λ a holds state here.
    let v = t.shows a state.stack here.stack in
    let shown : State =
    record { pc = state.pc; locals = with_local state.locals index (Int v.int); stack = below state.stack } in (
      shown,
      record { locals = stored_shows a frame state index word v.int here v.int_shown; stack = v.under_shown },
      ap (λ (o : Option ℤ). machine.with_int o
          (λ m. Next (record { pc = next; locals = with_local state.locals index (Int m); stack = below state.stack })))
          v.is,
    ))

pub store_none : (old : Encoder) (pc next index : ℕ) (frame : Frame) → bits.bits_inside (top frame.stack) ≡ None
    → Executes old old pc frame (instrs.Istore index) next
store_none old pc next index frame none limits shapes ready =
    absurd (top_found old.formula.variables ready.steps.stack.0 frame.stack
    (taken_int limits shapes old pc next frame (instrs.Istore index) ready refl) none)
