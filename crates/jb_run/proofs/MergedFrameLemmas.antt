-- Frames that meet: their guards, their locals and their stacks are merged.
use Rattle.std.proofs.Common.{◌≡◌, ◌≤◌, ℕ, Bool, true, false, List, arith}
use Rattle.cf_thin.specs.declared.shape.OperandType as kind
use Rattle.cf_thin.specs.declared.shape.Shape.{Shape}
use Rattle.jb_run.specs.declared.formula.Formula.{Formula}
use Rattle.jb_run.specs.declared.frame.Frame.{Frame}
use Rattle.jb_run.specs.declared.gates.Bit.{Bit}
use Rattle.jb_run.specs.declared.machine.State.{State}
use Rattle.jb_run.specs.Clauses.{clauses_of}
use Rattle.jb_run.specs.Satisfies.{bit_value, Satisfies, IsBitBelow, AreClausesBelow}
use Rattle.jb_run.specs.Gate.{Extends, IsGate, AreNamed, either}
use Rattle.jb_run.specs.Shown.{ShowsFrame, AreOfKinds, IsFrameOf}
use Rattle.jb_run.specs.Encoder.{AreMergedStacks, MergeStacks, AreMergedLocals, AreLocalsBelow, MergeLocals, Merges}
use Rattle.jb_run.proofs.DefinitionLemmas.{bit_below_more, extends_then}
use Rattle.jb_run.proofs.GrowthLemmas.{word_later, kinds_later}

-- the locals of a frame are of variables below a greater number
frame_locals : (n m : ℕ) (shape : Shape) (frame : Frame) → n ≤ m → IsFrameOf n shape frame
    → AreLocalsBelow m frame.locals
frame_locals n m shape frame le is k word at = word_later n m word le (is.locals k word at)

frame_stack : (n m : ℕ) (shape : Shape) (frame : Frame) → n ≤ m → IsFrameOf n shape frame
    → AreOfKinds m shape.stack frame.stack
frame_stack n m shape frame le is = kinds_later n m shape.stack frame.stack le is.stack

-- the merged locals and the merged stack are a frame
merged_frame : (shape : Shape) (n : ℕ) (f1 f2 f3 : Formula) (choice : Bit) (first second met : Frame)
    → IsFrameOf n shape first → IsFrameOf n shape second → IsBitBelow f1.variables met.guard
    → AreMergedLocals f1 f2 choice first.locals second.locals met.locals
    → AreMergedStacks shape.stack f2 f3 choice first.stack second.stack met.stack → IsFrameOf f3.variables shape met
merged_frame shape n f1 f2 f3 choice first second met one other guard locals stacks = record {
  guard = bit_below_more f1.variables f3.variables met.guard
      (omega (arith, locals.extends.grows, stacks.extends.grows)) guard;
  known = λ k is.
      let first_word = one.known k is in
      let second_word = other.known k is in
      locals.holds k first_word.0 second_word.0 first_word.1 second_word.1;
  locals = λ k word at. word_later f2.variables f3.variables word stacks.extends.grows (locals.held k word at).within;
  stack = stacks.kinds_are;
}

merged_shows_first : (a : ℕ → Bool) (kinds : List kind.OperandType) (f1 f2 f3 : Formula) (choice : Bit)
    (first second met : Frame) (state : State) → AreMergedLocals f1 f2 choice first.locals second.locals met.locals
    → AreMergedStacks kinds f2 f3 choice first.stack second.stack met.stack → Satisfies a f3 → bit_value a choice ≡ true
    → ShowsFrame a first state → ShowsFrame a met state
merged_shows_first a kinds f1 f2 f3 choice first second met state locals stacks h on shows = record {
  locals = λ k word at.
      let int = locals.held k word at in
      let shown = shows.locals k int.one int.in_first in
      (shown.0, shown.1, int.shows_first a (stacks.extends.keeps a h) on shown.0 shown.2);
  stack = stacks.shows_first a h on state shows.stack;
}

merged_shows_second : (a : ℕ → Bool) (kinds : List kind.OperandType) (f1 f2 f3 : Formula) (choice : Bit)
    (first second met : Frame) (state : State) → AreMergedLocals f1 f2 choice first.locals second.locals met.locals
    → AreMergedStacks kinds f2 f3 choice first.stack second.stack met.stack → Satisfies a f3
    → bit_value a choice ≡ false → ShowsFrame a second state → ShowsFrame a met state
merged_shows_second a kinds f1 f2 f3 choice first second met state locals stacks h off shows = record {
  locals = λ k word at.
      let int = locals.held k word at in
      let shown = shows.locals k int.other int.in_second in
      (shown.0, shown.1, int.shows_second a (stacks.extends.keeps a h) off shown.0 shown.2);
  stack = stacks.shows_second a h off state shows.stack;
}

frames_named : (shape : Shape) (formula : Formula) (first second : Frame)
    → AreClausesBelow formula.variables (clauses_of formula) → IsFrameOf formula.variables shape first
    → IsFrameOf formula.variables shape second → AreNamed formula first.guard second.guard
frames_named shape formula first second named one other =
    record { clauses = named; first = one.guard; second = other.guard }

-- two frames are merged: their guards, then their locals, then their stacks
pub merge_of : (old f1 f2 f3 : Formula) (first second met : Frame)
    → (AreNamed old first.guard second.guard → IsGate old f1 met.guard (either first.guard second.guard))
    → MergeLocals f1 f2 first.guard first.locals second.locals met.locals
    → MergeStacks f2 f3 first.guard first.stack second.stack met.stack → Merges old f3 first second met
merge_of old f1 f2 f3 first second met guards merge_locals merge_stacks shape named one other =
    let n = old.variables in
    let choice = first.guard in
    let gate : IsGate old f1 met.guard (either choice second.guard) =
    guards (frames_named shape old first second named one other) in
    let n1 = f1.variables in
    let n2 = f2.variables in
    let le : n ≤ n1 = gate.extends.grows in
    let locals : AreMergedLocals f1 f2 choice first.locals second.locals met.locals =
    merge_locals gate.extends.named (bit_below_more n n1 choice le one.guard) (frame_locals n n1 shape first le one)
    (frame_locals n n1 shape second le other) in
    let more : n ≤ n2 = omega (arith, le, locals.extends.grows) in
    let stacks : AreMergedStacks shape.stack f2 f3 choice first.stack second.stack met.stack =
    merge_stacks shape.stack locals.extends.named (bit_below_more n n2 choice more one.guard)
    (frame_stack n n2 shape first more one) (frame_stack n n2 shape second more other) in
    let later : Extends f1 f3 = extends_then f1 f2 f3 locals.extends stacks.extends in
    record {
      extends = extends_then old f1 f3 gate.extends later;
      frame_is = merged_frame shape n f1 f2 f3 choice first second met one other gate.shows.within locals stacks;
      guard = λ a h. gate.shows.is a (later.keeps a h);
      shows_first =
          λ a h on state. merged_shows_first a shape.stack f1 f2 f3 choice first second met state locals stacks h on;
      shows_second =
          λ a h off state. merged_shows_second a shape.stack f1 f2 f3 choice first second met state locals stacks h off;
    }
