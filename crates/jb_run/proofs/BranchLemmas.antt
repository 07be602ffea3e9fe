-- A frame goes on under one of two guards, of which one is true where the frame's guard is.
use Rattle.std.proofs.Common.{◌≡◌, ℕ, Bool, true, false, not, ◌&&◌, refl, sym, ap, ◌∙◌, subst}
use Rattle.std.specs.Prelude.{if◌then◌else◌}
use Rattle.cf_thin.specs.declared.shape.Shape.{Shape}
use Rattle.cf_thin.specs.ThinCode.{Shapes}
use Rattle.jb_run.specs.declared.formula.Formula.{Formula}
use Rattle.jb_run.specs.declared.frame.Frame.{Frame}
use Rattle.jb_run.specs.declared.gates.Bit.{Bit}
use Rattle.jb_run.specs.declared.encoder.Encoder.{Encoder}
use Rattle.jb_run.specs.declared.machine.State.{State}
use Rattle.jb_run.specs.Bits.{opposite_bit}
use Rattle.jb_run.specs.Satisfies.{bit_value, Satisfies, IsBitBelow}
use Rattle.jb_run.specs.Gate.{Extends, AreNamed, IsGate, both}
use Rattle.jb_run.specs.Shown.{ShowsFrame, IsFrameOf}
use Rattle.jb_run.specs.Encoder.{Came, Nothing, Here, IsSo, Goes, HasFrame, Arrives, Branches}
use Rattle.jb_run.proofs.DefinitionLemmas.{bit_below_more, extends_then}
use Rattle.jb_run.proofs.GateLemmas.{opposite_value, opposite_below}
use Rattle.jb_run.proofs.GrowthLemmas.{frame_later, HasGrown, formed_grown, goes_grown}
use Rattle.jv_list.proofs.TestLemmas.{and_on, and_off}

-- the guards of the two ways: both false where the frame's guard is, and else one is true by the condition
record Splits (formula : Formula) (frame first second : Frame) (condition : Bit) : Type 0 where
  pub off_first : (a : ℕ → Bool) → Satisfies a formula → bit_value a frame.guard ≡ false
      → bit_value a first.guard ≡ false
  pub off_second : (a : ℕ → Bool) → Satisfies a formula → bit_value a frame.guard ≡ false
      → bit_value a second.guard ≡ false
  pub first_is : (a : ℕ → Bool) → Satisfies a formula → bit_value a frame.guard ≡ true
      → bit_value a first.guard ≡ bit_value a condition
  pub second_is : (a : ℕ → Bool) → Satisfies a formula → bit_value a frame.guard ≡ true
      → bit_value a second.guard ≡ not (bit_value a condition)
  pub shows_first : (a : ℕ → Bool) (state : State) → ShowsFrame a frame state → ShowsFrame a first state
  pub shows_second : (a : ℕ → Bool) (state : State) → ShowsFrame a frame state → ShowsFrame a second state

-- the state at one of two pcs
abbrev at_either : ℕ → ℕ → Bool → State → Came
at_either true_pc false_pc condition state = Here (record state { pc = if condition then true_pc else false_pc })

-- the two ways, one after the other
went_true : (a : ℕ → Bool) (shapes : Shapes) (old between new : Encoder) (low true_pc false_pc : ℕ)
    (frame first second : Frame) (condition : Bit) → Splits new.formula frame first second condition
    → Goes shapes old between low first (λ a state. Here (record state { pc = true_pc }))
    → Goes shapes between new low second (λ a state. Here (record state { pc = false_pc })) → Satisfies a new.formula
    → bit_value a frame.guard ≡ true → bit_value a condition ≡ true → IsSo a old Nothing → (state : State)
    → ShowsFrame a frame state → IsSo a new (Here (record state { pc = true_pc }))
went_true a shapes old between new low true_pc false_pc frame first second condition splits goes then_goes holds on is
    so state shows =
    let came = goes.goes a (then_goes.extends.keeps a holds) (splits.first_is a holds on ∙ is) so state
    (splits.shows_first a state shows) in
    then_goes.keeps a holds (splits.second_is a holds on ∙ ap not is) (Here (record state { pc = true_pc })) came

went_false : (a : ℕ → Bool) (shapes : Shapes) (old between new : Encoder) (low true_pc false_pc : ℕ)
    (frame first second : Frame) (condition : Bit) → Splits new.formula frame first second condition
    → Goes shapes old between low first (λ a state. Here (record state { pc = true_pc }))
    → Goes shapes between new low second (λ a state. Here (record state { pc = false_pc })) → Satisfies a new.formula
    → bit_value a frame.guard ≡ true → bit_value a condition ≡ false → IsSo a old Nothing → (state : State)
    → ShowsFrame a frame state → IsSo a new (Here (record state { pc = false_pc }))
went_false a shapes old between new low true_pc false_pc frame first second condition splits goes then_goes holds on is
    so state shows =
    let kept = goes.keeps a (then_goes.extends.keeps a holds) (splits.first_is a holds on ∙ is) Nothing so in
    then_goes.goes a holds (splits.second_is a holds on ∙ ap not is) kept state (splits.shows_second a state shows)

went : (a : ℕ → Bool) (shapes : Shapes) (old between new : Encoder) (low true_pc false_pc : ℕ)
    (frame first second : Frame) (condition : Bit) → Splits new.formula frame first second condition
    → Goes shapes old between low first (λ a state. Here (record state { pc = true_pc }))
    → Goes shapes between new low second (λ a state. Here (record state { pc = false_pc })) → Satisfies a new.formula
    → bit_value a frame.guard ≡ true → IsSo a old Nothing → (state : State) → ShowsFrame a frame state
    → IsSo a new (at_either true_pc false_pc (bit_value a condition) state)
went a shapes old between new low true_pc false_pc frame first second condition splits goes then_goes holds on so state
    shows =
    elim (bit_value a condition) as (λ (b : Bool). bit_value a condition ≡ b
    → IsSo a new (at_either true_pc false_pc b state)) [
      | true ↦ λ is. went_true a shapes old between new low true_pc false_pc frame first second condition splits goes
          then_goes holds on is so state shows
      | false ↦
          λ is. went_false a shapes old between new low true_pc false_pc frame first second condition splits goes
          then_goes holds on is so state shows
    ] refl

both_went : (shapes : Shapes) (old between new : Encoder) (low true_pc false_pc : ℕ) (frame first second : Frame)
    (condition : Bit) → Splits new.formula frame first second condition
    → Goes shapes old between low first (λ a state. Here (record state { pc = true_pc }))
    → Goes shapes between new low second (λ a state. Here (record state { pc = false_pc }))
    → Goes shapes old new low frame
    (λ a state. Here (record state { pc = if bit_value a condition then true_pc else false_pc }))
both_went shapes old between new low true_pc false_pc frame first second condition splits goes then_goes = record {
  extends = extends_then old.formula between.formula new.formula goes.extends then_goes.extends;
  formed = then_goes.formed;
  pending = λ pc under. then_goes.pending pc under ∙ goes.pending pc under;
  raised = λ pc above. then_goes.raised pc above ∙ goes.raised pc above;
  keeps = λ a holds off came so. then_goes.keeps a holds (splits.off_second a holds off) came
      (goes.keeps a (then_goes.extends.keeps a holds) (splits.off_first a holds off) came so);
  goes = λ a holds on so state shows. went a shapes old between new low true_pc false_pc frame first second condition
      splits goes then_goes holds on so state shows;
}

-- the gates of a condition: the guard with it, and the guard with its opposite
record HasGates (old new : Formula) (guard condition taken passed : Bit) : Type 0 where
  pub extends : Extends old new
  pub taken_below : IsBitBelow new.variables taken
  pub passed_below : IsBitBelow new.variables passed
  pub taken_is : (a : ℕ → Bool) → Satisfies a new → bit_value a taken ≡ (bit_value a guard && bit_value a condition)
  pub passed_is : (a : ℕ → Bool) → Satisfies a new
      → bit_value a passed ≡ (bit_value a guard && not (bit_value a condition))

gates_are : (old between new : Formula) (guard condition opposite taken passed : Bit)
    → opposite ≡ opposite_bit condition → IsGate old between taken (both guard condition)
    → IsGate between new passed (both guard opposite) → HasGates old new guard condition taken passed
gates_are old between new guard condition opposite taken passed is first second = record {
  extends = extends_then old between new first.extends second.extends;
  taken_below = bit_below_more between.variables new.variables taken second.extends.grows first.shows.within;
  passed_below = second.shows.within;
  taken_is = λ a holds. first.shows.is a (second.extends.keeps a holds);
  passed_is = λ a holds. second.shows.is a holds ∙ ap (λ (b : Bool). bit_value a guard && b) (ap (bit_value a) is
      ∙ opposite_value a condition);
}

gates_later : (old between new : Formula) (guard condition taken passed : Bit)
    → HasGates old between guard condition taken passed → Extends between new
    → HasGates old new guard condition taken passed
gates_later old between new guard condition taken passed gates extends = record {
  extends = extends_then old between new gates.extends extends;
  taken_below = bit_below_more between.variables new.variables taken extends.grows gates.taken_below;
  passed_below = bit_below_more between.variables new.variables passed extends.grows gates.passed_below;
  taken_is = λ a holds. gates.taken_is a (extends.keeps a holds);
  passed_is = λ a holds. gates.passed_is a (extends.keeps a holds);
}

-- a frame under another guard
abbrev under : Frame → Bit → Frame
under frame guard = record frame { guard = guard }

frame_under : (n : ℕ) (shape : Shape) (frame : Frame) (guard : Bit) → IsFrameOf n shape frame → IsBitBelow n guard
    → IsFrameOf n shape (under frame guard)
frame_under n shape frame guard is below =
    record { guard = below; known = is.known; locals = is.locals; stack = is.stack }

shows_under : (a : ℕ → Bool) (frame : Frame) (guard : Bit) (state : State) → ShowsFrame a frame state
    → ShowsFrame a (under frame guard) state
shows_under a frame guard state shows = record { locals = shows.locals; stack = shows.stack }

splits_are : (old new : Formula) (frame : Frame) (condition taken passed : Bit)
    → HasGates old new frame.guard condition taken passed
    → Splits new frame (under frame taken) (under frame passed) condition
splits_are old new frame condition taken passed gates = record {
  off_first = λ a holds off. and_off (bit_value a taken) (bit_value a frame.guard) (bit_value a condition)
      (gates.taken_is a holds) off;
  off_second = λ a holds off. and_off (bit_value a passed) (bit_value a frame.guard) (not (bit_value a condition))
      (gates.passed_is a holds) off;
  first_is = λ a holds on. and_on (bit_value a taken) (bit_value a frame.guard) (bit_value a condition)
      (gates.taken_is a holds) on;
  second_is = λ a holds on. and_on (bit_value a passed) (bit_value a frame.guard) (not (bit_value a condition))
      (gates.passed_is a holds) on;
  shows_first = λ a state shows. shows_under a frame taken state shows;
  shows_second = λ a state shows. shows_under a frame passed state shows;
}

-- what the steps of a branch leave: two gates, and nothing else in the encoder
pub record HasBranched (old grown : Encoder) (between : Formula)
    (guard condition opposite taken passed : Bit) : Type 0 where
  pub opposite_is : opposite ≡ opposite_bit condition
  pub taken_gate : AreNamed old.formula guard condition → IsGate old.formula between taken (both guard condition)
  pub passed_gate : AreNamed between guard opposite → IsGate between grown.formula passed (both guard opposite)
  pub pending : grown.pending.items ≡ old.pending.items
  pub raised : grown.raised.items ≡ old.raised.items

branched_gates : (shapes : Shapes) (shape : Shape) (old grown : Encoder) (between : Formula) (frame : Frame)
    (condition opposite taken passed : Bit) → HasBranched old grown between frame.guard condition opposite taken passed
    → HasFrame shapes old shape frame → IsBitBelow old.formula.variables condition
    → HasGates old.formula grown.formula frame.guard condition taken passed
branched_gates shapes shape old grown between frame condition opposite taken passed branched has below =
    let first =
    branched.taken_gate (record { clauses = has.formed.clauses; first = has.frame_is.guard; second = below }) in
    let turned : IsBitBelow between.variables (opposite_bit condition) =
    opposite_below between.variables condition
    (bit_below_more old.formula.variables between.variables condition first.extends.grows below) in
    let second = branched.passed_gate (record {
      clauses = first.extends.named;
      first = bit_below_more old.formula.variables between.variables frame.guard first.extends.grows has.frame_is.guard;
      second = subst (IsBitBelow between.variables) (sym branched.opposite_is) turned;
    }) in
    gates_are old.formula between grown.formula frame.guard condition opposite taken passed branched.opposite_is first
    second

branched_goes : (old grown arrived new : Encoder) (between : Formula) (frame : Frame)
    (condition opposite taken passed : Bit) (true_pc false_pc : ℕ)
    → HasBranched old grown between frame.guard condition opposite taken passed
    → Arrives grown arrived true_pc (under frame taken) → Arrives arrived new false_pc (under frame passed)
    → Branches old new frame condition true_pc false_pc
branched_goes old grown arrived new between frame condition opposite taken passed true_pc false_pc branched arrives
    then_arrives shapes shape low has below led_true led_false low_true low_false =
    let gates = branched_gates shapes shape old grown between frame condition opposite taken passed branched has below
    in
    let grows : HasGrown old grown =
    record { extends = gates.extends; pending = branched.pending; raised = branched.raised } in
    let frame_grown : IsFrameOf grown.formula.variables shape frame =
    frame_later old.formula.variables grown.formula.variables shape frame gates.extends.grows has.frame_is in
    let goes = arrives shapes shape low (record {
      formed = formed_grown shapes old grown grows has.formed;
      frame_is = frame_under grown.formula.variables shape frame taken frame_grown gates.taken_below;
    }) led_true low_true in
    let gates_arrived =
    gates_later old.formula grown.formula arrived.formula frame.guard condition taken passed gates goes.extends in
    let frame_arrived : IsFrameOf arrived.formula.variables shape frame =
    frame_later grown.formula.variables arrived.formula.variables shape frame goes.extends.grows frame_grown in
    let then_goes = then_arrives shapes shape low (record {
      formed = goes.formed;
      frame_is = frame_under arrived.formula.variables shape frame passed frame_arrived gates_arrived.passed_below;
    }) led_false low_false in
    let gates_new =
    gates_later old.formula arrived.formula new.formula frame.guard condition taken passed gates_arrived
    then_goes.extends in
    let splits = splits_are old.formula new.formula frame condition taken passed gates_new in
    goes_grown shapes old grown new low frame
    (λ a state. Here (record state { pc = if bit_value a condition then true_pc else false_pc })) grows
    (both_went shapes grown arrived new low true_pc false_pc frame (under frame taken)
    (under frame passed) condition splits goes then_goes)

-- a branch, from its gates and the two frames that come
pub branches : (old grown arrived new : Encoder) (between : Formula) (frame first second : Frame)
    (condition opposite taken passed : Bit) (true_pc false_pc : ℕ)
    → HasBranched old grown between frame.guard condition opposite taken passed → first ≡ under frame taken
    → second ≡ under frame passed → Arrives grown arrived true_pc first → Arrives arrived new false_pc second
    → Branches old new frame condition true_pc false_pc
branches old grown arrived new between frame first second condition opposite taken passed true_pc false_pc branched
    first_is second_is arrives then_arrives =
    branched_goes old grown arrived new between frame condition opposite taken passed true_pc false_pc branched
    (subst (Arrives grown arrived true_pc) first_is arrives)
    (subst (Arrives arrived new false_pc) second_is then_arrives)
