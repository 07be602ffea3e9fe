-- A branch by the ints on top of the stack goes where the machine goes.
use Rattle.std.proofs.Common.{◌≡◌, ◌≤◌, ℕ, ℤ, Bool, List, [], ◌∷◌, ◌++◌, Option, Some, None, refl, sym, ap, ◌∙◌, subst}
use Rattle.std.specs.Prelude.{pos, if◌then◌else◌}
use Rattle.std.specs.Ordering.{int_eq}
use Rattle.jv_base.specs.declared.value.Value.{Value}
use Rattle.cf_thin.specs.declared.shape.OperandType as kind
use Rattle.cf_thin.specs.declared.shape.OperandType.TheVariants as kinds
use Rattle.cf_thin.specs.declared.shape.Shape.{Shape}
use Rattle.cf_thin.specs.ThinCode.{Shapes, IsLed}
use Rattle.jb_run.specs.declared.formula.Formula.{Formula}
use Rattle.jb_run.specs.declared.gates.Bit.{Bit}
use Rattle.jb_run.specs.declared.int_bits.IntBits.{IntBits}
use Rattle.jb_run.specs.declared.frame.Operand.{Operand}
use Rattle.jb_run.specs.declared.frame.Frame.{Frame}
use Rattle.jb_run.specs.declared.encoder.Encoder.{Encoder}
use Rattle.jb_run.specs.declared.machine.State.{State}
use Rattle.jb_run.specs.declared.machine.Outcome.{Outcome}
use Rattle.jb_run.specs.declared.machine.Outcome.TheVariants.{Next}
use Rattle.jb_run.specs.Bits as bits
use Rattle.jb_run.specs.Satisfies.{bit_value, Satisfies, IsBitBelow}
use Rattle.jb_run.specs.Gate.{Extends, IsIntNamed, AreIntsNamed, IsTest, HasNoBit, HaveSameBits}
use Rattle.jb_run.specs.Machine as machine
use Rattle.jb_run.specs.Stack.{top, below}
use Rattle.jb_run.specs.Shown.{ShowsInt, ShowsFrame, AreOfKinds, IsFrameOf}
use Rattle.jb_run.specs.Encoder.{Came, Here, came_of, Goes, HasFrame, Branches, BranchesBy}
use Rattle.jb_run.proofs.GrowthLemmas.{HasGrown, formed_grown, frame_later, goes_grown, goes_by}
use Rattle.jb_run.proofs.StackLemmas.{IsTop, top_known, top_found, two_on_top}

-- the encoder whose formula grew
abbrev grown_by : Encoder → Formula → Encoder
grown_by encoder formula = record encoder { formula = formula }

-- the frame with another stack
abbrev with_stack : Frame → List Operand → Frame
with_stack frame stack = record frame { stack = stack }

-- the shape with another stack
abbrev shape_with : Shape → List kind.OperandType → Shape
shape_with shape stack = record shape { stack = stack }

-- the state with another stack
abbrev state_with : State → List Value → State
state_with state stack = record state { stack = stack }

-- a frame whose ints are popped is of the shape without them
popped_frame : (n : ℕ) (shape : Shape) (rest : List kind.OperandType) (frame : Frame) (stack : List Operand)
    → IsFrameOf n shape frame → AreOfKinds n rest stack → IsFrameOf n (shape_with shape rest) (with_stack frame stack)
popped_frame n shape rest frame stack is are =
    record { guard = is.guard; known = is.known; locals = is.locals; stack = are }

-- what a branch of a frame without the ints on top has to show: where its bit is true, the run goes to the first pc
pub record Popped (shape : Shape) (rest : List kind.OperandType) (old : Encoder) (formula : Formula) (frame : Frame)
    (stack : List Operand) (bit : Bit) (one_pc other_pc : ℕ) (outcome : State → Outcome) : Type 0 where
  pub extends : Extends old.formula formula
  pub within : IsBitBelow formula.variables bit
  pub are : AreOfKinds old.formula.variables rest stack
  pub shows : (a : ℕ → Bool) → Satisfies a formula → (state : State) → ShowsFrame a frame state
      → (shown : State) × ShowsFrame a (with_stack frame stack) shown
      × (outcome state ≡ Next (record shown { pc = if bit_value a bit then one_pc else other_pc }))

popped_goes : (shapes : Shapes) (shape : Shape) (rest : List kind.OperandType) (low pc : ℕ) (old new : Encoder)
    (formula : Formula) (frame : Frame) (stack : List Operand) (bit : Bit) (one_pc other_pc : ℕ) (outcome : State
    → Outcome) → HasFrame shapes old shape frame → Popped shape rest old formula frame stack bit one_pc other_pc outcome
    → IsLed shapes (shape_with shape rest) one_pc → IsLed shapes (shape_with shape rest) other_pc → low ≤ one_pc
    → low ≤ other_pc → Branches (grown_by old formula) new (with_stack frame stack) bit one_pc other_pc
    → Goes shapes old new low frame (λ a state. came_of pc (outcome state))
popped_goes shapes shape rest low pc old new formula frame stack bit one_pc other_pc outcome has popped led_one
    led_other low_one low_other branches =
    let between = grown_by old formula in
    let changed = with_stack frame stack in
    let grown : HasGrown old between = record { extends = popped.extends; pending = refl; raised = refl } in
    let is : IsFrameOf formula.variables (shape_with shape rest) changed =
    frame_later old.formula.variables formula.variables (shape_with shape rest) changed popped.extends.grows
    (popped_frame old.formula.variables shape rest frame stack has.frame_is popped.are) in
    let has_changed : HasFrame shapes between (shape_with shape rest) changed =
    record { formed = formed_grown shapes old between grown has.formed; frame_is = is } in
    let gone : (ℕ → Bool) → State → Came =
    λ a state. Here (record state { pc = if bit_value a bit then one_pc else other_pc }) in
    let go : (ℕ → Bool) → State → Came = λ a state. came_of pc (outcome state) in
    let goes = branches shapes (shape_with shape rest) low has_changed popped.within led_one led_other low_one low_other
    in
    goes_grown shapes old between new low frame go grown
    (goes_by shapes between new low frame changed go gone refl goes
    (λ a holds state here.
    let s = popped.shows a (goes.extends.keeps a holds) state here in
    (s.0, s.1, sym (ap (came_of pc) s.2))))

-- the kinds of a stack with these on top
kinds_of : (n : ℕ) (rest taken : List kind.OperandType) (shape : Shape) (frame : Frame) → shape.stack ≡ rest ++ taken
    → IsFrameOf n shape frame → AreOfKinds n (rest ++ taken) frame.stack
kinds_of n rest taken shape frame stack_is is =
    subst (λ (w : List kind.OperandType). AreOfKinds n w frame.stack) stack_is is.stack

-- an int is on top of the stack
pub one_none : (old new : Encoder) (frame : Frame) (outcome : State → Outcome) (one_pc other_pc : ℕ)
    → bits.bits_inside (top frame.stack) ≡ None → BranchesBy old new frame (kinds.Int ∷ []) outcome one_pc other_pc
one_none old new frame outcome one_pc other_pc none shapes shape rest low pc has stack_is led_one led_other low_one
    low_other =
    absurd (top_found old.formula.variables rest frame.stack
    (kinds_of old.formula.variables rest (kinds.Int ∷ []) shape frame stack_is has.frame_is) none)

zero_popped : (shapes : Shapes) (shape : Shape) (rest : List kind.OperandType) (old : Encoder) (formula : Formula)
    (frame : Frame) (word : IntBits) (bit : Bit) (zero_pc other_pc : ℕ) → HasFrame shapes old shape frame
    → IsTop old.formula.variables rest frame.stack word
    → (IsIntNamed old.formula word → IsTest old.formula formula bit (HasNoBit word))
    → (IsIntNamed old.formula word → (w : ℕ → Bool) (n : ℤ) → Satisfies w formula → ShowsInt w word n
    → bit_value w bit ≡ int_eq n (pos 0)) → Popped shape rest old formula frame (below frame.stack) bit zero_pc other_pc
    (machine.branch_on_zero zero_pc other_pc)
zero_popped shapes shape rest old formula frame word bit zero_pc other_pc has is_top gate int =
    let named : IsIntNamed old.formula word = record { clauses = has.formed.clauses; bits = is_top.within } in
    let test = gate named in
    record {
      extends = test.extends;
      within = test.within;
      are = is_top.under;
      shows = λ a holds state here.
          let p = is_top.shows a state.stack here.stack in
          let rest_values = below state.stack in (
            state_with state rest_values,
            record { locals = here.locals; stack = p.under_shown },
            ap (λ (o : Option ℤ). machine.with_int o
                (λ n. machine.goes_to state (if int_eq n (pos 0) then zero_pc else other_pc) rest_values)) p.is
                ∙ ap (λ (t : Bool). machine.goes_to state (if t then zero_pc else other_pc) rest_values)
                (sym (int named a p.int holds p.int_shown)),
          );
    }

-- the int on top is tested for 0
pub zero_goes : (old new : Encoder) (formula : Formula) (frame changed : Frame) (word : IntBits) (bit : Bit)
    (zero_pc other_pc : ℕ) → bits.bits_inside (top frame.stack) ≡ Some word
    → changed ≡ with_stack frame (below frame.stack)
    → (IsIntNamed old.formula word → IsTest old.formula formula bit (HasNoBit word))
    → (IsIntNamed old.formula word → (w : ℕ → Bool) (n : ℤ) → Satisfies w formula → ShowsInt w word n
    → bit_value w bit ≡ int_eq n (pos 0)) → Branches (grown_by old formula) new changed bit zero_pc other_pc
    → BranchesBy old new frame (kinds.Int ∷ []) (machine.branch_on_zero zero_pc other_pc) zero_pc other_pc
zero_goes old new formula frame changed word bit zero_pc other_pc is changed_is gate int branches shapes shape rest low
    pc has stack_is led_one led_other low_one low_other =
    let n = old.formula.variables in
    let is_top =
    top_known n rest frame.stack word (kinds_of n rest (kinds.Int ∷ []) shape frame stack_is has.frame_is) is in
    popped_goes shapes shape rest low pc old new formula frame (below frame.stack) bit zero_pc other_pc
    (machine.branch_on_zero zero_pc other_pc) has
    (zero_popped shapes shape rest old formula frame word bit zero_pc other_pc has is_top gate int) led_one led_other
    low_one low_other
    (subst (λ (f : Frame). Branches (grown_by old formula) new f bit zero_pc other_pc) changed_is branches)

-- the kinds of a stack with two ints on top
kinds_of_two : (n : ℕ) (rest : List kind.OperandType) (shape : Shape) (frame : Frame)
    → shape.stack ≡ rest ++ kinds.Int ∷ kinds.Int ∷ [] → IsFrameOf n shape frame
    → AreOfKinds n ((rest ++ kinds.Int ∷ []) ++ kinds.Int ∷ []) frame.stack
kinds_of_two n rest shape frame stack_is is = kinds_of n (rest ++ kinds.Int ∷ []) (kinds.Int ∷ []) shape frame (stack_is
    ∙ two_on_top rest) is

-- two ints are on top of the stack
pub two_none : (old new : Encoder) (frame : Frame) (outcome : State → Outcome) (one_pc other_pc : ℕ)
    → bits.bits_inside (top frame.stack) ≡ None
    → BranchesBy old new frame (kinds.Int ∷ kinds.Int ∷ []) outcome one_pc other_pc
two_none old new frame outcome one_pc other_pc none shapes shape rest low pc has stack_is led_one led_other low_one
    low_other =
    absurd (top_found old.formula.variables (rest ++ kinds.Int ∷ []) frame.stack
    (kinds_of_two old.formula.variables rest shape frame stack_is has.frame_is) none)

-- an int is below the one on top
pub two_none_below : (old new : Encoder) (frame changed : Frame) (second : IntBits) (outcome : State → Outcome)
    (one_pc other_pc : ℕ) → bits.bits_inside (top frame.stack) ≡ Some second
    → changed ≡ with_stack frame (below frame.stack) → bits.bits_inside (top changed.stack) ≡ None
    → BranchesBy old new frame (kinds.Int ∷ kinds.Int ∷ []) outcome one_pc other_pc
two_none_below old new frame changed second outcome one_pc other_pc is changed_is none shapes shape rest low pc
    has stack_is led_one led_other low_one low_other =
    let n = old.formula.variables in
    let is_top =
    top_known n (rest ++ kinds.Int ∷ []) frame.stack second
    (kinds_of_two n rest shape frame stack_is has.frame_is) is in
    let none_below : bits.bits_inside (top (below frame.stack)) ≡ None =
    sym (ap (λ (f : Frame). bits.bits_inside (top f.stack)) changed_is) ∙ none in
    absurd (top_found n rest (below frame.stack) is_top.under none_below)

equal_popped : (shapes : Shapes) (shape : Shape) (rest : List kind.OperandType) (old : Encoder) (formula : Formula)
    (frame : Frame) (first second : IntBits) (bit : Bit) (equal_pc other_pc : ℕ) → HasFrame shapes old shape frame
    → IsTop old.formula.variables (rest ++ kinds.Int ∷ []) frame.stack second
    → IsTop old.formula.variables rest (below frame.stack) first
    → (AreIntsNamed old.formula first second → IsTest old.formula formula bit (HaveSameBits first second))
    → (AreIntsNamed old.formula first second → (w : ℕ → Bool) (n m : ℤ) → Satisfies w formula → ShowsInt w first n
    → ShowsInt w second m → bit_value w bit ≡ int_eq n m)
    → Popped shape rest old formula frame (below (below frame.stack)) bit equal_pc other_pc
    (machine.branch_on_equal equal_pc other_pc)
equal_popped shapes shape rest old formula frame first second bit equal_pc other_pc has second_top first_top gate int =
    let named : AreIntsNamed old.formula first second =
    record { clauses = has.formed.clauses; first = first_top.within; second = second_top.within } in
    let test = gate named in
    record {
      extends = test.extends;
      within = test.within;
      are = first_top.under;
      shows = λ a holds state here.
          let q = second_top.shows a state.stack here.stack in
          let p = first_top.shows a (below state.stack) q.under_shown in
          let rest_values = below (below state.stack) in
          let go : ℤ → ℤ → Outcome =
          λ n m. machine.goes_to state (if int_eq n m then equal_pc else other_pc) rest_values in (
            state_with state rest_values,
            record { locals = here.locals; stack = p.under_shown },
            ap (λ (o : Option ℤ). machine.with_ints (machine.int_inside (top (below state.stack))) o go) q.is
                ∙ ap (λ (o : Option ℤ). machine.with_ints o (Some q.int) go) p.is
                ∙ ap (λ (t : Bool). machine.goes_to state (if t then equal_pc else other_pc) rest_values)
                (sym (int named a p.int q.int holds p.int_shown q.int_shown)),
          );
    }

-- the two ints on top are compared
pub equal_goes : (old new : Encoder) (formula : Formula) (frame between changed : Frame) (first second : IntBits)
    (bit : Bit) (equal_pc other_pc : ℕ) → bits.bits_inside (top frame.stack) ≡ Some second
    → between ≡ with_stack frame (below frame.stack) → bits.bits_inside (top between.stack) ≡ Some first
    → changed ≡ with_stack between (below between.stack)
    → (AreIntsNamed old.formula first second → IsTest old.formula formula bit (HaveSameBits first second))
    → (AreIntsNamed old.formula first second → (w : ℕ → Bool) (n m : ℤ) → Satisfies w formula → ShowsInt w first n
    → ShowsInt w second m → bit_value w bit ≡ int_eq n m)
    → Branches (grown_by old formula) new changed bit equal_pc other_pc
    → BranchesBy old new frame (kinds.Int ∷ kinds.Int ∷ [])
    (machine.branch_on_equal equal_pc other_pc) equal_pc other_pc
equal_goes old new formula frame between changed first second bit equal_pc other_pc second_is between_is first_is
    changed_is gate int branches shapes shape rest low pc has stack_is led_one led_other low_one low_other =
    let n = old.formula.variables in
    let second_top =
    top_known n (rest ++ kinds.Int ∷ []) frame.stack second
    (kinds_of_two n rest shape frame stack_is has.frame_is) second_is in
    let below_is : bits.bits_inside (top (below frame.stack)) ≡ Some first =
    sym (ap (λ (f : Frame). bits.bits_inside (top f.stack)) between_is) ∙ first_is in
    let first_top = top_known n rest (below frame.stack) first second_top.under below_is in
    let popped_is : changed ≡ with_stack frame (below (below frame.stack)) =
    changed_is ∙ ap (λ (f : Frame). with_stack f (below f.stack)) between_is in
    popped_goes shapes shape rest low pc old new formula frame (below (below frame.stack)) bit equal_pc other_pc
    (machine.branch_on_equal equal_pc other_pc) has
    (equal_popped shapes shape rest old formula frame first second bit equal_pc other_pc has second_top first_top gate
    int) led_one led_other low_one low_other
    (subst (λ (f : Frame). Branches (grown_by old formula) new f bit equal_pc other_pc) popped_is branches)
