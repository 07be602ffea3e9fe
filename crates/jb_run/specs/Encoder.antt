-- What the steps of the encoder do: under each assignment that satisfies the formula, one guard at most is true among
-- the frames that wait, at the pc where the run is, and the frame under it shows the run's state.
use Rattle.cf_thin.specs.Instr.{target_of, Places}
use Rattle.std.specs.Prelude.{◌≡◌, ◌+◌, ◌<◌, ◌≤◌, ◌↔◌, ◌||◌, if◌then◌else◌, ℕ, ℤ, Bool, true, false, List, [], ◌++◌}
use Rattle.std.specs.Prelude.{length, Option, Some, None, slice_get, slice_set, slice_index_or, option_and_then, All}
use Rattle.std.specs.Prelude.{FitsSigned}
use Rattle.std.specs.Int.{w32}
use Rattle.cf_thin.specs.declared.instr.ThinInstr.{ThinInstr}
use Rattle.cf_thin.specs.declared.shape.OperandType as kind
use Rattle.cf_thin.specs.declared.shape.Shape.{Shape}
use Rattle.cf_thin.specs.declared.shape.Limits.{Limits}
use Rattle.cf_thin.specs.ThinCode.{falls_through, Steps, Shapes, IsLed, MeetsRules}
use Rattle.jv_base.specs.declared.method.Kind.TheVariants.{Null}
use Rattle.jv_base.specs.declared.value.Value.{Value}
use Rattle.jb_run.specs.declared.formula.Formula.{Formula}
use Rattle.jb_run.specs.declared.gates.Bit.{Bit}
use Rattle.jb_run.specs.declared.gates.Bit.TheVariants.{Known}
use Rattle.jb_run.specs.declared.int_bits.IntBits.{IntBits}
use Rattle.jb_run.specs.declared.frame.Operand.{Operand}
use Rattle.jb_run.specs.declared.frame.Frame.{Frame}
use Rattle.jb_run.specs.declared.encoder.Encoder.{Encoder}
use Rattle.jb_run.specs.declared.machine.State.{State}
use Rattle.jb_run.specs.declared.machine.Outcome.{Outcome}
use Rattle.jb_run.specs.declared.machine.Outcome.TheVariants.{Next, Raised, Ended, Stuck}
use Rattle.jb_run.specs.Clauses.{clauses_of}
use Rattle.jb_run.specs.Satisfies.{bit_value, Satisfies, IsBitBelow, AreClausesBelow}
use Rattle.jb_run.specs.Gate.{Extends}
use Rattle.jb_run.specs.Locals.{local_at}
use Rattle.jb_run.specs.Machine as machine
use Rattle.jb_run.specs.Shown.{ShowsInt, ShowInts, ShowsValue, ShowStack, ShowsFrame, IsIntBelow, AreIntsBelow}
use Rattle.jb_run.specs.Shown.{IsOfKind, AreOfKinds, IsFrameOf}
use Rattle.jb_run.specs.Violates.{RunViolates}

-- the frame that waits at a pc
abbrev pub pending_at : List (Option Frame) → ℕ → Option Frame
pending_at pending pc = option_and_then (λ f. f) (slice_get pending pc)

-- the bit that is true where the instruction at a pc raises null
abbrev pub raised_at : List Bit → ℕ → Bit
raised_at raised pc = slice_index_or raised pc (Known false)

-- whether the guard of a frame that waits is true
abbrev pub guard_of : (ℕ → Bool) → Option Frame → Bool
guard_of a None = false
guard_of a (Some frame) = bit_value a frame.guard

-- what a run has come to: it ended, it is at a state, or it threw null at a pc
pub data Came : Type 0 where
  Nothing : Came
  Here : State → Came
  Thrown : ℕ → Came

-- what a run comes to by a step at a pc
abbrev pub came_of : ℕ → Outcome → Came
came_of pc (Next state) = Here state
came_of pc (Raised kind) = Thrown pc
came_of pc Ended = Nothing
came_of pc Stuck = Nothing

-- no frame that waits has a true guard
abbrev pub NoneWaits : (ℕ → Bool) → List (Option Frame) → Type 0
NoneWaits a pending = (pc : ℕ) → guard_of a (pending_at pending pc) ≡ false

-- the frame that waits at the state's pc shows it, and its guard is the only one that is true
pub record Waits (a : ℕ → Bool) (pending : List (Option Frame)) (state : State) : Type 0 where
  pub frame : Frame
  pub found : pending_at pending state.pc ≡ Some frame
  pub guard : bit_value a frame.guard ≡ true
  pub shows : ShowsFrame a frame state
  pub alone : (pc : ℕ) → (pc ≡ state.pc → ⊥) → guard_of a (pending_at pending pc) ≡ false

-- no null is thrown
abbrev pub NoneThrown : (ℕ → Bool) → List Bit → Type 0
NoneThrown a raised = (pc : ℕ) → bit_value a (raised_at raised pc) ≡ false

-- null is thrown at this pc alone
abbrev pub IsThrown : (ℕ → Bool) → List Bit → ℕ → Type 0
IsThrown a raised at = (pc : ℕ) → (bit_value a (raised_at raised pc) ≡ true) ↔ (pc ≡ at)

-- the encoder shows what a run has come to
abbrev pub IsSo : (ℕ → Bool) → Encoder → Came → Type 0
IsSo a encoder Nothing = NoneWaits a encoder.pending.items × NoneThrown a encoder.raised.items
IsSo a encoder (Here state) = Waits a encoder.pending.items state × NoneThrown a encoder.raised.items
IsSo a encoder (Thrown pc) = NoneWaits a encoder.pending.items × IsThrown a encoder.raised.items pc

-- each frame that waits has the shape of its pc, and all is of the formula's variables
pub record IsFormed (shapes : Shapes) (encoder : Encoder) : Type 0 where
  pub clauses : AreClausesBelow encoder.formula.variables (clauses_of encoder.formula)
  pub within : (pc : ℕ) (shape : Shape) → shapes pc ≡ Some shape → pc < length encoder.pending.items
  pub same : length encoder.raised.items ≡ length encoder.pending.items
  pub frames : (pc : ℕ) (frame : Frame) → pending_at encoder.pending.items pc ≡ Some frame
      → (shape : Shape) × (shapes pc ≡ Some shape) × IsFrameOf encoder.formula.variables shape frame
  pub raised : (pc : ℕ) → IsBitBelow encoder.formula.variables (raised_at encoder.raised.items pc)

-- the encoder went on from a frame: where the guard is true, the run comes from each state that the frame shows to what
-- is
-- given; where it is false, all is as before. No frame comes below a pc, and nothing is thrown from it on.
pub record Goes (shapes : Shapes) (old new : Encoder) (low : ℕ) (frame : Frame) (go : (ℕ → Bool) → State
    → Came) : Type 0 where
  pub extends : Extends old.formula new.formula
  pub formed : IsFormed shapes new
  pub pending : (pc : ℕ) → pc < low → pending_at new.pending.items pc ≡ pending_at old.pending.items pc
  pub raised : (pc : ℕ) → low ≤ pc → raised_at new.raised.items pc ≡ raised_at old.raised.items pc
  pub keeps : (a : ℕ → Bool) → Satisfies a new.formula → bit_value a frame.guard ≡ false → (came : Came)
      → IsSo a old came → IsSo a new came
  pub goes : (a : ℕ → Bool) → Satisfies a new.formula → bit_value a frame.guard ≡ true → IsSo a old Nothing
      → (state : State) → ShowsFrame a frame state → IsSo a new (go a state)

-- the encoder is formed, and has a frame of this shape in hand
pub record HasFrame (shapes : Shapes) (encoder : Encoder) (shape : Shape) (frame : Frame) : Type 0 where
  pub formed : IsFormed shapes encoder
  pub frame_is : IsFrameOf encoder.formula.variables shape frame

-- a frame comes to a pc
abbrev pub Arrives : Encoder → Encoder → ℕ → Frame → Type 0
Arrives old new pc frame =
    (shapes : Shapes) (shape : Shape) (low : ℕ) → HasFrame shapes old shape frame → IsLed shapes shape pc → low ≤ pc
    → Goes shapes old new low frame (λ a state. Here (record state { pc = pc }))

-- a frame comes to one pc where a condition is true, and else to another
abbrev pub Branches : Encoder → Encoder → Frame → Bit → ℕ → ℕ → Type 0
Branches old new frame condition true_pc false_pc =
    (shapes : Shapes) (shape : Shape) (low : ℕ) → HasFrame shapes old shape frame
    → IsBitBelow old.formula.variables condition → IsLed shapes shape true_pc → IsLed shapes shape false_pc
    → low ≤ true_pc → low ≤ false_pc
    → Goes shapes old new low frame
    (λ a state. Here (record state { pc = if bit_value a condition then true_pc else false_pc }))

-- the instruction's outcome is encoded, which takes these operands off the stack and goes to one of two pcs
abbrev pub BranchesBy : Encoder → Encoder → Frame → List kind.OperandType → (State → Outcome) → ℕ → ℕ → Type 0
BranchesBy old new frame taken outcome one_pc other_pc =
    (shapes : Shapes) (shape : Shape) (rest : List kind.OperandType) (low pc : ℕ) → HasFrame shapes old shape frame
    → shape.stack ≡ rest ++ taken → IsLed shapes (record shape { stack = rest }) one_pc
    → IsLed shapes (record shape { stack = rest }) other_pc → low ≤ one_pc → low ≤ other_pc
    → Goes shapes old new low frame (λ a state. came_of pc (outcome state))

-- the encoder has a frame in hand of a shape from which the instruction at a pc steps, and what is at that pc was taken
pub record IsReady (limits : Limits) (shapes : Shapes) (encoder : Encoder) (pc : ℕ) (frame : Frame) (instr : ThinInstr)
    (next : ℕ) : Type 0 where
  pub shape : Shape
  pub has : HasFrame shapes encoder shape frame
  pub within : pc < length encoder.pending.items
  pub quiet : raised_at encoder.raised.items pc ≡ Known false
  pub after : Shape
  pub steps : Steps limits instr shape after
  pub falls : falls_through instr ≡ true → IsLed shapes after next
  pub jumps : (target : ℕ) → target_of instr ≡ Some target → IsLed shapes after target
  pub falls_on : pc < next
  pub jumps_on : (target : ℕ) → target_of instr ≡ Some target → pc < target

-- the instruction at a pc is encoded
abbrev pub Executes : Encoder → Encoder → ℕ → Frame → ThinInstr → ℕ → Type 0
Executes old new pc frame instr next =
    (limits : Limits) (shapes : Shapes) → IsReady limits shapes old pc frame instr next
    → Goes shapes old new (pc + 1) frame (λ a state. came_of pc (machine.step_of instr next state))

-- where two frames of a shape meet
pub record IsMerged (shape : Shape) (old new : Formula) (first second met : Frame) : Type 0 where
  pub extends : Extends old new
  pub frame_is : IsFrameOf new.variables shape met
  pub guard : (a : ℕ → Bool) → Satisfies a new
      → bit_value a met.guard ≡ (bit_value a first.guard || bit_value a second.guard)
  pub shows_first : (a : ℕ → Bool) → Satisfies a new → bit_value a first.guard ≡ true → (state : State)
      → ShowsFrame a first state → ShowsFrame a met state
  pub shows_second : (a : ℕ → Bool) → Satisfies a new → bit_value a first.guard ≡ false → (state : State)
      → ShowsFrame a second state → ShowsFrame a met state

abbrev pub Merges : Formula → Formula → Frame → Frame → Frame → Type 0
Merges old new first second met =
    (shape : Shape) → AreClausesBelow old.variables (clauses_of old) → IsFrameOf old.variables shape first
    → IsFrameOf old.variables shape second → IsMerged shape old new first second met

-- operands of a kind that were merged: the first where the choice is true, and else the second
pub record IsMergedOperand (kind : kind.OperandType) (old new : Formula) (choice : Bit)
    (first second met : Operand) : Type 0 where
  pub extends : Extends old new
  pub kind_is : IsOfKind new.variables kind met
  pub shows_first : (a : ℕ → Bool) → Satisfies a new → bit_value a choice ≡ true → (value : Value)
      → ShowsValue a first value → ShowsValue a met value
  pub shows_second : (a : ℕ → Bool) → Satisfies a new → bit_value a choice ≡ false → (value : Value)
      → ShowsValue a second value → ShowsValue a met value

abbrev pub MergeOperand : Formula → Formula → Bit → Operand → Operand → Operand → Type 0
MergeOperand old new choice first second met =
    (kind : kind.OperandType) → AreClausesBelow old.variables (clauses_of old) → IsBitBelow old.variables choice
    → IsOfKind old.variables kind first → IsOfKind old.variables kind second
    → IsMergedOperand kind old new choice first second met

-- stacks of these kinds that were merged: the first where the choice is true, and else the second
pub record AreMergedStacks (kinds : List kind.OperandType) (old new : Formula) (choice : Bit)
    (first second met : List Operand) : Type 0 where
  pub extends : Extends old new
  pub kinds_are : AreOfKinds new.variables kinds met
  pub shows_first : (a : ℕ → Bool) → Satisfies a new → bit_value a choice ≡ true → (state : State)
      → ShowStack a first state.stack → ShowStack a met state.stack
  pub shows_second : (a : ℕ → Bool) → Satisfies a new → bit_value a choice ≡ false → (state : State)
      → ShowStack a second state.stack → ShowStack a met state.stack

abbrev pub MergeStacks : Formula → Formula → Bit → List Operand → List Operand → List Operand → Type 0
MergeStacks old new choice first second met =
    (kinds : List kind.OperandType) → AreClausesBelow old.variables (clauses_of old) → IsBitBelow old.variables choice
    → AreOfKinds old.variables kinds first → AreOfKinds old.variables kinds second
    → AreMergedStacks kinds old new choice first second met

-- an int that was merged of one in each: it shows the first where the choice is true, and else the second
pub record IsMergedInt (new : Formula) (choice : Bit) (first second : Option IntBits) (met : IntBits) : Type 0 where
  pub within : IsIntBelow new.variables met
  pub one : IntBits
  pub other : IntBits
  pub in_first : first ≡ Some one
  pub in_second : second ≡ Some other
  pub shows_first : (a : ℕ → Bool) → Satisfies a new → bit_value a choice ≡ true → (n : ℤ) → ShowsInt a one n
      → ShowsInt a met n
  pub shows_second : (a : ℕ → Bool) → Satisfies a new → bit_value a choice ≡ false → (n : ℤ) → ShowsInt a other n
      → ShowsInt a met n

-- a local that was merged: it holds an int where both hold one
pub record IsMergedLocal (old new : Formula) (choice : Bit) (first second met : Option IntBits) : Type 0 where
  pub extends : Extends old new
  pub holds : (one other : IntBits) → first ≡ Some one → second ≡ Some other → (word : IntBits) × (met ≡ Some word)
  pub held : (word : IntBits) → met ≡ Some word → IsMergedInt new choice first second word

-- the word that a local holds is of variables below a number
abbrev pub IsLocalBelow : ℕ → Option IntBits → Type 0
IsLocalBelow n local = (word : IntBits) → local ≡ Some word → IsIntBelow n word

abbrev pub MergeLocal : Formula → Formula → Bit → Option IntBits → Option IntBits → Option IntBits → Type 0
MergeLocal old new choice first second met =
    AreClausesBelow old.variables (clauses_of old) → IsBitBelow old.variables choice → IsLocalBelow old.variables first
    → IsLocalBelow old.variables second → IsMergedLocal old new choice first second met

-- locals that were merged: those that hold an int in both
pub record AreMergedLocals (old new : Formula) (choice : Bit) (first second met : List (Option IntBits)) : Type 0 where
  pub extends : Extends old new
  pub holds : (k : ℕ) (one other : IntBits) → local_at first k ≡ Some one → local_at second k ≡ Some other
      → (word : IntBits) × (local_at met k ≡ Some word)
  pub held : (k : ℕ) (word : IntBits) → local_at met k ≡ Some word
      → IsMergedInt new choice (local_at first k) (local_at second k) word

-- the words that the locals hold are of variables below a number
abbrev pub AreLocalsBelow : ℕ → List (Option IntBits) → Type 0
AreLocalsBelow n locals = (k : ℕ) (word : IntBits) → local_at locals k ≡ Some word → IsIntBelow n word

abbrev pub MergeLocals : Formula → Formula → Bit → List (Option IntBits) → List (Option IntBits) → List (Option IntBits)
    → Type 0
MergeLocals old new choice first second met =
    AreClausesBelow old.variables (clauses_of old) → IsBitBelow old.variables choice
    → AreLocalsBelow old.variables first → AreLocalsBelow old.variables second
    → AreMergedLocals old new choice first second met

-- a frame meets the one that waits, if any
abbrev pub Meets : Formula → Formula → Frame → Option Frame → Frame → Type 0
Meets old new frame None met = (new ≡ old) × (met ≡ frame)
Meets old new frame (Some earlier) met = Merges old new frame earlier met

-- the formula has no variable and no clause
pub record IsEmpty (formula : Formula) : Type 0 where
  pub variables : formula.variables ≡ 0
  pub clauses : clauses_of formula ≡ []

-- the formula has inputs: each list of so many ints of 32 bits has an assignment that satisfies it and shows them
pub record HasInputs (params : ℕ) (formula : Formula) (inputs : List IntBits) : Type 0 where
  pub number : length inputs ≡ params
  pub clauses : AreClausesBelow formula.variables (clauses_of formula)
  pub within : AreIntsBelow formula.variables inputs
  pub has : (ints : List ℤ) → length ints ≡ params → All (FitsSigned w32) ints → (a : ℕ → Bool) × Satisfies a formula
      × ShowInts a inputs ints

-- a run of these ints came to this
abbrev pub HasCome : Places → List ℤ → Came → Type 0
HasCome code ints Nothing = (steps : ℕ) × (state : State) × (machine.after code steps (machine.start ints) ≡ Some state)
    × (machine.step code state ≡ Ended)
HasCome code ints (Here state) = (steps : ℕ) × (machine.after code steps (machine.start ints) ≡ Some state)
HasCome code ints (Thrown pc) = RunViolates code ints pc Null

-- the instructions below a pc are encoded, from a formula that has the inputs
pub record IsEncoded (code : Places) (shapes : Shapes) (first : Formula) (inputs : List IntBits) (pc : ℕ)
    (encoder : Encoder) : Type 0 where
  pub formed : IsFormed shapes encoder
  pub extends : Extends first encoder.formula
  pub done : (at : ℕ) → at < pc → pending_at encoder.pending.items at ≡ None
  pub quiet : (at : ℕ) → pc ≤ at → raised_at encoder.raised.items at ≡ Known false
  pub runs : (a : ℕ → Bool) → Satisfies a encoder.formula → (ints : List ℤ) → ShowInts a inputs ints
      → (came : Came) × IsSo a encoder came × HasCome code ints came

-- the encoder after the frame at a pc was taken
pub record IsTaken (old new : Encoder) (pc : ℕ) : Type 0 where
  pub within : pc < length old.pending.items
  pub formula : new.formula ≡ old.formula
  pub pending : new.pending.items ≡ slice_set old.pending.items pc None
  pub raised : new.raised.items ≡ old.raised.items

-- the instruction at a pc is encoded, where a frame waits for it
abbrev pub Visits : Places → Encoder → Encoder → ℕ → Type 0
Visits code old new pc =
    (limits : Limits) (shapes : Shapes) (first : Formula) (inputs : List IntBits) → MeetsRules code limits shapes
    → IsEncoded code shapes first inputs pc old → IsEncoded code shapes first inputs (pc + 1) new
