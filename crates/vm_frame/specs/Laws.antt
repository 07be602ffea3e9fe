-- What holds of the definitions.
use Rattle.std.specs.Prelude.{◌≡◌, ◌≢◌, ◌⊎◌, ℕ, ◌+◌, true, false, List, Option, Some, None, Contains}
use Rattle.jv_base.specs.declared.method.Kind.{Kind}
use Rattle.jv_base.specs.declared.value.Value.{Value}
use Rattle.cf_code.specs.declared.instr.Instr.{Instr}
use Rattle.cf_code.specs.Kinds.{raises}
use Rattle.cf_code.specs.Targets.{targets, goes_on}
use Rattle.vm_world.specs.declared.frame.Frame.{Frame}
use Rattle.vm_frame.specs.declared.effect.FrameWent.TheVariants.{Next, Raised}
use Rattle.vm_frame.specs.Operands.{is_long}
use Rattle.vm_frame.specs.Locals.{local_at, holds_long, stored}
use Rattle.vm_frame.specs.Steps.{frame_step}

-- a kind that is raised is one of the instruction's
abbrev pub RaisesItsKinds : Type 0
RaisesItsKinds = (instr : Instr) (next : ℕ) (frame : Frame) (kind : Kind) → (frame_step instr next frame).0 ≡ Raised kind
    → raises instr kind ≡ true

-- the run goes on at the next instruction, where the instruction can go on to it, or at one of its targets
abbrev pub FollowsItsWays : Type 0
FollowsItsWays = (instr : Instr) (next : ℕ) (frame : Frame) → (frame_step instr next frame).0 ≡ Next
    → ((goes_on instr ≡ true) × ((frame_step instr next frame).1.pc ≡ next))
    ⊎ Contains (targets instr) (frame_step instr next frame).1.pc

-- an instruction changes no more of a frame than its pc, its locals and its stack
abbrev pub KeepsItsMethod : Type 0
KeepsItsMethod = (instr : Instr) (next : ℕ) (frame : Frame)
    → ((frame_step instr next frame).1.method ≡ frame.method)
    × ((frame_step instr next frame).1.initialises ≡ frame.initialises)

-- a local that was stored in holds the value
abbrev pub StoreIsRead : Type 0
StoreIsRead = (locals : List (Option Value)) (index : ℕ) (v : Value) → local_at (stored locals index v) index ≡ Some v

-- the second local of a long holds nothing
abbrev pub SecondIsNothing : Type 0
SecondIsNothing = (locals : List (Option Value)) (index : ℕ) (v : Value) → is_long v ≡ true
    → local_at (stored locals index v) (index + 1) ≡ None

-- a long ends where its second local is stored in
abbrev pub HalfALongEnds : Type 0
HalfALongEnds = (locals : List (Option Value)) (index : ℕ) (v : Value) → holds_long (local_at locals index) ≡ true
    → local_at (stored locals (index + 1) v) index ≡ None

-- each other local holds what it held
abbrev pub OthersAreKept : Type 0
OthersAreKept = (locals : List (Option Value)) (index i : ℕ) (v : Value) → i ≢ index
    → (i ≢ index + 1) ⊎ (is_long v ≡ false) → (i + 1 ≢ index) ⊎ (holds_long (local_at locals i) ≡ false)
    → local_at (stored locals index v) i ≡ local_at locals i
