-- Which inputs a thin method has, and what a run of one of them violates.
use Rattle.cf_thin.specs.Instr.{Places}
use Rattle.std.specs.Prelude.{◌≡◌, ◌≤◌, ℕ, ℤ, Bool, List, length, map, Some, All, FitsSigned}
use Rattle.std.specs.Int.{w32}
use Rattle.jv_base.specs.declared.input.Input.{Input}
use Rattle.jv_base.specs.declared.method.Bounds.{Bounds}
use Rattle.jv_base.specs.declared.method.Kind.{Kind}
use Rattle.jv_base.specs.declared.method.MethodId.{MethodId}
use Rattle.cf_thin.specs.Thin.{int_descriptor}
use Rattle.jb_run.specs.declared.machine.State.{State}
use Rattle.jb_run.specs.declared.machine.Outcome.TheVariants.{Raised, Stuck}
use Rattle.jb_run.specs.Machine.{step, after, start}
use Rattle.jb_run.specs.Inputs.{int_of}

-- the arguments of an input are these ints
abbrev pub HasInts : Input → List ℤ → Type 0
HasInts input ints = map int_of input.args ≡ map Some ints

-- an input of a method whose parameters are ints: an int of 32 bits for each of them (2.3.1, 4.3.3)
pub record IsInput (method : MethodId) (input : Input) : Type 0 where
  pub ints : List ℤ
  pub args : HasInts input ints
  pub fit : All (FitsSigned w32) ints
  pub gives_int : Bool
  pub descriptor : method.desc ≡ int_descriptor (length ints) gives_int

-- the run of these ints violates a kind at a pc: it comes to that pc, and the step there raises the kind
pub record RunViolates (code : Places) (ints : List ℤ) (pc : ℕ) (kind : Kind) : Type 0 where
  pub steps : ℕ
  pub state : State
  pub reached : after code steps (start ints) ≡ Some state
  pub place : state.pc ≡ pc
  pub raised : step code state ≡ Raised kind

-- the bounds have room for each run of a thin method: it has one frame, and no transfer of it goes back, so no counter rises
abbrev pub HaveRoom : Bounds → Type 0
HaveRoom bounds = 1 ≤ bounds.frames

-- the run of an input violates a kind at a pc of the code, while within the bounds
pub record Violates (bounds : Bounds) (code : Places) (input : Input) (pc : ℕ) (kind : Kind) : Type 0 where
  pub within : HaveRoom bounds
  pub ints : List ℤ
  pub args : HasInts input ints
  pub run : RunViolates code ints pc kind

-- no run of these ints comes to a state where it is stuck
abbrev pub NeverStuck : Places → List ℤ → Type 0
NeverStuck code ints =
    (steps : ℕ) (state : State) → after code steps (start ints) ≡ Some state → step code state ≡ Stuck → ⊥

-- no run of an input of the method is stuck
abbrev pub RunsGoOn : Places → MethodId → Type 0
RunsGoOn code method = (input : Input) → (is : IsInput method input) → NeverStuck code is.ints
