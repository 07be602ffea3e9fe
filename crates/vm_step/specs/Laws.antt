-- What holds of the definitions.
use Rattle.std.specs.Prelude.{◌≡◌, ℕ, ◌+◌, ◌≤◌, Bool, true, false, List, [], ◌∷◌, ◌++◌, length, Option, Some, None, All}
use Rattle.jv_base.specs.declared.method.MethodId.{MethodId}
use Rattle.jv_base.specs.declared.value.Desc.{Desc}
use Rattle.jv_base.specs.declared.value.Value.{Value}
use Rattle.cf_code.specs.declared.transfer.Row.{Row}
use Rattle.cf_code.specs.declared.word.Returned.{Returned}
use Rattle.vm_world.specs.declared.frame.Frame.{Frame}
use Rattle.vm_world.specs.declared.state.State.{State}
use Rattle.vm_step.specs.declared.went.FramesWent.TheVariants.{Next}
use Rattle.vm_step.specs.Frames.{below, gone_on}
use Rattle.vm_step.specs.Handlers.{handler_at, Catches, IsFirstHandler}
use Rattle.vm_step.specs.Returns.{return_step}
use Rattle.vm_step.specs.Throws.{thrown, raised}
use Rattle.vm_step.specs.Invocations.{call_step}

-- ---- how many frames there are

-- a call makes one more, within the bound
abbrev pub CallsMakeOneMore : Type 0
CallsMakeOneMore = (method : MethodId) (receiver : Bool) (desc : Desc) (bound : ℕ) (state : State)
    → (call_step method receiver desc bound state).0 ≡ Next
    → (length (call_step method receiver desc bound state).1.frames ≡ length state.frames + 1)
    × (length state.frames + 1 ≤ bound)

-- nothing else makes more
abbrev pub ReturnsMakeNoMore : Type 0
ReturnsMakeNoMore = (returned : Returned) (desc : Desc) (behind : Option ℕ) (state : State)
    → length (return_step returned desc behind state).1.frames ≤ length state.frames

abbrev pub ThrowsMakeNoMore : Type 0
ThrowsMakeNoMore = (handler : Option ℕ) (number : ℕ) (state : State)
    → length (thrown handler number state).frames ≤ length state.frames

abbrev pub RaisesMakeNoMore : Type 0
RaisesMakeNoMore = (class : List ℕ) (handler : Option ℕ) (state : State)
    → length (raised class handler state).frames ≤ length state.frames

abbrev pub GoingOnMakesNoMore : Type 0
GoingOnMakesNoMore = (pc count : ℕ) (value : Option Value) (state : State)
    → length (gone_on pc count value state).frames ≤ length state.frames

-- ---- handlers

-- a handler that was found is that of the first row that catches the exception
abbrev pub FirstIsFound : Type 0
FirstIsFound = (rows : List Row) (pc : ℕ) (suiting : List ℕ) (handler : ℕ) → handler_at rows pc suiting ≡ Some handler
    → IsFirstHandler rows pc suiting handler

-- where none was found, no row catches it
abbrev pub NoneCatches : Type 0
NoneCatches = (rows : List Row) (pc : ℕ) (suiting : List ℕ) → handler_at rows pc suiting ≡ None
    → All (λ row. Catches pc suiting row → ⊥) rows

-- ---- what is kept

-- frames are others, as they were, and above them one that has the method and the locals that it had
pub record KeepsOthers (others : List Frame) (frame : Frame) (frames : List Frame) : Type 0 where
  pub now : Frame
  pub are : frames ≡ others ++ now ∷ []
  pub method : now.method ≡ frame.method
  pub locals : now.locals ≡ frame.locals
  pub initialises : now.initialises ≡ frame.initialises

-- a call leaves the frames below the caller as they were, and the caller at its call
pub record WaitsAtCall (others : List Frame) (caller : Frame) (frames : List Frame) : Type 0 where
  pub kept : KeepsOthers others caller (below frames)
  pub waits : kept.now.pc ≡ caller.pc

abbrev pub CallsKeepOthers : Type 0
CallsKeepOthers = (method : MethodId) (receiver : Bool) (desc : Desc) (bound : ℕ) (state : State)
    → (others : List Frame) (caller : Frame) → state.frames ≡ others ++ caller ∷ []
    → (call_step method receiver desc bound state).0 ≡ Next
    → WaitsAtCall others caller (call_step method receiver desc bound state).1.frames

-- a return leaves the frames below the caller as they were
abbrev pub ReturnsKeepOthers : Type 0
ReturnsKeepOthers = (returned : Returned) (desc : Desc) (behind : Option ℕ) (state : State)
    → (others : List Frame) (caller frame : Frame) → state.frames ≡ others ++ caller ∷ frame ∷ []
    → (return_step returned desc behind state).0 ≡ Next
    → KeepsOthers others caller (return_step returned desc behind state).1.frames

-- a return from an initialiser leaves the caller as it was too
abbrev pub InitialisersKeepAll : Type 0
InitialisersKeepAll = (returned : Returned) (desc : Desc) (behind : Option ℕ) (state : State)
    → (others : List Frame) (frame : Frame) → state.frames ≡ others ++ frame ∷ [] → frame.initialises ≡ true
    → (return_step returned desc behind state).0 ≡ Next
    → (return_step returned desc behind state).1.frames ≡ others

-- a frame that enters a handler keeps its locals, and the frames below it are as they were
abbrev pub HandlersKeepOthers : Type 0
HandlersKeepOthers = (handler number : ℕ) (state : State) (others : List Frame) (frame : Frame)
    → state.frames ≡ others ++ frame ∷ [] → KeepsOthers others frame (thrown (Some handler) number state).frames

-- a frame that goes on keeps its locals, and the frames below it are as they were
abbrev pub GoingOnKeepsOthers : Type 0
GoingOnKeepsOthers = (pc count : ℕ) (value : Option Value) (state : State) (others : List Frame) (frame : Frame)
    → state.frames ≡ others ++ frame ∷ [] → KeepsOthers others frame (gone_on pc count value state).frames

-- a frame that is dropped leaves those below it as they were
abbrev pub DropsKeepOthers : Type 0
DropsKeepOthers = (number : ℕ) (state : State) (others : List Frame) (frame : Frame)
    → state.frames ≡ others ++ frame ∷ [] → frame.initialises ≡ false → (thrown None number state).frames ≡ others

-- an exception that leaves an initialiser leaves no frame
abbrev pub InitialisersEnd : Type 0
InitialisersEnd = (number : ℕ) (state : State) (others : List Frame) (frame : Frame)
    → state.frames ≡ others ++ frame ∷ [] → frame.initialises ≡ true → (thrown None number state).frames ≡ []
