-- How many frames there are after a step.
use Rattle.std.proofs.Common.{◌≡◌, inl, inr, ℕ, ◌+◌, ◌-◌, ◌≤◌, Bool, true, false, List, [], ◌∷◌, length}
use Rattle.std.proofs.Common.{Option, Some, None, if◌then◌else◌, refl, sym, ap, subst, ◌∙◌, length-append, arith}
use Rattle.std.specs.Prelude.{nat_le}
use Rattle.std.proofs.lemmas.Bool.{leb-true}
use Rattle.std.proofs.lemmas.List.{length-take-le}
use Rattle.jv_base.specs.declared.method.MethodId.{MethodId}
use Rattle.jv_base.specs.declared.value.Desc.{Desc}
use Rattle.jv_base.specs.declared.value.Value.{Value}
use Rattle.cf_code.specs.declared.word.Returned.{Returned}
use Rattle.vm_world.specs.declared.frame.Frame.{Frame}
use Rattle.vm_world.specs.declared.state.State.{State}
use Rattle.vm_world.specs.Start.{entry_frame}
use Rattle.vm_step.specs.declared.went.FramesWent.{FramesWent}
use Rattle.vm_step.specs.declared.went.FramesWent.TheVariants.{Next, Left}
use Rattle.vm_step.specs.Frames.{running, below, with_running, given, executed, gone_on}
use Rattle.vm_step.specs.Returns.{initialised, to_caller, return_given, return_from, return_step, result_given}
use Rattle.vm_step.specs.Handlers.{entered}
use Rattle.vm_step.specs.Throws.{without_frame, thrown}
use Rattle.vm_step.specs.Invocations.{taken, called, call_given, arguments_in, call_step}
use Rattle.vm_step.proofs.FrameLemmas.{split_running, with_running_push}

-- a change of the running frame keeps their count
pub same_count : (change : Frame → Frame) (frames : List Frame) → length (with_running change frames) ≡ length frames
same_count change frames = elim (split_running frames) [
  | inl none ↦ subst (λ (l : List Frame). length (with_running change l) ≡ length l) (sym none) refl
  | inr parts ↦
      subst (λ (l : List Frame). length (with_running change l) ≡ length l) (sym parts.2)
      (ap length (with_running_push change parts.0 parts.1)
      ∙ length-append parts.0 (change parts.1 ∷ []) ∙ sym (length-append parts.0 (parts.1 ∷ [])))
]

no_more_below : (frames : List Frame) → length (below frames) ≤ length frames
no_more_below frames = omega (arith, length-take-le (length frames - 1) frames (omega arith))

pub going_on_count : (pc count : ℕ) (value : Option Value) (state : State)
    → length (gone_on pc count value state).frames ≤ length state.frames
going_on_count pc count value state = omega (arith, same_count (executed pc count value) state.frames)

-- ---- returns

caller_count : (behind : Option ℕ) (value : Option Value) (caller : Option Frame) (state : State)
    → length (to_caller behind value caller state).1.frames ≤ length state.frames
caller_count behind value None state = omega arith
caller_count None value (Some caller) state = omega arith
caller_count (Some pc) value (Some caller) state =
    omega (arith, same_count (given pc value) (below state.frames), no_more_below state.frames)

-- a return that gives something, by whether the frame is an initialiser
abbrev pub by_kind : Option ℕ → Frame → Option Value → State → Bool → FramesWent × State
by_kind behind frame value state b =
    if b then initialised frame state else to_caller behind value (running (below state.frames)) state

given_count : (behind : Option ℕ) (frame : Frame) (o : Option (Option Value)) (state : State)
    → length (return_given behind frame o state).1.frames ≤ length state.frames
given_count behind frame None state = omega arith
given_count behind frame (Some value) state = by_case frame.initialises
  where
    by_case : (b : Bool)
        → length (by_kind behind frame value state b).1.frames ≤ length state.frames
    by_case true = no_more_below state.frames
    by_case false = caller_count behind value (running (below state.frames)) state

from_count : (returned : Returned) (desc : Desc) (behind : Option ℕ) (frame : Option Frame) (state : State)
    → length (return_from returned desc behind frame state).1.frames ≤ length state.frames
from_count returned desc behind None state = omega arith
from_count returned desc behind (Some frame) state =
    given_count behind frame (result_given returned desc.result frame.stack) state

pub return_count : (returned : Returned) (desc : Desc) (behind : Option ℕ) (state : State)
    → length (return_step returned desc behind state).1.frames ≤ length state.frames
return_count returned desc behind state = from_count returned desc behind (running state.frames) state

-- ---- exceptions

dropped_count : (frame : Option Frame) (frames : List Frame) → length (without_frame frame frames) ≤ length frames
dropped_count None frames = omega arith
dropped_count (Some frame) frames = by_case frame.initialises
  where
    by_case : (b : Bool) → length (if b then [] else below frames) ≤ length frames
    by_case true = omega arith
    by_case false = no_more_below frames

pub throw_count : (handler : Option ℕ) (number : ℕ) (state : State)
    → length (thrown handler number state).frames ≤ length state.frames
throw_count (Some handler) number state = omega (arith, same_count (entered handler number) state.frames)
throw_count None number state = dropped_count (running state.frames) state.frames

-- ---- calls

-- a call with its arguments, by whether it is within the bound
abbrev pub within_bound : MethodId → List Value → State → Bool → FramesWent × State
within_bound method args state b =
    if b then (Next, record state { frames = called method args state.frames }) else (Left, state)

call_within : (method : MethodId) (bound : ℕ) (args : List Value) (state : State) (b : Bool)
    → nat_le (length state.frames + 1) bound ≡ b
    → (within_bound method args state b).0 ≡ Next
    → (length (within_bound method args state b).1.frames ≡ length state.frames + 1)
    × (length state.frames + 1 ≤ bound)
call_within method bound args state true within next = (
  length-append (with_running (taken (length args)) state.frames) (entry_frame method args ∷ [])
      ∙ ap (λ (n : ℕ). n + 1) (same_count (taken (length args)) state.frames),
  leb-true (length state.frames + 1) bound within,
)
call_within method bound args state false within next = absurd cc

given_within : (method : MethodId) (bound : ℕ) (args : Option (List Value)) (state : State)
    → (call_given method bound args state).0 ≡ Next
    → (length (call_given method bound args state).1.frames ≡ length state.frames + 1)
    × (length state.frames + 1 ≤ bound)
given_within method bound None state next = absurd cc
given_within method bound (Some args) state next =
    call_within method bound args state (nat_le (length state.frames + 1) bound) refl next

pub call_count : (method : MethodId) (receiver : Bool) (desc : Desc) (bound : ℕ) (state : State)
    → (call_step method receiver desc bound state).0 ≡ Next
    → (length (call_step method receiver desc bound state).1.frames ≡ length state.frames + 1)
    × (length state.frames + 1 ≤ bound)
call_count method receiver desc bound state next =
    given_within method bound (arguments_in receiver desc (running state.frames)) state next
