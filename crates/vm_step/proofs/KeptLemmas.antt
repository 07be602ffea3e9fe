-- What frames are kept by a step.
use Rattle.std.proofs.Common.{◌≡◌, ℕ, ◌+◌, Bool, true, false, List, [], ◌∷◌, ◌++◌, length}
use Rattle.std.proofs.Common.{Option, Some, None, if◌then◌else◌, refl, sym, ap, subst, ◌∙◌, append_assoc}
use Rattle.std.specs.Prelude.{nat_le}
use Rattle.jv_base.specs.declared.method.MethodId.{MethodId}
use Rattle.jv_base.specs.declared.value.Desc.{Desc}
use Rattle.jv_base.specs.declared.value.Value.{Value}
use Rattle.cf_code.specs.declared.word.Returned.{Returned}
use Rattle.vm_world.specs.declared.frame.Frame.{Frame}
use Rattle.vm_world.specs.declared.state.State.{State}
use Rattle.vm_world.specs.Start.{entry_frame}
use Rattle.vm_step.specs.declared.went.FramesWent.TheVariants.{Next}
use Rattle.vm_step.specs.Frames.{running, below, with_running, given, executed, gone_on}
use Rattle.vm_step.specs.Returns.{to_caller, return_given, return_from, return_step, result_given}
use Rattle.vm_step.specs.Handlers.{entered}
use Rattle.vm_step.specs.Throws.{without_frame, thrown}
use Rattle.vm_step.specs.Invocations.{taken, called, call_given, arguments_in, call_step}
use Rattle.vm_step.specs.Laws.{KeepsOthers, WaitsAtCall}
use Rattle.vm_step.proofs.CountLemmas.{within_bound, by_kind}
use Rattle.vm_step.proofs.FrameLemmas.{below_push, running_push, with_running_push}

-- frames of which the running one has another pc or stack
changed : (change : Frame → Frame) (others : List Frame) (frame : Frame) (frames : List Frame)
    → frames ≡ others ++ frame ∷ [] → (change frame).method ≡ frame.method → (change frame).locals ≡ frame.locals
    → (change frame).initialises ≡ frame.initialises → KeepsOthers others frame (with_running change frames)
changed change others frame frames are method locals initialises = record {
  now = change frame;
  are = ap (λ (l : List Frame). with_running change l) are ∙ with_running_push change others frame;
  method = method;
  locals = locals;
  initialises = initialises;
}

module _ (behind : Option ℕ) (state : State) (others : List Frame) (caller frame : Frame) where
  caller_kept : (under : below state.frames ≡ others ++ caller ∷ []) (value : Option Value) (o : Option Frame)
      → o ≡ Some caller → (to_caller behind value o state).0 ≡ Next
      → KeepsOthers others caller (to_caller behind value o state).1.frames
  caller_kept under value None is next = absurd cc
  caller_kept under value (Some other) is next = by_pc behind next
    where
      by_pc : (b : Option ℕ) → (to_caller b value (Some other) state).0 ≡ Next
          → KeepsOthers others caller (to_caller b value (Some other) state).1.frames
      by_pc None h = absurd cc
      by_pc (Some pc) h = changed (given pc value) others caller (below state.frames) under refl refl refl

  given_kept : (under : below state.frames ≡ others ++ caller ∷ []) (o : Option (Option Value))
      → (return_given behind frame o state).0 ≡ Next
      → KeepsOthers others caller (return_given behind frame o state).1.frames
  given_kept under None next = absurd cc
  given_kept under (Some value) next = by_case frame.initialises next
    where
      by_case : (b : Bool)
          → (by_kind behind frame value state b).0 ≡ Next
          → KeepsOthers others caller (by_kind behind frame value state b).1.frames
      by_case true h = record { now = caller; are = under; method = refl; locals = refl; initialises = refl }
      by_case false h =
          caller_kept under value (running (below state.frames)) (ap running under ∙ running_push others caller) h

  pub return_kept : (returned : Returned) (desc : Desc) → state.frames ≡ others ++ caller ∷ frame ∷ []
      → (return_step returned desc behind state).0 ≡ Next
      → KeepsOthers others caller (return_step returned desc behind state).1.frames
  return_kept returned desc are =
      let all : state.frames ≡ (others ++ caller ∷ []) ++ frame ∷ [] =
      are ∙ sym (append_assoc others (caller ∷ []) (frame ∷ [])) in
      let top : running state.frames ≡ Some frame = ap running all ∙ running_push (others ++ caller ∷ []) frame in
      subst
      (λ (o : Option Frame). (return_from returned desc behind o state).0 ≡ Next
      → KeepsOthers others caller (return_from returned desc behind o state).1.frames) (sym top)
      (given_kept (ap below all ∙ below_push (others ++ caller ∷ []) frame)
      (result_given returned desc.result frame.stack))

module _ (state : State) (others : List Frame) (frame : Frame) (are : state.frames ≡ others ++ frame ∷ []) where
  is_running : running state.frames ≡ Some frame
  is_running = ap running are ∙ running_push others frame

  initialiser_given : (behind : Option ℕ) (o : Option (Option Value)) → frame.initialises ≡ true
      → (return_given behind frame o state).0 ≡ Next → (return_given behind frame o state).1.frames ≡ others
  initialiser_given behind None is next = absurd cc
  initialiser_given behind (Some value) is next = by_case frame.initialises is
    where
      by_case : (b : Bool) → b ≡ true
          → (by_kind behind frame value state b).1.frames ≡ others
      by_case true h = ap below are ∙ below_push others frame
      by_case false h = absurd cc

  pub initialiser_kept : (returned : Returned) (desc : Desc) (behind : Option ℕ) → frame.initialises ≡ true
      → (return_step returned desc behind state).0 ≡ Next → (return_step returned desc behind state).1.frames ≡ others
  initialiser_kept returned desc behind is =
      subst
      (λ (o : Option Frame). (return_from returned desc behind o state).0 ≡ Next
      → (return_from returned desc behind o state).1.frames ≡ others) (sym is_running)
      (initialiser_given behind (result_given returned desc.result frame.stack) is)

  pub handler_kept : (handler number : ℕ) → KeepsOthers others frame (thrown (Some handler) number state).frames
  handler_kept handler number = changed (entered handler number) others frame state.frames are refl refl refl

  pub going_on_kept : (pc count : ℕ) (value : Option Value)
      → KeepsOthers others frame (gone_on pc count value state).frames
  going_on_kept pc count value = changed (executed pc count value) others frame state.frames are refl refl refl

  dropped_is : (b : Bool) → frame.initialises ≡ b
      → without_frame (Some frame) state.frames ≡ (if b then [] else below state.frames)
  dropped_is b is = ap (λ (t : Bool). if t then [] else below state.frames) is

  pub drop_kept : (number : ℕ) → frame.initialises ≡ false → (thrown None number state).frames ≡ others
  drop_kept number is =
      ap (λ (o : Option Frame). without_frame o state.frames) is_running ∙ dropped_is false is
      ∙ ap below are ∙ below_push others frame

  pub initialiser_ends : (number : ℕ) → frame.initialises ≡ true → (thrown None number state).frames ≡ []
  initialiser_ends number is =
      ap (λ (o : Option Frame). without_frame o state.frames) is_running ∙ dropped_is true is

  -- ---- calls

  called_kept : (method : MethodId) (args : List Value) → WaitsAtCall others frame (called method args state.frames)
  called_kept method args =
      let change : Frame → Frame = taken (length args) in
      let lower : with_running change state.frames ≡ others ++ change frame ∷ [] =
      ap (λ (l : List Frame). with_running change l) are ∙ with_running_push change others frame in
      let under = below_push (with_running change state.frames) (entry_frame method args) in
      record {
        kept = record {
          now = change frame;
          are = under ∙ lower;
          method = refl;
          locals = refl;
          initialises = refl;
        };
        waits = refl;
      }

  call_given_kept : (method : MethodId) (bound : ℕ) (args : Option (List Value))
      → (call_given method bound args state).0 ≡ Next
      → WaitsAtCall others frame (call_given method bound args state).1.frames
  call_given_kept method bound None next = absurd cc
  call_given_kept method bound (Some args) next = by_case (nat_le (length state.frames + 1) bound) next
    where
      by_case : (b : Bool)
          → (within_bound method args state b).0 ≡ Next
          → WaitsAtCall others frame (within_bound method args state b).1.frames
      by_case true h = called_kept method args
      by_case false h = absurd cc

  pub call_kept : (method : MethodId) (receiver : Bool) (desc : Desc) (bound : ℕ)
      → (call_step method receiver desc bound state).0 ≡ Next
      → WaitsAtCall others frame (call_step method receiver desc bound state).1.frames
  call_kept method receiver desc bound next =
      call_given_kept method bound (arguments_in receiver desc (running state.frames)) next
