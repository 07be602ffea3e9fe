-- The frame that waits at a pc, when the list of those that wait is changed at one place.
use Rattle.std.proofs.Common.{◌≡◌, ◌≢◌, ◌<◌, ◌≤◌, inl, inr, ℕ, List, length, Option, None, sym, ap, ◌∙◌}
use Rattle.std.proofs.Common.{get_or-set_same, get_or-set_other}
use Rattle.std.specs.Prelude.{slice_set, slice_index_or, option_and_then}
use Rattle.std.proofs.lemmas.Bool.{cases_lt}
use Rattle.std.proofs.lemmas.List.{get_or_past}
use Rattle.std.proofs.lemmas.Option.{slice_get_past, slice_get-get_or}
use Rattle.jb_run.specs.declared.frame.Frame.{Frame}
use Rattle.jb_run.specs.Encoder.{pending_at}

-- what waits is the entry of the list, and nothing past its end
pub pending_is : (pending : List (Option Frame)) (pc : ℕ) → pending_at pending pc ≡ slice_index_or pending pc None
pending_is pending pc =
    elim (cases_lt pc (length pending)) [
      | inl within ↦
          ap (λ (o : Option (Option Frame)). option_and_then (λ f. f) o) (slice_get-get_or pending pc None within)
      | inr past ↦ ap (λ (o : Option (Option Frame)). option_and_then (λ f. f) o) (slice_get_past pending pc past) ∙ sym
          (get_or_past pending pc None past)
    ]

pub put_here : (pending : List (Option Frame)) (pc : ℕ) (frame : Option Frame) → pc < length pending
    → pending_at (slice_set pending pc frame) pc ≡ frame
put_here pending pc frame within = pending_is (slice_set pending pc frame) pc
    ∙ get_or-set_same pending pc frame None within

pub put_elsewhere : (pending : List (Option Frame)) (pc other : ℕ) (frame : Option Frame) → other ≢ pc
    → pending_at (slice_set pending pc frame) other ≡ pending_at pending other
put_elsewhere pending pc other frame ne = pending_is (slice_set pending pc frame) other
    ∙ get_or-set_other pending pc other frame None ne ∙ sym (pending_is pending other)

pub put_past : (pending : List (Option Frame)) (pc : ℕ) → length pending ≤ pc → pending_at pending pc ≡ None
put_past pending pc past =
    ap (λ (o : Option (Option Frame)). option_and_then (λ f. f) o) (slice_get_past pending pc past)
