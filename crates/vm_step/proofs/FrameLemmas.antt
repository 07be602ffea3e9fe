-- Frames whose running one is known.
use Rattle.std.proofs.Common.{◌≡◌, ◌⊎◌, inl, inr, ℕ, ◌+◌, ◌-◌, ◌<◌, ◌≤◌, List, [], ◌∷◌, ◌++◌, length, take, map}
use Rattle.std.proofs.Common.{Option, Some, get_or, set, refl, sym, ap, subst, ◌∙◌, length-append, arith}
use Rattle.std.specs.Prelude.{option_to_list}
use Rattle.std.proofs.Math.Seq.{take-append_seam, set-append_seam, get_or-append_seam}
use Rattle.std.proofs.lemmas.List.{set-append_left, get_or_append_left}
use Rattle.jv_list.proofs.LengthLemmas.{one_less}
use Rattle.jv_list.proofs.PlaceLemmas.{slice_get-push_last}
use Rattle.jv_list.proofs.CutLemmas.{last_of}
use Rattle.vm_world.specs.declared.frame.Frame.{Frame}
use Rattle.vm_step.specs.Frames.{running, below, with_running}

-- no frame, or a running one above others
pub split_running : (frames : List Frame)
    → (frames ≡ []) ⊎ ((others : List Frame) × (frame : Frame) × (frames ≡ others ++ frame ∷ []))
split_running [] = inl refl
split_running (x ∷ xs) = inr (last_of x xs)

pub below_push : (others : List Frame) (frame : Frame) → below (others ++ frame ∷ []) ≡ others
below_push others frame =
    ap (λ (n : ℕ). take n (others ++ frame ∷ [])) (one_less others frame) ∙ take-append_seam others (frame ∷ [])

pub running_push : (others : List Frame) (frame : Frame) → running (others ++ frame ∷ []) ≡ Some frame
running_push others frame =
    slice_get-push_last others frame (length (others ++ frame ∷ []) - 1) (one_less others frame)

pub with_running_push : (change : Frame → Frame) (others : List Frame) (frame : Frame)
    → with_running change (others ++ frame ∷ []) ≡ others ++ change frame ∷ []
with_running_push change others frame =
    ap (λ (l : List Frame). l ++ map change (option_to_list (running (others ++ frame ∷ []))))
    (below_push others frame)
    ∙ ap (λ (o : Option Frame). others ++ map change (option_to_list o)) (running_push others frame)

module _ (change : Frame → Frame) (i : ℕ) (x y : Frame) (changes : y ≡ change x) where
  set_last : (others : List Frame) (frame : Frame) → i ≡ length others → x ≡ get_or (others ++ frame ∷ []) i x
      → set (others ++ frame ∷ []) i y ≡ with_running change (others ++ frame ∷ [])
  set_last others frame place is =
      let same : x ≡ frame =
      is ∙ ap (λ (n : ℕ). get_or (others ++ frame ∷ []) n x) place ∙ get_or-append_seam others frame [] x in
      ap (λ (n : ℕ). set (others ++ frame ∷ []) n y) place ∙ set-append_seam others frame [] y
      ∙ ap (λ (z : Frame). others ++ z ∷ []) (changes ∙ ap change same)
      ∙ sym (with_running_push change others frame)

  -- the running frame is written
  pub set_running : (frames : List Frame) → 0 < length frames → i ≡ length frames - 1 → x ≡ get_or frames i x
      → set frames i y ≡ with_running change frames
  set_running frames some place is = elim (split_running frames) [
    | inl none ↦ let empty : length frames ≡ 0 = ap length none in absurd (omega arith)
    | inr parts ↦
        subst (λ (l : List Frame). i ≡ length l - 1 → x ≡ get_or l i x → set l i y ≡ with_running change l)
        (sym parts.2) (λ p e. set_last parts.0 parts.1 (p ∙ one_less parts.0 parts.1) e) place is
  ]

  -- the frame below the running one is written
  pub set_under : (frames : List Frame) (frame : Frame) → 0 < length frames → i ≡ length frames - 1
      → x ≡ get_or (frames ++ frame ∷ []) i x
      → set (frames ++ frame ∷ []) i y ≡ with_running change frames ++ frame ∷ []
  set_under frames frame some place is =
      let within : i < length frames = omega arith in
      set-append_left frames (frame ∷ []) i y within
      ∙ ap (λ (l : List Frame). l ++ frame ∷ [])
      (set_running frames some place (is ∙ get_or_append_left frames (frame ∷ []) x i within))

  -- and then the running one is taken off
  pub set_caller : (frames : List Frame) → 2 ≤ length frames → i ≡ length frames - 2 → x ≡ get_or frames i x
      → below (set frames i y) ≡ with_running change (below frames)
  set_caller frames some place is = elim (split_running frames) [
    | inl none ↦ let empty : length frames ≡ 0 = ap length none in absurd (omega arith)
    | inr parts ↦
        let size : length frames ≡ length parts.0 + 1 = ap length parts.2 ∙ length-append parts.0 (parts.1 ∷ []) in
        let written =
        set_under parts.0 parts.1 (omega arith) (omega arith)
        (is ∙ ap (λ (l : List Frame). get_or l i x) parts.2) in
        ap (λ (l : List Frame). below (set l i y)) parts.2 ∙ ap below written
        ∙ below_push (with_running change parts.0) parts.1
        ∙ ap (λ (l : List Frame). with_running change l) (sym (below_push parts.0 parts.1))
        ∙ ap (λ (l : List Frame). with_running change (below l)) (sym parts.2)
  ]
