-- What waits after a frame came to a pc.
use Rattle.std.proofs.Common.{zero, suc, ◌≡◌, ◌<◌, ◌≤◌, ℕ, Bool, true, false, ◌||◌, List, [], ◌∷◌, length, Option, Some}
use Rattle.std.proofs.Common.{None, inl, inr, refl, sym, ap, ◌∙◌, subst, arith, slice_set, get_or}
use Rattle.std.specs.Prelude.{slice_get, option_and_then}
use Rattle.std.proofs.lemmas.List.{length-set}
use Rattle.std.proofs.lemmas.Bool.{cases_eq}
use Rattle.std.proofs.lemmas.Option.{slice_get_read}
use Rattle.cf_thin.specs.declared.shape.OperandType as kind
use Rattle.cf_thin.specs.declared.shape.Shape.{Shape}
use Rattle.cf_thin.specs.ThinCode.{IsKnownLess, IsWeaker, Shapes}
use Rattle.jb_run.specs.declared.formula.Formula.{Formula}
use Rattle.jb_run.specs.declared.frame.Frame.{Frame}
use Rattle.jb_run.specs.declared.gates.Bit.{Bit}
use Rattle.jb_run.specs.declared.encoder.Encoder.{Encoder}
use Rattle.jb_run.specs.declared.machine.State.{State}
use Rattle.jb_run.specs.Clauses.{clauses_of}
use Rattle.jb_run.specs.Satisfies.{bit_value, Satisfies, IsBitBelow, AreClausesBelow}
use Rattle.jb_run.specs.Gate.{Extends}
use Rattle.jb_run.specs.Shown.{ShowsFrame, AreOfKinds, IsFrameOf}
use Rattle.jb_run.specs.Encoder.{Came, Nothing, Here, Thrown, Waits, NoneThrown, IsThrown, IsSo, IsFormed, Goes}
use Rattle.jb_run.specs.Encoder.{HasFrame, Meets, Arrives, guard_of, pending_at, raised_at}
use Rattle.jb_run.proofs.DefinitionLemmas.{bit_below_more, extends_refl}
use Rattle.jb_run.proofs.GrowthLemmas.{frame_later}
use Rattle.jb_run.proofs.PendingLemmas.{put_here, put_elsewhere}
use Rattle.std.proofs.lemmas.List.{set-set}

-- the frame of a shape is one of a weaker shape
known_less : (weaker shape : List Bool) → IsKnownLess weaker shape → (k : ℕ) → slice_get weaker k ≡ Some true
    → slice_get shape k ≡ Some true
known_less [] [] less k is = is
known_less [] (y ∷ ys) less k is = absurd less
known_less (x ∷ xs) [] less k is = absurd less
known_less (x ∷ xs) (y ∷ ys) less zero is =
    elim less.0 [ inl same ↦ ap (λ (b : Bool). Some b) (sym same) ∙ is | inr unknown ↦ absurd (cc) ]
known_less (x ∷ xs) (y ∷ ys) less (suc k) is = known_less xs ys less.1 k is

pub frame_weaker : (n : ℕ) (weaker shape : Shape) (frame : Frame) → IsWeaker weaker shape → IsFrameOf n shape frame
    → IsFrameOf n weaker frame
frame_weaker n weaker shape frame less is = record {
  guard = is.guard;
  known = λ k at. is.known k (known_less weaker.locals shape.locals less.locals k at);
  locals = is.locals;
  stack = subst (λ (kinds : List kind.OperandType). AreOfKinds n kinds frame.stack) (sym less.stack) is.stack;
}

-- a frame met the one that waits, if any: where its guard is true the met frame shows it, and else what waited
pub record HasMet (shape : Shape) (old new : Formula) (frame : Frame) (earlier : Option Frame)
    (met : Frame) : Type 0 where
  pub extends : Extends old new
  pub frame_is : IsFrameOf new.variables shape met
  pub guard_off : (a : ℕ → Bool) → Satisfies a new → bit_value a frame.guard ≡ false
      → bit_value a met.guard ≡ guard_of a earlier
  pub guard_on : (a : ℕ → Bool) → Satisfies a new → bit_value a frame.guard ≡ true → bit_value a met.guard ≡ true
  pub shows_frame : (a : ℕ → Bool) → Satisfies a new → bit_value a frame.guard ≡ true → (state : State)
      → ShowsFrame a frame state → ShowsFrame a met state
  pub shows_earlier : (a : ℕ → Bool) → Satisfies a new → bit_value a frame.guard ≡ false → (before : Frame)
      → earlier ≡ Some before → (state : State) → ShowsFrame a before state → ShowsFrame a met state

met_none : (shape : Shape) (formula : Formula) (frame : Frame) → AreClausesBelow formula.variables (clauses_of formula)
    → IsFrameOf formula.variables shape frame → HasMet shape formula formula frame None frame
met_none shape formula frame named is = record {
  extends = extends_refl formula named;
  frame_is = is;
  guard_off = λ a holds off. off;
  guard_on = λ a holds on. on;
  shows_frame = λ a holds on state shows. shows;
  shows_earlier = λ a holds off before found state shows. absurd (cc);
}

pub met_is : (shape : Shape) (old new : Formula) (frame : Frame) (earlier : Option Frame) (met : Frame)
    → AreClausesBelow old.variables (clauses_of old) → IsFrameOf old.variables shape frame
    → ((before : Frame) → earlier ≡ Some before → IsFrameOf old.variables shape before)
    → Meets old new frame earlier met → HasMet shape old new frame earlier met
met_is shape old new frame None met named is was meets =
    let here : HasMet shape old new frame None frame =
    subst (λ (f : Formula). HasMet shape old f frame None frame) (sym meets.0) (met_none shape old frame named is)
    in
    subst (HasMet shape old new frame None) (sym meets.1) here
met_is shape old new frame (Some earlier) met named is was meets =
    let merged = meets shape named is (was earlier refl) in
    record {
      extends = merged.extends;
      frame_is = merged.frame_is;
      guard_off = λ a holds off. merged.guard a holds ∙ ap (λ (b : Bool). b || bit_value a earlier.guard) off;
      guard_on = λ a holds on. merged.guard a holds ∙ ap (λ (b : Bool). b || bit_value a earlier.guard) on;
      shows_frame = merged.shows_first;
      shows_earlier = λ a holds off before found state shows.
          let same : before ≡ earlier = cc in
          merged.shows_second a holds off state (subst (λ (f : Frame). ShowsFrame a f state) same shows);
    }

-- the frame that waits at a pc met the one that came
pub record Puts (old new : Encoder) (pc : ℕ) (frame met : Frame) : Type 0 where
  pub pending : new.pending.items ≡ slice_set old.pending.items pc (Some met)
  pub raised : new.raised.items ≡ old.raised.items
  pub meets : Meets old.formula new.formula frame (pending_at old.pending.items pc) met

-- the same, as far as the rest needs it
record IsPut (shapes : Shapes) (shape : Shape) (old new : Encoder) (pc : ℕ) (frame met : Frame) : Type 0 where
  pub formed : IsFormed shapes old
  pub shape_is : shapes pc ≡ Some shape
  pub here : pending_at new.pending.items pc ≡ Some met
  pub other : (at : ℕ) → (at ≡ pc → ⊥) → pending_at new.pending.items at ≡ pending_at old.pending.items at
  pub number : length new.pending.items ≡ length old.pending.items
  pub raised : new.raised.items ≡ old.raised.items
  pub meets : HasMet shape old.formula new.formula frame (pending_at old.pending.items pc) met

put_is : (shapes : Shapes) (shape : Shape) (old new : Encoder) (pc : ℕ) (frame met : Frame) → Puts old new pc frame met
    → HasFrame shapes old shape frame → shapes pc ≡ Some shape → IsPut shapes shape old new pc frame met
put_is shapes shape old new pc frame met puts has shape_is =
    let inside : pc < length old.pending.items = has.formed.within pc shape shape_is in
    let was : (before : Frame) → pending_at old.pending.items pc ≡ Some before
    → IsFrameOf old.formula.variables shape before = λ before found.
    let f = has.formed.frames pc before found in
    let same : f.0 ≡ shape = cc (f.1, shape_is) in
    subst (λ (s : Shape). IsFrameOf old.formula.variables s before) same f.2 in
    record {
      formed = has.formed;
      shape_is = shape_is;
      here = ap (λ (p : List (Option Frame)). pending_at p pc) puts.pending
          ∙ put_here old.pending.items pc (Some met) inside;
      other = λ at ne. ap (λ (p : List (Option Frame)). pending_at p at) puts.pending
          ∙ put_elsewhere old.pending.items pc at (Some met) ne;
      number = ap (λ (p : List (Option Frame)). length p) puts.pending ∙ length-set old.pending.items pc (Some met);
      raised = puts.raised;
      meets = met_is shape old.formula new.formula frame
          (pending_at old.pending.items pc) met has.formed.clauses has.frame_is was puts.meets;
    }

put_frames : (shapes : Shapes) (shape : Shape) (old new : Encoder) (pc : ℕ) (frame met : Frame)
    → IsPut shapes shape old new pc frame met → (at : ℕ) (waits : Frame) → pending_at new.pending.items at ≡ Some waits
    → (own : Shape) × (shapes at ≡ Some own) × IsFrameOf new.formula.variables own waits
put_frames shapes shape old new pc frame met put at waits found =
    elim (cases_eq at pc) [
      | inl same ↦
          let is : met ≡ waits = cc (put.here, ap (λ (n : ℕ). pending_at new.pending.items n) same, found) in
          (shape, ap shapes same ∙ put.shape_is, subst (IsFrameOf new.formula.variables shape) is put.meets.frame_is)
      | inr ne ↦
          let f = put.formed.frames at waits (sym (put.other at ne) ∙ found) in
          (f.0, f.1, frame_later old.formula.variables new.formula.variables f.0 waits put.meets.extends.grows f.2)
    ]

put_formed : (shapes : Shapes) (shape : Shape) (old new : Encoder) (pc : ℕ) (frame met : Frame)
    → IsPut shapes shape old new pc frame met → IsFormed shapes new
put_formed shapes shape old new pc frame met put = record {
  clauses = put.meets.extends.named;
  within = λ at own is. let inside = put.formed.within at own is in omega (arith, put.number, inside);
  same = ap (λ (r : List Bit). length r) put.raised ∙ put.formed.same ∙ sym put.number;
  frames = put_frames shapes shape old new pc frame met put;
  raised = λ at. subst (λ (r : List Bit). IsBitBelow new.formula.variables (raised_at r at)) (sym put.raised)
      (bit_below_more old.formula.variables new.formula.variables
      (raised_at old.raised.items at) put.meets.extends.grows (put.formed.raised at));
}

-- where the guard of the frame that came is false, each guard is as it was
guards_same : (shapes : Shapes) (shape : Shape) (old new : Encoder) (pc : ℕ) (frame met : Frame)
    → IsPut shapes shape old new pc frame met → (a : ℕ → Bool) → Satisfies a new.formula
    → bit_value a frame.guard ≡ false → (at : ℕ) → guard_of a (pending_at new.pending.items at) ≡ guard_of a
    (pending_at old.pending.items at)
guards_same shapes shape old new pc frame met put a holds off at =
    elim (cases_eq at pc) [
      | inl same ↦
          ap (λ (n : ℕ). guard_of a (pending_at new.pending.items n)) same
          ∙ ap (guard_of a) put.here
          ∙ put.meets.guard_off a holds off
          ∙ sym (ap (λ (n : ℕ). guard_of a (pending_at old.pending.items n)) same)
      | inr ne ↦ ap (guard_of a) (put.other at ne)
    ]

-- and what waited at the run's pc is still shown
waits_same : (shapes : Shapes) (shape : Shape) (old new : Encoder) (pc : ℕ) (frame met : Frame)
    → IsPut shapes shape old new pc frame met → (a : ℕ → Bool) → Satisfies a new.formula
    → bit_value a frame.guard ≡ false → (state : State) → Waits a old.pending.items state
    → Waits a new.pending.items state
waits_same shapes shape old new pc frame met put a holds off state waits =
    let guards = guards_same shapes shape old new pc frame met put a holds off in
    let alone : (at : ℕ) → (at ≡ state.pc → ⊥) → guard_of a (pending_at new.pending.items at) ≡ false =
    λ at ne. guards at ∙ waits.alone at ne in
    elim (cases_eq state.pc pc) [
      | inl same ↦
          let was : pending_at old.pending.items pc ≡ Some waits.frame = sym (ap (pending_at old.pending.items) same)
          ∙ waits.found in
          record {
            frame = met;
            found = ap (pending_at new.pending.items) same ∙ put.here;
            guard = put.meets.guard_off a holds off ∙ ap (guard_of a) was ∙ waits.guard;
            shows = put.meets.shows_earlier a holds off waits.frame was state waits.shows;
            alone = alone;
          }
      | inr ne ↦ record {
        frame = waits.frame;
        found = put.other state.pc ne ∙ waits.found;
        guard = waits.guard;
        shows = waits.shows;
        alone = alone;
      }
    ]

none_thrown : (a : ℕ → Bool) (old new : Encoder) → new.raised.items ≡ old.raised.items → NoneThrown a old.raised.items
    → NoneThrown a new.raised.items
none_thrown a old new raised thrown = subst (NoneThrown a) (sym raised) thrown

put_keeps : (shapes : Shapes) (shape : Shape) (old new : Encoder) (pc : ℕ) (frame met : Frame)
    → IsPut shapes shape old new pc frame met → (a : ℕ → Bool) → Satisfies a new.formula
    → bit_value a frame.guard ≡ false → (came : Came) → IsSo a old came → IsSo a new came
put_keeps shapes shape old new pc frame met put a holds off Nothing so = (
  λ at. guards_same shapes shape old new pc frame met put a holds off at ∙ so.0 at,
  none_thrown a old new put.raised so.1,
)
put_keeps shapes shape old new pc frame met put a holds off (Here state) so = (
  waits_same shapes shape old new pc frame met put a holds off state so.0,
  none_thrown a old new put.raised so.1,
)
put_keeps shapes shape old new pc frame met put a holds off (Thrown thrown) so = (
  λ at. guards_same shapes shape old new pc frame met put a holds off at ∙ so.0 at,
  subst (λ (r : List Bit). IsThrown a r thrown) (sym put.raised) so.1,
)

put_goes : (shapes : Shapes) (shape : Shape) (old new : Encoder) (pc : ℕ) (frame met : Frame)
    → IsPut shapes shape old new pc frame met → (a : ℕ → Bool) → Satisfies a new.formula
    → bit_value a frame.guard ≡ true → IsSo a old Nothing → (state : State) → ShowsFrame a frame state
    → IsSo a new (Here (record state { pc = pc }))
put_goes shapes shape old new pc frame met put a holds on so state shows =
    let shown : ShowsFrame a met state = put.meets.shows_frame a holds on state shows in (
      record {
        frame = met;
        found = put.here;
        guard = put.meets.guard_on a holds on;
        shows = record { locals = shown.locals; stack = shown.stack };
        alone = λ at ne. ap (guard_of a) (put.other at ne) ∙ so.0 at;
      },
      none_thrown a old new put.raised so.1,
    )

put_went : (shapes : Shapes) (shape : Shape) (old new : Encoder) (pc : ℕ) (frame met : Frame) (low : ℕ)
    → IsPut shapes shape old new pc frame met → low ≤ pc
    → Goes shapes old new low frame (λ a state. Here (record state { pc = pc }))
put_went shapes shape old new pc frame met low put above = record {
  extends = put.meets.extends;
  formed = put_formed shapes shape old new pc frame met put;
  pending = λ at under. put.other at (λ same. omega (arith, same));
  raised = λ at over. ap (λ (r : List Bit). raised_at r at) put.raised;
  keeps = put_keeps shapes shape old new pc frame met put;
  goes = put_goes shapes shape old new pc frame met put;
}

-- a frame came to a pc
arrives : (old new : Encoder) (pc : ℕ) (frame met : Frame) → Puts old new pc frame met → Arrives old new pc frame
arrives old new pc frame met puts shapes shape low has led above =
    let has_weaker : HasFrame shapes old led.0 frame =
    record {
      formed = has.formed;
      frame_is = frame_weaker old.formula.variables led.0 shape frame led.2 has.frame_is;
    } in
    put_went shapes led.0 old new pc frame met low
    (put_is shapes led.0 old new pc frame met puts has_weaker led.1) above

-- the one that waits is taken first, and then the met one is set
pub arrives_taken : (old new : Encoder) (pc at n : ℕ) (frame met : Frame) (earlier slot left : Option Frame) → at ≡ pc
    → n ≡ length old.pending.items → at < n → earlier ≡ slot → slot ≡ get_or old.pending.items at slot
    → new.pending.items ≡ slice_set (slice_set old.pending.items at left) at (Some met)
    → new.raised.items ≡ old.raised.items → Meets old.formula new.formula frame earlier met → Arrives old new pc frame
arrives_taken old new pc at n frame met earlier slot left at_is number inside taken read pending raised meets =
    let slot_is : slice_get old.pending.items at ≡ Some slot =
    slice_get_read old.pending.items n at slot number inside read in
    let earlier_is : earlier ≡ pending_at old.pending.items pc =
    taken ∙ sym (ap (option_and_then (λ (f : Option Frame). f)) slot_is) ∙ ap (pending_at old.pending.items) at_is
    in
    arrives old new pc frame met (record {
      pending = pending ∙ set-set old.pending.items at left (Some met)
          ∙ ap (λ (i : ℕ). slice_set old.pending.items i (Some met)) at_is;
      raised = raised;
      meets = subst (λ (o : Option Frame). Meets old.formula new.formula frame o met) earlier_is meets;
    })
