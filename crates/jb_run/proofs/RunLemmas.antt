-- The frames that wait show the machine's run, from one instruction to the next and to the end.
use Rattle.std.proofs.Common.{◌≡◌, ◌≢◌, ◌+◌, inl, inr, ℕ, suc, ℤ, Bool, true, false, List, length, Option, Some, None}
use Rattle.std.proofs.Common.{refl, sym, ap, ◌∙◌, subst, arith, length-set}
use Rattle.std.proofs.lemmas.Bool.{cases_eq}
use Rattle.std.proofs.lemmas.Option.{some_pair_parts}
use Rattle.jv_base.specs.declared.method.Kind.{Kind}
use Rattle.cf_thin.specs.declared.instr.ThinInstr.{ThinInstr}
use Rattle.cf_thin.specs.declared.shape.Limits.{Limits}
use Rattle.cf_thin.specs.declared.shape.Shape.{Shape}
use Rattle.cf_thin.specs.Instr.{target_of, Places, instr_at}
use Rattle.cf_thin.specs.Laws.{GoesForward}
use Rattle.cf_thin.specs.ThinCode.{falls_through, Steps, Shapes, IsLed, MeetsRules}
use Rattle.jb_run.specs.declared.formula.Formula.{Formula}
use Rattle.jb_run.specs.declared.gates.Bit.{Bit}
use Rattle.jb_run.specs.declared.int_bits.IntBits.{IntBits}
use Rattle.jb_run.specs.declared.frame.Frame.{Frame}
use Rattle.jb_run.specs.declared.encoder.Encoder.{Encoder}
use Rattle.jb_run.specs.declared.machine.State.{State}
use Rattle.jb_run.specs.declared.machine.Outcome.TheVariants.{Next, Raised, Ended, Stuck}
use Rattle.jb_run.specs.Machine.{step_of, after, start}
use Rattle.jb_run.specs.Clauses.{clauses_of}
use Rattle.jb_run.specs.Satisfies.{bit_value, Satisfies, IsBitBelow, AreClausesBelow}
use Rattle.jb_run.specs.Gate.{Extends}
use Rattle.jb_run.specs.Encoder.{Came, Nothing, Here, Thrown, came_of, pending_at, raised_at, guard_of, NoneWaits}
use Rattle.jb_run.specs.Encoder.{Waits, NoneThrown, IsThrown, IsSo, IsFormed, Goes, IsReady, IsTaken, Executes, HasCome}
use Rattle.jb_run.specs.Encoder.{IsEncoded}
use Rattle.jb_run.specs.Shown.{ShowsFrame, IsFrameOf}
use Rattle.jb_run.proofs.DefinitionLemmas.{extends_then}
use Rattle.jb_run.proofs.MachineLemmas.{step_some, after_more}
use Rattle.jb_run.proofs.StuckLemmas.{never_stuck}
use Rattle.jb_run.proofs.RaiseLemmas.{raises_null}
use Rattle.jb_run.proofs.PendingLemmas.{put_here, put_elsewhere}

taken_here : (old new : Encoder) (pc : ℕ) → IsTaken old new pc → pending_at new.pending.items pc ≡ None
taken_here old new pc taken = ap (λ (p : List (Option Frame)). pending_at p pc) taken.pending
    ∙ put_here old.pending.items pc None taken.within

taken_elsewhere : (old new : Encoder) (pc at : ℕ) → IsTaken old new pc → at ≢ pc
    → pending_at new.pending.items at ≡ pending_at old.pending.items at
taken_elsewhere old new pc at taken ne = ap (λ (p : List (Option Frame)). pending_at p at) taken.pending
    ∙ put_elsewhere old.pending.items pc at None ne

-- what waits after a frame was taken waited before
taken_waits : (old new : Encoder) (pc at : ℕ) (frame : Frame) → IsTaken old new pc
    → pending_at new.pending.items at ≡ Some frame → pending_at old.pending.items at ≡ Some frame
taken_waits old new pc at frame taken found =
    elim (cases_eq at pc) [
      | inl same ↦ let wrong : None ≡ Some frame = sym (taken_here old new pc taken)
          ∙ ap (pending_at new.pending.items) (sym same) ∙ found in absurd cc
      | inr ne ↦ sym (taken_elsewhere old new pc at taken ne) ∙ found
    ]

taken_formed : (shapes : Shapes) (old new : Encoder) (pc : ℕ) → IsTaken old new pc → IsFormed shapes old
    → IsFormed shapes new
taken_formed shapes old new pc taken formed =
    let long : length new.pending.items ≡ length old.pending.items =
    ap (λ (p : List (Option Frame)). length p) taken.pending ∙ length-set old.pending.items pc None in
    record {
      clauses = subst (λ (f : Formula). AreClausesBelow f.variables (clauses_of f)) (sym taken.formula) formed.clauses;
      within = λ at shape is. omega (arith, long, formed.within at shape is);
      same = ap (λ (r : List Bit). length r) taken.raised ∙ formed.same ∙ sym long;
      frames = λ at frame found. subst (λ (f : Formula). (shape : Shape) × (shapes at ≡ Some shape)
          × IsFrameOf f.variables shape frame) (sym taken.formula)
          (formed.frames at frame (taken_waits old new pc at frame taken found));
      raised = λ at. subst (λ (f : Formula). IsBitBelow f.variables (raised_at new.raised.items at)) (sym taken.formula)
          (subst (λ (r : List Bit). IsBitBelow old.formula.variables (raised_at r at)) (sym taken.raised)
          (formed.raised at));
    }

-- the guards that were false are false after a frame was taken whose guard is false, too
taken_none : (a : ℕ → Bool) (old new : Encoder) (pc : ℕ) → IsTaken old new pc
    → ((at : ℕ) → at ≢ pc → guard_of a (pending_at old.pending.items at) ≡ false) → NoneWaits a new.pending.items
taken_none a old new pc taken alone at =
    elim (cases_eq at pc) [
      | inl same ↦ ap (guard_of a) (ap (pending_at new.pending.items) same ∙ taken_here old new pc taken)
      | inr ne ↦ ap (guard_of a) (taken_elsewhere old new pc at taken ne) ∙ alone at ne
    ]

taken_waits_on : (a : ℕ → Bool) (old new : Encoder) (pc : ℕ) (state : State) → IsTaken old new pc → state.pc ≢ pc
    → Waits a old.pending.items state → Waits a new.pending.items state
taken_waits_on a old new pc state taken ne waits = record {
  frame = waits.frame;
  found = taken_elsewhere old new pc state.pc taken ne ∙ waits.found;
  guard = waits.guard;
  shows = waits.shows;
  alone = λ at other.
      elim (cases_eq at pc) [
        | inl same ↦ ap (guard_of a) (ap (pending_at new.pending.items) same ∙ taken_here old new pc taken)
        | inr differs ↦ ap (guard_of a) (taken_elsewhere old new pc at taken differs) ∙ waits.alone at other
      ];
}

none_thrown_taken : (a : ℕ → Bool) (old new : Encoder) (pc : ℕ) → IsTaken old new pc → NoneThrown a old.raised.items
    → NoneThrown a new.raised.items
none_thrown_taken a old new pc taken none = subst (NoneThrown a) (sym taken.raised) none

-- what a run comes to by one step
stepped : (code : Places) (ints : List ℤ) (state : State) (steps : ℕ) (instr : ThinInstr) (next : ℕ)
    → after code steps (start ints) ≡ Some state → instr_at code state.pc ≡ Some (instr, next)
    → (step_of instr next state ≡ Stuck → ⊥) → HasCome code ints (came_of state.pc (step_of instr next state))
stepped code ints state steps instr next at is moves =
    elim (step_of instr next state) as (λ o. step_of instr next state ≡ o → HasCome code ints (came_of state.pc o)) [
      | Next new ↦
          λ goes. (
            suc steps,
            after_more code steps (start ints) state new at (step_some code state instr next is
                ∙ goes),
          )
      | Raised kind ↦ λ raises.
          let null = raises_null instr next state kind raises in
          record {
            steps = steps;
            state = state;
            reached = at;
            place = refl;
            raised = step_some code state instr next is ∙ raises ∙ ap (λ (k : Kind). Raised k) null;
          }
      | Ended ↦ λ ends. (steps, state, at, step_some code state instr next is ∙ ends)
      | Stuck ↦ λ stuck. absurd (moves stuck)
    ] refl

-- the run goes on where the instruction is encoded
pub runs_on : (code : Places) (limits : Limits) (shapes : Shapes) (old taken new : Encoder) (pc : ℕ) (frame : Frame)
    (instr : ThinInstr) (next : ℕ) (a : ℕ → Bool) (ints : List ℤ) (came : Came) → IsTaken old taken pc
    → pending_at old.pending.items pc ≡ Some frame → instr_at code pc ≡ Some (instr, next)
    → IsReady limits shapes taken pc frame instr next
    → Goes shapes taken new (pc + 1) frame (λ b state. came_of pc (step_of instr next state)) → Satisfies a new.formula
    → IsSo a old came → HasCome code ints came → (now : Came) × IsSo a new now × HasCome code ints now
runs_on code limits shapes old taken new pc frame instr next a ints Nothing is found at ready goes holds so has =
    let off : bit_value a frame.guard ≡ false = sym (ap (guard_of a) found) ∙ so.0 pc in (
      Nothing,
      goes.keeps a holds off Nothing (
        taken_none a old taken pc is (λ at ne. so.0 at),
        none_thrown_taken a old taken pc is so.1,
      ),
      has,
    )
runs_on code limits shapes old taken new pc frame instr next a ints (Thrown place) is found at ready goes holds so has =
    let off : bit_value a frame.guard ≡ false = sym (ap (guard_of a) found) ∙ so.0 pc in (
      Thrown place,
      goes.keeps a holds off (Thrown place) (
        taken_none a old taken pc is (λ at ne. so.0 at),
        subst (λ (r : List Bit). IsThrown a r place) (sym is.raised) so.1,
      ),
      has,
    )
runs_on code limits shapes old taken new pc frame instr next a ints (Here state) is found at ready goes holds so has =
    elim (cases_eq state.pc pc) [
      | inl same ↦
          let frames : Some so.0.frame ≡ Some frame = sym so.0.found ∙ ap (pending_at old.pending.items) same ∙ found in
          let frame_is : so.0.frame ≡ frame = cc in
          let on : bit_value a frame.guard ≡ true = ap (λ (f : Frame). bit_value a f.guard) (sym frame_is)
          ∙ so.0.guard in
          let shows : ShowsFrame a frame state = subst (λ (f : Frame). ShowsFrame a f state) frame_is so.0.shows in
          let none : NoneWaits a taken.pending.items =
          taken_none a old taken pc is (λ other ne. so.0.alone other (λ e. ne (e ∙ same))) in
          let now : IsSo a new (came_of pc (step_of instr next state)) =
          goes.goes a holds on (none, none_thrown_taken a old taken pc is so.1) state shows in
          let moves : step_of instr next state ≡ Stuck → ⊥ =
          never_stuck limits shapes taken pc frame instr next a state ready shows in
          let come : HasCome code ints (came_of state.pc (step_of instr next state)) =
          stepped code ints state has.0 instr next has.1 (ap (instr_at code) same ∙ at) moves in (
            came_of pc (step_of instr next state),
            now,
            subst (λ (p : ℕ). HasCome code ints (came_of p (step_of instr next state))) same come,
          )
      | inr ne ↦
          let off : bit_value a frame.guard ≡ false = sym (ap (guard_of a) found) ∙ so.0.alone pc (λ e. ne (sym e)) in (
            Here state,
            goes.keeps a holds off (Here state) (
              taken_waits_on a old taken pc state is ne so.0,
              none_thrown_taken a old taken pc is so.1,
            ),
            has,
          )
    ]

-- an instruction with a shape is ready when the frame that waits for it was taken
pub is_ready : (code : Places) (limits : Limits) (shapes : Shapes) (first : Formula) (inputs : List IntBits)
    (old taken : Encoder) (pc : ℕ) (frame : Frame) (instr : ThinInstr) (next : ℕ) → MeetsRules code limits shapes
    → IsEncoded code shapes first inputs pc old → IsTaken old taken pc → pending_at old.pending.items pc ≡ Some frame
    → instr_at code pc ≡ Some (instr, next) → GoesForward code pc instr next
    → IsReady limits shapes taken pc frame instr next
is_ready code limits shapes first inputs old taken pc frame instr next rules encoded is found at goes =
    let waits = encoded.formed.frames pc frame found in
    let flows = rules.flows pc waits.0 waits.1 in
    let parts = some_pair_parts flows.instr instr flows.next next (sym flows.is ∙ at) in
    record {
      shape = waits.0;
      has = record {
        formed = taken_formed shapes old taken pc is encoded.formed;
        frame_is = subst (λ (f : Formula). IsFrameOf f.variables waits.0 frame) (sym is.formula) waits.2;
      };
      within = omega (
        arith,
        is.within,
        ap (λ (p : List (Option Frame)). length p) is.pending,
        length-set old.pending.items pc None,
      );
      quiet = ap (λ (r : List Bit). raised_at r pc) is.raised ∙ encoded.quiet pc (omega arith);
      after = flows.after;
      steps = subst (λ (i : ThinInstr). Steps limits i waits.0 flows.after) parts.0 flows.steps;
      falls = λ falls. subst (λ (n : ℕ). IsLed shapes flows.after n) parts.1
          (flows.falls (ap falls_through parts.0 ∙ falls));
      jumps = λ target to. flows.jumps target (ap target_of parts.0 ∙ to);
      falls_on = goes.ends;
      jumps_on = goes.jumps;
    }

-- an instruction was encoded, for which a frame waited
pub encoded_some : (code : Places) (limits : Limits) (shapes : Shapes) (first : Formula) (inputs : List IntBits)
    (old taken new : Encoder) (pc : ℕ) (frame : Frame) (instr : ThinInstr) (next : ℕ) → MeetsRules code limits shapes
    → IsEncoded code shapes first inputs pc old → IsTaken old taken pc → pending_at old.pending.items pc ≡ Some frame
    → instr_at code pc ≡ Some (instr, next) → GoesForward code pc instr next → Executes taken new pc frame instr next
    → IsEncoded code shapes first inputs (pc + 1) new
encoded_some code limits shapes first inputs old taken new pc frame instr next rules encoded is found at forward
    executes =
    let ready = is_ready code limits shapes first inputs old taken pc frame instr next rules encoded is found at forward
    in
    let goes = executes limits shapes ready in
    let grown : Extends old.formula new.formula = subst (λ (f : Formula). Extends f new.formula) is.formula goes.extends
    in
    record {
      formed = goes.formed;
      extends = extends_then first old.formula new.formula encoded.extends grown;
      done = λ place under.
          goes.pending place under
          ∙ elim (cases_eq place pc) [
            | inl same ↦ ap (pending_at taken.pending.items) same ∙ taken_here old taken pc is
            | inr ne ↦ taken_elsewhere old taken pc place is ne ∙ encoded.done place (omega (arith, ne))
          ];
      quiet = λ place above. goes.raised place above ∙ ap (λ (r : List Bit). raised_at r place) is.raised
          ∙ encoded.quiet place (omega arith);
      runs = λ a holds ints shows.
          let before = encoded.runs a (grown.keeps a holds) ints shows in
          runs_on code limits shapes old taken new pc frame instr next a ints before.0 is found at ready goes holds
          before.1 before.2;
    }

-- nothing waited at a pc
pub encoded_none : (code : Places) (shapes : Shapes) (first : Formula) (inputs : List IntBits) (encoder : Encoder)
    (pc : ℕ) → IsEncoded code shapes first inputs pc encoder → pending_at encoder.pending.items pc ≡ None
    → IsEncoded code shapes first inputs (pc + 1) encoder
encoded_none code shapes first inputs encoder pc encoded none = record {
  formed = encoded.formed;
  extends = encoded.extends;
  done = λ place under.
      elim (cases_eq place pc) [
        | inl same ↦ ap (pending_at encoder.pending.items) same ∙ none
        | inr ne ↦ encoded.done place (omega (arith, ne))
      ];
  quiet = λ place above. encoded.quiet place (omega arith);
  runs = encoded.runs;
}

-- an instruction stands where a frame waits
pub never_missing : (code : Places) (limits : Limits) (shapes : Shapes) (first : Formula) (inputs : List IntBits)
    (encoder : Encoder) (pc : ℕ) (frame : Frame) → MeetsRules code limits shapes
    → IsEncoded code shapes first inputs pc encoder → pending_at encoder.pending.items pc ≡ Some frame
    → instr_at code pc ≡ None → ⊥
never_missing code limits shapes first inputs encoder pc frame rules encoded found none =
    let waits = encoded.formed.frames pc frame found in
    let flows = rules.flows pc waits.0 waits.1 in
    let is = flows.is in
    cc
