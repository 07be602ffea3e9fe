-- At the end of the code, the bits of the goals are true exactly where the run violates them.
use Rattle.cf_thin.specs.Instr.{Places}
use Rattle.std.proofs.Common.{◌≡◌, ◌↔◌, ℕ, ℤ, Bool, true, false, List, length, Option, Some, None, refl, sym, ap, ◌∙◌}
use Rattle.std.proofs.Common.{subst}
use Rattle.std.proofs.lemmas.Option.{some_pair_parts}
use Rattle.jv_base.specs.declared.method.Kind.{Kind}
use Rattle.jv_base.specs.declared.method.Kind.TheVariants.{Null, Zero, Bounds, NegSize, Store, Cast, StrIndex, Assert}
use Rattle.cf_thin.specs.declared.shape.Limits.{Limits}
use Rattle.cf_thin.specs.ThinCode.{Shapes, MeetsRules}
use Rattle.cf_thin.specs.Laws.{GoForward}
use Rattle.jb_run.specs.declared.formula.Formula.{Formula}
use Rattle.jb_run.specs.declared.gates.Bit.{Bit}
use Rattle.jb_run.specs.declared.int_bits.IntBits.{IntBits}
use Rattle.jb_run.specs.declared.encoder.Encoder.{Encoder}
use Rattle.jb_run.specs.declared.encoding.Encoding.{Encoding}
use Rattle.jb_run.specs.Clauses.{clauses_of}
use Rattle.jb_run.specs.Satisfies.{bit_value, Satisfies, IsBitBelow, AreClausesBelow}
use Rattle.jb_run.specs.Encoder.{Came, Nothing, Here, Thrown, pending_at, raised_at, IsSo, HasInputs, HasCome}
use Rattle.jb_run.specs.Encoder.{IsEncoded}
use Rattle.jb_run.specs.Shown.{ShowInts}
use Rattle.jb_run.specs.Represents.{goal_bit, AreGoals, Represents}
use Rattle.jb_run.specs.declared.machine.State.{State}
use Rattle.jb_run.specs.declared.machine.Outcome.TheVariants.{Stuck}
use Rattle.jb_run.specs.Machine.{step, after, start}
use Rattle.jb_run.specs.Violates.{RunViolates, NeverStuck}
use Rattle.jb_run.proofs.MachineLemmas.{Stops, stops_once, raised_is, ended_is}
use Rattle.jb_run.proofs.ShownIntLemmas.{ints_shown, ints_agree}
use Rattle.jb_run.proofs.ShapeLemmas.{shape_within}
use Rattle.jv_list.proofs.TestLemmas.{false_iff}

some_null : (pc at : ℕ) (kind : Kind) → ◌≡◌ {A = Option (ℕ × Kind)} (Some (pc, Null)) (Some (at, kind))
    → (pc ≡ at) × (Null ≡ kind)
some_null pc at kind same = some_pair_parts pc at Null kind same

-- what a run violates that threw null at a pc
thrown_is : (code : Places) (ints : List ℤ) (pc : ℕ) → RunViolates code ints pc Null → (at : ℕ) (kind : Kind)
    → (◌≡◌ {A = Option (ℕ × Kind)} (Some (pc, Null)) (Some (at, kind))) ↔ RunViolates code ints at kind
thrown_is code ints pc violates at kind =
    let is = raised_is code ints violates.steps violates.state Null violates.reached violates.raised at kind in
    subst (λ (p : ℕ). (◌≡◌ {A = Option (ℕ × Kind)} (Some (p, Null)) (Some (at, kind))) ↔ RunViolates code ints at kind)
    violates.place is

-- the goals other than null are false, and no run violates them
thrown_other : (code : Places) (ints : List ℤ) (pc : ℕ) → RunViolates code ints pc Null → (at : ℕ) (kind : Kind)
    → (Null ≡ kind → ⊥) → (false ≡ true) ↔ RunViolates code ints at kind
thrown_other code ints pc violates at kind ne = (
  λ wrong. absurd cc,
  λ other. absurd (ne (some_null pc at kind ((thrown_is code ints pc violates at kind).1 other)).1),
)

thrown_goals : (code : Places) (ints : List ℤ) (a : ℕ → Bool) (encoding : Encoding) (pc : ℕ)
    → RunViolates code ints pc Null → ((at : ℕ) → (bit_value a (raised_at encoding.raised at) ≡ true) ↔ (at ≡ pc))
    → AreGoals code encoding a ints
thrown_goals code ints a encoding pc violates is at Null = (
  λ on. (thrown_is code ints pc violates at Null).0 (ap (λ (p : ℕ). Some (p, Null)) (sym ((is at).0 on))),
  λ other. (is at).1 (sym (some_null pc at Null ((thrown_is code ints pc violates at Null).1 other)).0),
)
thrown_goals code ints a encoding pc violates is at Zero = thrown_other code ints pc violates at Zero (λ e. cc)
thrown_goals code ints a encoding pc violates is at Bounds = thrown_other code ints pc violates at Bounds (λ e. cc)
thrown_goals code ints a encoding pc violates is at NegSize = thrown_other code ints pc violates at NegSize (λ e. cc)
thrown_goals code ints a encoding pc violates is at Store = thrown_other code ints pc violates at Store (λ e. cc)
thrown_goals code ints a encoding pc violates is at Cast = thrown_other code ints pc violates at Cast (λ e. cc)
thrown_goals code ints a encoding pc violates is at StrIndex = thrown_other code ints pc violates at StrIndex (λ e. cc)
thrown_goals code ints a encoding pc violates is at Assert = thrown_other code ints pc violates at Assert (λ e. cc)

-- a run that ended violates nothing
quiet_is : (code : Places) (ints : List ℤ) → HasCome code ints Nothing → (at : ℕ) (kind : Kind)
    → RunViolates code ints at kind → ⊥
quiet_is code ints has at kind violates =
    let ends = has.3 in
    let never =
    (ended_is code ints has.0 has.1 has.2 (record { stops = λ next goes. absurd cc }) (λ k raises. cc) at kind).1
    violates in
    cc

ended_goals : (code : Places) (ints : List ℤ) (a : ℕ → Bool) (encoding : Encoding) → HasCome code ints Nothing
    → ((at : ℕ) → bit_value a (raised_at encoding.raised at) ≡ false) → AreGoals code encoding a ints
ended_goals code ints a encoding has quiet at Null = false_iff _ _ (quiet at) (quiet_is code ints has at Null)
ended_goals code ints a encoding has quiet at Zero = false_iff false _ refl (quiet_is code ints has at Zero)
ended_goals code ints a encoding has quiet at Bounds = false_iff false _ refl (quiet_is code ints has at Bounds)
ended_goals code ints a encoding has quiet at NegSize = false_iff false _ refl (quiet_is code ints has at NegSize)
ended_goals code ints a encoding has quiet at Store = false_iff false _ refl (quiet_is code ints has at Store)
ended_goals code ints a encoding has quiet at Cast = false_iff false _ refl (quiet_is code ints has at Cast)
ended_goals code ints a encoding has quiet at StrIndex = false_iff false _ refl (quiet_is code ints has at StrIndex)
ended_goals code ints a encoding has quiet at Assert = false_iff false _ refl (quiet_is code ints has at Assert)

-- a run is at no state when all of the code is encoded
nowhere : GoForward → (code : Places) (limits : Limits) (shapes : Shapes) (first : Formula) (inputs : List IntBits)
    (encoder : Encoder) → MeetsRules code limits shapes → IsEncoded code shapes first inputs (length code) encoder
    → (pc : ℕ) → pending_at encoder.pending.items pc ≡ None
nowhere forward code limits shapes first inputs encoder rules encoded pc =
    elim (pending_at encoder.pending.items pc) as (λ o. pending_at encoder.pending.items pc ≡ o
    → pending_at encoder.pending.items pc ≡ None) [
      | None ↦ λ none. none
      | Some frame ↦ λ found.
          let waits = encoded.formed.frames pc frame found in
          encoded.done pc (shape_within forward code limits shapes rules pc waits.0 waits.1)
    ] refl

so_goals : GoForward → (code : Places) (limits : Limits) (shapes : Shapes) (first : Formula) (inputs : List IntBits)
    (encoder : Encoder) (encoding : Encoding) → MeetsRules code limits shapes
    → IsEncoded code shapes first inputs (length code) encoder → encoding.raised ≡ encoder.raised.items
    → (a : ℕ → Bool) (ints : List ℤ) (came : Came) → IsSo a encoder came → HasCome code ints came
    → AreGoals code encoding a ints
so_goals forward code limits shapes first inputs encoder encoding rules encoded same a ints Nothing so has =
    ended_goals code ints a encoding has (λ at. ap (λ (r : List Bit). bit_value a (raised_at r at)) same ∙ so.1 at)
so_goals forward code limits shapes first inputs encoder encoding rules encoded same a ints (Thrown pc) so has =
    thrown_goals code ints a encoding pc has (subst (λ (r : List Bit). (at : ℕ)
    → (bit_value a (raised_at r at) ≡ true) ↔ (at ≡ pc)) (sym same) so.1)
so_goals forward code limits shapes first inputs encoder encoding rules encoded same a ints (Here state) so has =
    let none = nowhere forward code limits shapes first inputs encoder rules encoded state.pc in
    let found = so.0.found in
    absurd cc

-- a run that stops where it is not stuck is stuck nowhere
stops_well : (code : Places) (ints : List ℤ) (n : ℕ) (to : State) → after code n (start ints) ≡ Some to →
    Stops code to → (step code to ≡ Stuck → ⊥) → NeverStuck code ints
stops_well code ints n to reached stops moves steps state at stuck =
    let same : to ≡ state = stops_once code n steps (start ints) to state reached stops at
    (record { stops = λ next goes. absurd cc }) in
    moves (ap (step code) same ∙ stuck)

-- what a run has come to at the end of the code is no state where it is stuck
never_stuck_so : GoForward → (code : Places) (limits : Limits) (shapes : Shapes) (first : Formula)
    (inputs : List IntBits) (encoder : Encoder) → MeetsRules code limits shapes →
    IsEncoded code shapes first inputs (length code) encoder → (a : ℕ → Bool) (ints : List ℤ) (came : Came) →
    IsSo a encoder came → HasCome code ints came → NeverStuck code ints
never_stuck_so forward code limits shapes first inputs encoder rules encoded a ints Nothing so has =
    let ends = has.3 in
    stops_well code ints has.0 has.1 has.2 (record { stops = λ next goes. absurd cc }) (λ stuck. cc)
never_stuck_so forward code limits shapes first inputs encoder rules encoded a ints (Thrown pc) so has =
    let raises = has.raised in
    stops_well code ints has.steps has.state has.reached (record { stops = λ next goes. absurd cc }) (λ stuck. cc)
never_stuck_so forward code limits shapes first inputs encoder rules encoded a ints (Here state) so has =
    let none = nowhere forward code limits shapes first inputs encoder rules encoded state.pc in
    let found = so.0.found in
    absurd cc

goal_below : (n : ℕ) (raised : List Bit) → ((pc : ℕ) → IsBitBelow n (raised_at raised pc)) → (pc : ℕ) (kind : Kind)
    → IsBitBelow n (goal_bit raised pc kind)
goal_below n raised below pc Null = below pc
goal_below n raised below pc Zero = tt
goal_below n raised below pc Bounds = tt
goal_below n raised below pc NegSize = tt
goal_below n raised below pc Store = tt
goal_below n raised below pc Cast = tt
goal_below n raised below pc StrIndex = tt
goal_below n raised below pc Assert = tt

-- the whole code is encoded
pub represents : GoForward → (code : Places) (limits : Limits) (shapes : Shapes) (params : ℕ) (first : Formula)
    (encoder : Encoder) (encoding : Encoding) → MeetsRules code limits shapes → HasInputs params first encoding.inputs
    → IsEncoded code shapes first encoding.inputs (length code) encoder → encoding.formula ≡ encoder.formula
    → encoding.raised ≡ encoder.raised.items → Represents code params encoding
represents forward code limits shapes params first encoder encoding rules inputs encoded formula raised =
    let goals : (a : ℕ → Bool) → Satisfies a encoding.formula → (ints : List ℤ) → ShowInts a encoding.inputs ints
    → AreGoals code encoding a ints =
    λ a holds ints shows.
    let run = encoded.runs a (subst (Satisfies a) formula holds) ints shows in
    so_goals forward code limits shapes first encoding.inputs encoder encoding rules encoded raised a ints run.0 run.1
    run.2 in
    record {
      number = inputs.number;
      clauses = subst (λ (f : Formula). AreClausesBelow f.variables (clauses_of f))
          (sym formula) encoded.formed.clauses;
      goals = goal_below encoding.formula.variables encoding.raised
          (λ pc. subst (λ (f : Formula). IsBitBelow f.variables (raised_at encoding.raised pc)) (sym formula)
          (subst (λ (r : List Bit). IsBitBelow encoder.formula.variables (raised_at r pc)) (sym raised)
          (encoded.formed.raised pc)));
      has = λ ints number fit.
          let a = inputs.has ints number fit in
          let b = encoded.extends.extends a.0 a.1 in
          let holds : Satisfies b.0 encoding.formula = subst (Satisfies b.0) (sym formula) b.1.satisfies in
          let shows = ints_agree first.variables a.0 b.0 encoding.inputs ints b.1.agrees inputs.within a.2 in
          (b.0, holds, shows, goals b.0 holds ints shows);
      goes_on = λ ints number fit.
          let a = inputs.has ints number fit in
          let b = encoded.extends.extends a.0 a.1 in
          let shows = ints_agree first.variables a.0 b.0 encoding.inputs ints b.1.agrees inputs.within a.2 in
          let run = encoded.runs b.0 b.1.satisfies ints shows in
          never_stuck_so forward code limits shapes first encoding.inputs encoder rules encoded b.0 ints
          run.0 run.1 run.2;
      shows = λ a holds.
          let ints = ints_shown a encoding.inputs in
          (ints.0, ints.1, goals a holds ints.0 ints.1);
    }
