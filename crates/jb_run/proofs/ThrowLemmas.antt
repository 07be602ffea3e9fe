-- What the encoder does for athrow is what the machine does, for each state that the frame shows.
use Rattle.std.proofs.Common.{◌≡◌, ◌<◌, ◌≤◌, length, ℕ, Bool, true, false, List, Option, sym, ap, ◌∙◌, subst, arith}
use Rattle.std.proofs.Common.{inl, inr}
use Rattle.std.specs.Prelude.{slice_set}
use Rattle.std.proofs.lemmas.Bool.{cases_eq}
use Rattle.std.proofs.lemmas.List.{length-set, get_or-set_same, get_or-set_other}
use Rattle.jv_base.specs.declared.value.Value.{Value}
use Rattle.cf_thin.specs.declared.instr.ThinInstr.TheVariants as instrs
use Rattle.jb_run.specs.declared.formula.Formula.{Formula}
use Rattle.jb_run.specs.declared.gates.Bit.{Bit}
use Rattle.jb_run.specs.declared.gates.Bit.TheVariants.{Known}
use Rattle.jb_run.specs.declared.frame.Frame.{Frame}
use Rattle.jb_run.specs.declared.encoder.Encoder.{Encoder}
use Rattle.jb_run.specs.Satisfies.{bit_value, IsBitBelow, AreClausesBelow}
use Rattle.jb_run.specs.Clauses.{clauses_of}
use Rattle.jb_run.specs.Gate.{Extends}
use Rattle.jb_run.specs.Machine as machine
use Rattle.jb_run.specs.Stack.{below}
use Rattle.jb_run.specs.Shown.{IsFrameOf}
use Rattle.jb_run.specs.Encoder.{Came, Nothing, Here, Thrown, came_of, pending_at, raised_at, NoneWaits, Waits}
use Rattle.jb_run.specs.Encoder.{NoneThrown, IsThrown, IsSo, Executes}
use Rattle.jb_run.proofs.DefinitionLemmas.{extends_refl}
use Rattle.jb_run.proofs.StackLemmas.{top_null}
use Rattle.jb_run.proofs.NumberLemmas.{taken_null}
use Rattle.std.proofs.lemmas.Bool.{true≢false}

-- the bits that are raised after one was set
set_below : (n : ℕ) (raised : List Bit) (pc at : ℕ) (bit : Bit) → pc < length raised → IsBitBelow n bit
    → IsBitBelow n (raised_at raised at) → IsBitBelow n (raised_at (slice_set raised pc bit) at)
set_below n raised pc at bit within below old = elim (cases_eq at pc) [
  | inl same ↦ subst (λ (j : ℕ). IsBitBelow n (raised_at (slice_set raised pc bit) j)) (sym same)
      (subst (IsBitBelow n) (sym (get_or-set_same raised pc bit (Known false) within)) below)
  | inr other ↦ subst (IsBitBelow n) (sym (get_or-set_other raised pc at bit (Known false) other)) old
]

-- a bit that is set to one of the same value
set_value : (a : ℕ → Bool) (raised : List Bit) (pc at : ℕ) (bit : Bit) → pc < length raised
    → bit_value a bit ≡ bit_value a (raised_at raised pc)
    → bit_value a (raised_at (slice_set raised pc bit) at) ≡ bit_value a (raised_at raised at)
set_value a raised pc at bit within is = elim (cases_eq at pc) [
  | inl same ↦
      ap (λ (j : ℕ). bit_value a (raised_at (slice_set raised pc bit) j)) same
      ∙ ap (bit_value a) (get_or-set_same raised pc bit (Known false) within)
      ∙ is ∙ sym (ap (λ (j : ℕ). bit_value a (raised_at raised j)) same)
  | inr other ↦ ap (bit_value a) (get_or-set_other raised pc at bit (Known false) other)
]

-- what a run has come to is shown by the values of the bits that are raised
so_raised : (a : ℕ → Bool) (old new : Encoder) (came : Came) → new.pending.items ≡ old.pending.items
    → ((at : ℕ) → bit_value a (raised_at new.raised.items at) ≡ bit_value a (raised_at old.raised.items at))
    → IsSo a old came → IsSo a new came
so_raised a old new Nothing pending same so = (subst (NoneWaits a) (sym pending) so.0, λ at. same at ∙ so.1 at)
so_raised a old new (Here state) pending same so =
    (subst (λ (p : List (Option Frame)). Waits a p state) (sym pending) so.0, λ at. same at ∙ so.1 at)
so_raised a old new (Thrown pc) pending same so = (
  subst (NoneWaits a) (sym pending) so.0,
  λ at. (λ is. (so.1 at).0 (sym (same at) ∙ is), λ is. same at ∙ (so.1 at).1 is),
)

-- null is thrown where the bit is set, if no other is true
thrown_alone : (a : ℕ → Bool) (raised : List Bit) (pc : ℕ) (bit : Bit) → pc < length raised → bit_value a bit ≡ true
    → NoneThrown a raised → IsThrown a (slice_set raised pc bit) pc
thrown_alone a raised pc bit within on none at = elim (cases_eq at pc) [
  | inl same ↦ (
    λ is. same,
    λ is. ap (λ (j : ℕ). bit_value a (raised_at (slice_set raised pc bit) j)) same
        ∙ ap (bit_value a) (get_or-set_same raised pc bit (Known false) within) ∙ on,
  )
  | inr other ↦ (
    λ is. absurd (true≢false (sym is ∙ ap (bit_value a) (get_or-set_other raised pc at bit (Known false) other)
        ∙ none at)),
    λ is. absurd (other is),
  )
]

pub throw_goes : (old new : Encoder) (pc next : ℕ) (frame : Frame) → new.formula ≡ old.formula
    → new.pending.items ≡ old.pending.items → new.raised.items ≡ slice_set old.raised.items pc frame.guard
    → Executes old new pc frame instrs.Athrow next
throw_goes old new pc next frame formula pending raised limits shapes ready =
    let formed = ready.has.formed in
    let n = old.formula.variables in
    let within : pc < length old.raised.items = omega (arith, ready.within, formed.same) in
    let bit_at : (at : ℕ) → raised_at new.raised.items at ≡ raised_at (slice_set old.raised.items pc frame.guard) at =
    λ at. ap (λ (r : List Bit). raised_at r at) raised in
    record {
      extends = subst (λ (f : Formula). Extends old.formula f) (sym formula) (extends_refl old.formula formed.clauses);
      formed = record {
        clauses = subst (λ (f : Formula). AreClausesBelow f.variables (clauses_of f)) (sym formula) formed.clauses;
        within = λ at shape is. subst (λ (p : List (Option Frame)). at < length p) (sym pending)
            (formed.within at shape is);
        same = ap (λ (r : List Bit). length r) raised ∙ length-set old.raised.items pc frame.guard
            ∙ formed.same ∙ sym (ap (λ (p : List (Option Frame)). length p) pending);
        frames = λ at held is.
            let f = formed.frames at held (sym (ap (λ (p : List (Option Frame)). pending_at p at) pending) ∙ is) in
            (f.0, f.1, subst (λ (w : Formula). IsFrameOf w.variables f.0 held) (sym formula) f.2);
        raised = λ at. subst (λ (w : Formula). IsBitBelow w.variables (raised_at new.raised.items at)) (sym formula)
            (subst (IsBitBelow n) (sym (bit_at at))
            (set_below n old.raised.items pc at frame.guard within ready.has.frame_is.guard (formed.raised at)));
      };
      pending = λ at under. ap (λ (p : List (Option Frame)). pending_at p at) pending;
      raised = λ at above. bit_at at ∙ get_or-set_other old.raised.items pc at frame.guard (Known false)
          (λ same. omega (arith, above, same));
      keeps = λ a holds off came so.
          so_raised a old new came pending (λ at. ap (bit_value a) (bit_at at)
          ∙ set_value a old.raised.items pc at frame.guard within (off ∙ sym (ap (bit_value a) ready.quiet))) so;
      goes = λ a holds on so state here.
          let is = top_null n ready.steps.stack.0 frame.stack a state.stack
          (taken_null limits shapes old pc next frame ready) here.stack in
          subst (λ (o : Option Value). IsSo a new (came_of pc (machine.throw o))) (sym is) (
            subst (NoneWaits a) (sym pending) so.0,
            subst (λ (r : List Bit). IsThrown a r pc) (sym raised)
                (thrown_alone a old.raised.items pc frame.guard within on so.1),
          );
    }

-- a pc without room for a bit is none that an instruction is at
pub throw_past : (old new : Encoder) (pc next : ℕ) (frame : Frame) → length old.raised.items ≤ pc
    → Executes old new pc frame instrs.Athrow next
throw_past old new pc next frame past limits shapes ready =
    absurd (omega (arith, past, ready.within, ready.has.formed.same))
