-- How what the encoder did from one frame, after the formula grew, is what it did from another.
use Rattle.std.proofs.Common.{◌≡◌, ◌<◌, ◌≤◌, length, ℕ, Bool, List, [], ◌∷◌, Option, sym, ap, ◌∙◌, subst}
use Rattle.cf_thin.specs.declared.shape.OperandType as kind
use Rattle.cf_thin.specs.declared.shape.OperandType.TheVariants as kinds
use Rattle.cf_thin.specs.declared.shape.Shape.{Shape}
use Rattle.cf_thin.specs.ThinCode.{Shapes}
use Rattle.jb_run.specs.declared.frame.Operand.{Operand}
use Rattle.jb_run.specs.declared.frame.Operand.TheVariants as operand
use Rattle.jb_run.specs.declared.frame.Frame.{Frame}
use Rattle.jb_run.specs.declared.encoder.Encoder.{Encoder}
use Rattle.jb_run.specs.declared.machine.State.{State}
use Rattle.jb_run.specs.declared.int_bits.IntBits.{IntBits}
use Rattle.jb_run.specs.declared.gates.Bit.{Bit}
use Rattle.jb_run.specs.Satisfies.{bit_value, Satisfies, IsBitBelow}
use Rattle.jb_run.specs.Gate.{bit_at, Extends}
use Rattle.jb_run.specs.Encoder.{Came, Nothing, Here, Thrown, NoneWaits, Waits, NoneThrown, IsThrown, IsSo, IsFormed}
use Rattle.jb_run.specs.Encoder.{Goes, pending_at, raised_at}
use Rattle.jb_run.specs.Shown.{ShowsFrame, IsIntBelow, IsOfKind, AreOfKinds, IsFrameOf}
use Rattle.jb_run.proofs.DefinitionLemmas.{bit_below_more, extends_then}

pub word_later : (n m : ℕ) (word : IntBits) → n ≤ m → IsIntBelow n word → IsIntBelow m word
word_later n m word le below k inside = bit_below_more n m (bit_at word k) le (below k inside)

pub kind_later : (n m : ℕ) (kind : kind.OperandType) (shown : Operand) → n ≤ m → IsOfKind n kind shown
    → IsOfKind m kind shown
kind_later n m kinds.Int (operand.Int word) le is = word_later n m word le is
kind_later n m kinds.Reference operand.Null le is = tt
kind_later n m kinds.Int operand.Null le is = absurd is
kind_later n m kinds.Reference (operand.Int word) le is = absurd is

pub kinds_later : (n m : ℕ) (kinds : List kind.OperandType) (stack : List Operand) → n ≤ m → AreOfKinds n kinds stack
    → AreOfKinds m kinds stack
kinds_later n m [] [] le are = tt
kinds_later n m (k ∷ ks) (o ∷ os) le are = (kind_later n m k o le are.0, kinds_later n m ks os le are.1)
kinds_later n m [] (o ∷ os) le are = absurd are
kinds_later n m (k ∷ ks) [] le are = absurd are

-- a frame of a shape stays one when the formula has more variables
pub frame_later : (n m : ℕ) (shape : Shape) (frame : Frame) → n ≤ m → IsFrameOf n shape frame → IsFrameOf m shape frame
frame_later n m shape frame le is = record {
  guard = bit_below_more n m frame.guard le is.guard;
  known = is.known;
  locals = λ k word at. word_later n m word le (is.locals k word at);
  stack = kinds_later n m shape.stack frame.stack le is.stack;
}

-- only the formula of the encoder grew
pub record HasGrown (old new : Encoder) : Type 0 where
  pub extends : Extends old.formula new.formula
  pub pending : new.pending.items ≡ old.pending.items
  pub raised : new.raised.items ≡ old.raised.items

pub formed_grown : (shapes : Shapes) (old new : Encoder) → HasGrown old new → IsFormed shapes old → IsFormed shapes new
formed_grown shapes old new grown formed = record {
  clauses = grown.extends.named;
  within = λ pc shape is. subst (λ (p : List (Option Frame)). pc < length p) (sym grown.pending)
      (formed.within pc shape is);
  same = ap (λ (r : List Bit). length r) grown.raised
      ∙ formed.same ∙ sym (ap (λ (p : List (Option Frame)). length p) grown.pending);
  frames = λ pc frame is.
      let f = formed.frames pc frame (sym (ap (λ (p : List (Option Frame)). pending_at p pc) grown.pending) ∙ is) in
      (f.0, f.1, frame_later old.formula.variables new.formula.variables f.0 frame grown.extends.grows f.2);
  raised = λ pc. subst (λ (r : List Bit). IsBitBelow new.formula.variables (raised_at r pc)) (sym grown.raised)
      (bit_below_more old.formula.variables new.formula.variables (raised_at old.raised.items pc) grown.extends.grows
      (formed.raised pc));
}

-- what a run has come to is shown by what waits and what is thrown
pub so_same : (a : ℕ → Bool) (old new : Encoder) (came : Came) → new.pending.items ≡ old.pending.items
    → new.raised.items ≡ old.raised.items → IsSo a old came → IsSo a new came
so_same a old new Nothing pending raised so = (
  subst (NoneWaits a) (sym pending) so.0,
  subst (NoneThrown a) (sym raised) so.1,
)
so_same a old new (Here state) pending raised so = (
  subst (λ (p : List (Option Frame)). Waits a p state) (sym pending) so.0,
  subst (NoneThrown a) (sym raised) so.1,
)
so_same a old new (Thrown pc) pending raised so = (
  subst (NoneWaits a) (sym pending) so.0,
  subst (λ (r : List Bit). IsThrown a r pc) (sym raised) so.1,
)

-- the formula grew, and then the encoder went on
pub goes_grown : (shapes : Shapes) (old between new : Encoder) (low : ℕ) (frame : Frame) (go : (ℕ → Bool) → State
    → Came) → HasGrown old between → Goes shapes between new low frame go → Goes shapes old new low frame go
goes_grown shapes old between new low frame go grown goes = record {
  extends = extends_then old.formula between.formula new.formula grown.extends goes.extends;
  formed = goes.formed;
  pending = λ pc under. goes.pending pc under ∙ ap (λ (p : List (Option Frame)). pending_at p pc) grown.pending;
  raised = λ pc above. goes.raised pc above ∙ ap (λ (r : List Bit). raised_at r pc) grown.raised;
  keeps = λ a holds off came so. goes.keeps a holds off came (so_same a old between came grown.pending grown.raised so);
  goes = λ a holds on so state shows. goes.goes a holds on
      (so_same a old between Nothing grown.pending grown.raised so) state shows;
}

-- the encoder went on from a frame that shows what comes of another one's states
pub goes_by : (shapes : Shapes) (old new : Encoder) (low : ℕ) (frame changed : Frame) (go gone : (ℕ → Bool) → State
    → Came) → changed.guard ≡ frame.guard → Goes shapes old new low changed gone
    → ((a : ℕ → Bool) → Satisfies a new.formula → (state : State) → ShowsFrame a frame state
    → (shown : State) × ShowsFrame a changed shown × (gone a shown ≡ go a state)) → Goes shapes old new low frame go
goes_by shapes old new low frame changed go gone same goes shows = record {
  extends = goes.extends;
  formed = goes.formed;
  pending = goes.pending;
  raised = goes.raised;
  keeps = λ a holds off came so. goes.keeps a holds (ap (bit_value a) same ∙ off) came so;
  goes = λ a holds on so state here.
      let s = shows a holds state here in
      subst (IsSo a new) s.2 (goes.goes a holds (ap (bit_value a) same ∙ on) so s.0 s.1);
}
