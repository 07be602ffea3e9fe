-- The loop over the code: what is encoded so far, for whichever limits and shapes the code has.
use Rattle.cf_thin.specs.Instr.{Places}
use Rattle.std.proofs.Common.{◌≡◌, ◌+◌, ℕ, List, length, subst, sym}
use Rattle.cf_thin.specs.declared.shape.Limits.{Limits}
use Rattle.cf_thin.specs.Laws.{GoForward, WeakerOrder}
use Rattle.cf_thin.specs.ThinCode.{IsThin}
use Rattle.jb_run.specs.declared.formula.Formula.{Formula}
use Rattle.jb_run.specs.declared.int_bits.IntBits.{IntBits}
use Rattle.jb_run.specs.declared.frame.Frame.{Frame}
use Rattle.jb_run.specs.declared.encoder.Encoder.{Encoder}
use Rattle.jb_run.specs.declared.encoding.Encoding.{Encoding}
use Rattle.jb_run.specs.Encoder.{Arrives, HasInputs, IsEncoded, Visits}
use Rattle.jb_run.specs.Represents.{Represents}
use Rattle.jb_run.proofs.EntryLemmas.{IsBlank, IsFirst, begun}
use Rattle.jb_run.proofs.EndLemmas.{represents}

-- the instructions below a pc are encoded, wherever the code is thin for a method of so many parameters
pub record LoopsOn (code : Places) (params : ℕ) (inputs : List IntBits) (encoder : Encoder) (pc : ℕ) : Type 0 where
  pub first : Formula
  pub has : HasInputs params first inputs
  pub encoded : (limits : Limits) (thin : IsThin code limits) → limits.params ≡ params
      → IsEncoded code thin.shapes first inputs pc encoder

pub loop_begins : GoForward → WeakerOrder → (code : Places) (params : ℕ) (formula : Formula) (inputs : List IntBits)
    (frame : Frame) (old new : Encoder) → HasInputs params formula inputs → IsFirst inputs frame
    → IsBlank (length code) formula old → Arrives old new 0 frame → LoopsOn code params inputs new 0
loop_begins forward order code params formula inputs frame old new has first blank arrives = record {
  first = formula;
  has = has;
  encoded = λ limits thin number. begun forward order code limits thin.shapes formula inputs frame old new thin.rules
      (subst (λ (n : ℕ). HasInputs n formula inputs) (sym number) has) first blank arrives;
}

pub loop_goes : (code : Places) (params : ℕ) (inputs : List IntBits) (old new : Encoder) (pc : ℕ)
    → LoopsOn code params inputs old pc → Visits code old new pc → LoopsOn code params inputs new (pc + 1)
loop_goes code params inputs old new pc loops visits = record {
  first = loops.first;
  has = loops.has;
  encoded = λ limits thin number. visits limits thin.shapes loops.first inputs thin.rules
      (loops.encoded limits thin number);
}

pub loop_ends : GoForward → (code : Places) (params : ℕ) (encoder : Encoder) (encoding : Encoding) (pc : ℕ)
    → LoopsOn code params encoding.inputs encoder pc → pc ≡ length code → encoding.formula ≡ encoder.formula
    → encoding.raised ≡ encoder.raised.items → (limits : Limits) → limits.params ≡ params → IsThin code limits
    → Represents code params encoding
loop_ends forward code params encoder encoding pc loops end formula raised limits number thin =
    represents forward code limits thin.shapes params loops.first encoder encoding thin.rules loops.has (subst
    (λ (p : ℕ). IsEncoded code thin.shapes loops.first encoding.inputs p encoder) end
    (loops.encoded limits thin number)) formula raised
