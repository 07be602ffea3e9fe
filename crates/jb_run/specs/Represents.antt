-- The formula of a method represents its runs: it has the assignments that show a run, and no others.
use Rattle.cf_thin.specs.Instr.{Places}
use Rattle.std.specs.Prelude.{◌≡◌, ◌↔◌, ℕ, ℤ, Bool, true, false, List, length, All, FitsSigned}
use Rattle.std.specs.Int.{w32}
use Rattle.jv_base.specs.declared.method.Kind.{Kind}
use Rattle.jv_base.specs.declared.method.Kind.TheVariants.{Null}
use Rattle.jb_run.specs.declared.gates.Bit.{Bit}
use Rattle.jb_run.specs.declared.gates.Bit.TheVariants.{Known}
use Rattle.jb_run.specs.declared.encoding.Encoding.{Encoding}
use Rattle.jb_run.specs.Clauses.{clauses_of}
use Rattle.jb_run.specs.Satisfies.{bit_value, Satisfies, IsBitBelow, AreClausesBelow}
use Rattle.jb_run.specs.Encoder.{raised_at}
use Rattle.jb_run.specs.Shown.{ShowInts}
use Rattle.jb_run.specs.Violates.{RunViolates, NeverStuck}

-- the bit of a goal: thin code raises null alone
abbrev pub goal_bit : List Bit → ℕ → Kind → Bit
goal_bit raised pc Null = raised_at raised pc
goal_bit raised pc kind = Known false

-- the bits of the goals are true exactly where the run of these ints violates them
abbrev pub AreGoals : Places → Encoding → (ℕ → Bool) → List ℤ → Type 0
AreGoals code encoding a ints = (pc : ℕ) (kind : Kind)
    → (bit_value a (goal_bit encoding.raised pc kind) ≡ true) ↔ RunViolates code ints pc kind

-- the encoding has exactly the runs of code whose first locals are so many ints
pub record Represents (code : Places) (params : ℕ) (encoding : Encoding) : Type 0 where
  pub number : length encoding.inputs ≡ params
  pub clauses : AreClausesBelow encoding.formula.variables (clauses_of encoding.formula)
  pub goals : (pc : ℕ) (kind : Kind) → IsBitBelow encoding.formula.variables (goal_bit encoding.raised pc kind)
  -- each input has an assignment that satisfies the formula, shows it, and makes the goals true that its run violates
  pub has : (ints : List ℤ) → length ints ≡ params → All (FitsSigned w32) ints
      → (a : ℕ → Bool) × Satisfies a encoding.formula × ShowInts a encoding.inputs ints × AreGoals code encoding a ints
  -- and each assignment that satisfies the formula shows an input, and makes the goals true that its run violates
  pub shows : (a : ℕ → Bool) → Satisfies a encoding.formula → (ints : List ℤ) × ShowInts a encoding.inputs ints
      × AreGoals code encoding a ints
  -- no run of such ints is stuck
  pub goes_on : (ints : List ℤ) → length ints ≡ params → All (FitsSigned w32) ints → NeverStuck code ints
