-- Gates: a formula grows so that each assignment that satisfies it extends in exactly one way, and a bit shows a value.
use Rattle.std.specs.Prelude.{◌≡◌, ◌<◌, ◌≤◌, ◌↔◌, ℕ, ℤ, Bool, false, not, ◌&&◌, ◌||◌, IsTrue, List, ◌++◌}
use Rattle.std.specs.Prelude.{slice_index_or, if◌then◌else◌}
use Rattle.std.specs.Int.{IsBitSet, cast_unsigned, w32}
use Rattle.jb_run.specs.declared.formula.Lit.{Lit}
use Rattle.jb_run.specs.declared.formula.Formula.{Formula}
use Rattle.jb_run.specs.declared.gates.Bit.{Bit}
use Rattle.jb_run.specs.declared.gates.Bit.TheVariants.{Known}
use Rattle.jb_run.specs.declared.int_bits.IntBits.{IntBits}
use Rattle.jb_run.specs.Clauses.{clauses_of}
use Rattle.jb_run.specs.Satisfies.{bit_value, Satisfies, Agrees, IsBitBelow, AreClausesBelow}

-- the new formula has the clauses of the old one first, and its variables
pub record Continues (old new : Formula) : Type 0 where
  pub grows : old.variables ≤ new.variables
  pub rest : List (List Lit)
  pub clauses : clauses_of new ≡ clauses_of old ++ rest

-- an assignment that satisfies the new formula, and is the same on the old one's variables
pub record IsExtension (old new : Formula) (a b : ℕ → Bool) : Type 0 where
  pub agrees : Agrees old.variables a b
  pub satisfies : Satisfies b new

-- each assignment that satisfies the old formula extends to the new one in exactly one way, and each that satisfies the
-- new one is such
pub record Extends (old new : Formula) : Type 0 where
  pub grows : old.variables ≤ new.variables
  pub named : AreClausesBelow new.variables (clauses_of new)
  pub keeps : (a : ℕ → Bool) → Satisfies a new → Satisfies a old
  pub extends : (a : ℕ → Bool) → Satisfies a old → (b : ℕ → Bool) × IsExtension old new a b
  pub only : (a b : ℕ → Bool) → Satisfies a new → Satisfies b new → Agrees old.variables a b → Agrees new.variables a b

-- the bit has the value, wherever the formula is satisfied
pub record Shows (formula : Formula) (bit : Bit) (value : (ℕ → Bool) → Bool) : Type 0 where
  pub within : IsBitBelow formula.variables bit
  pub is : (a : ℕ → Bool) → Satisfies a formula → bit_value a bit ≡ value a

-- a gate for the value: its bit has the value, and each older assignment extends in exactly one way
pub record IsGate (old new : Formula) (bit : Bit) (value : (ℕ → Bool) → Bool) : Type 0 where
  pub extends : Extends old new
  pub shows : Shows new bit value

-- the clauses of the formula, and the two bits, name only its variables
pub record AreNamed (formula : Formula) (a b : Bit) : Type 0 where
  pub clauses : AreClausesBelow formula.variables (clauses_of formula)
  pub first : IsBitBelow formula.variables a
  pub second : IsBitBelow formula.variables b

-- whether two values differ
abbrev pub differ : Bool → Bool → Bool
differ x y = if x then not y else y

-- the value of a bit that is true exactly where both are
abbrev pub both : Bit → Bit → (ℕ → Bool) → Bool
both a b w = bit_value w a && bit_value w b

-- the value of a bit that is true exactly where one of them is, or both are
abbrev pub either : Bit → Bit → (ℕ → Bool) → Bool
either a b w = bit_value w a || bit_value w b

-- the value of a bit that is true exactly where the two differ
abbrev pub different : Bit → Bit → (ℕ → Bool) → Bool
different a b w = differ (bit_value w a) (bit_value w b)

-- the value of the first bit where the choice is true, and else of the second
abbrev pub chosen : Bit → Bit → Bit → (ℕ → Bool) → Bool
chosen choice a b w = if bit_value w choice then bit_value w a else bit_value w b

-- the formula grew by one input: each assignment that satisfies the old one extends in exactly one way for each value
-- of the bit
pub record IsFresh (old new : Formula) (bit : Bit) : Type 0 where
  pub grows : old.variables ≤ new.variables
  pub within : IsBitBelow new.variables bit
  pub named : AreClausesBelow new.variables (clauses_of new)
  pub keeps : (a : ℕ → Bool) → Satisfies a new → Satisfies a old
  pub extends : (a : ℕ → Bool) → Satisfies a old → (value : Bool) → (b : ℕ → Bool) × IsExtension old new a b
      × (bit_value b bit ≡ value)
  pub only : (a b : ℕ → Bool) → Agrees old.variables a b → bit_value a bit ≡ bit_value b bit → Agrees new.variables a b

-- the bit of an int at an index, the lowest first
abbrev pub bit_at : IntBits → ℕ → Bit
bit_at word k = slice_index_or word.bits k (Known false)

-- the bits of the int name only the formula's variables
pub record IsIntNamed (formula : Formula) (word : IntBits) : Type 0 where
  pub clauses : AreClausesBelow formula.variables (clauses_of formula)
  pub bits : (k : ℕ) → k < 32 → IsBitBelow formula.variables (bit_at word k)

-- the bits of the two ints name only the formula's variables
pub record AreIntsNamed (formula : Formula) (a b : IntBits) : Type 0 where
  pub clauses : AreClausesBelow formula.variables (clauses_of formula)
  pub first : (k : ℕ) → k < 32 → IsBitBelow formula.variables (bit_at a k)
  pub second : (k : ℕ) → k < 32 → IsBitBelow formula.variables (bit_at b k)

-- a gate for an int: each of its bits has its value, and each older assignment extends in exactly one way
pub record IsIntGate (old new : Formula) (word : IntBits) (value : ℕ → (ℕ → Bool) → Bool) : Type 0 where
  pub extends : Extends old new
  pub shows : (k : ℕ) → k < 32 → Shows new (bit_at word k) (value k)

-- a gate for a test: its bit is true exactly where the test holds, and each older assignment extends in exactly one way
pub record IsTest (old new : Formula) (bit : Bit) (holds : (ℕ → Bool) → Type 0) : Type 0 where
  pub extends : Extends old new
  pub within : IsBitBelow new.variables bit
  pub is : (a : ℕ → Bool) → Satisfies a new → IsTrue (bit_value a bit) ↔ holds a

-- the bit of an int has this value
abbrev pub bit_of : (ℕ → Bool) → IntBits → ℕ → Bool
bit_of a word k = bit_value a (bit_at word k)

-- all bits of the int are false
abbrev pub HasNoBit : IntBits → (ℕ → Bool) → Type 0
HasNoBit word a = (k : ℕ) → k < 32 → bit_of a word k ≡ false

-- the two ints have the same bits
abbrev pub HaveSameBits : IntBits → IntBits → (ℕ → Bool) → Type 0
HaveSameBits first second a = (k : ℕ) → k < 32 → bit_of a first k ≡ bit_of a second k

-- the int has the value: its bits are those of its two's complement
abbrev pub HasInt : (ℕ → Bool) → IntBits → ℤ → Type 0
HasInt a word n = (k : ℕ) → k < 32 → IsTrue (bit_of a word k) ↔ IsBitSet (cast_unsigned w32 n) k

-- the formula grew by an input of 32 bits: each assignment that satisfies the old one extends in exactly one way for
-- each value of the bits
pub record IsFreshInt (old new : Formula) (word : IntBits) : Type 0 where
  pub grows : old.variables ≤ new.variables
  pub within : (k : ℕ) → k < 32 → IsBitBelow new.variables (bit_at word k)
  pub named : AreClausesBelow new.variables (clauses_of new)
  pub keeps : (a : ℕ → Bool) → Satisfies a new → Satisfies a old
  pub extends : (a : ℕ → Bool) → Satisfies a old → (value : ℕ → Bool) → (b : ℕ → Bool) × IsExtension old new a b
      × ((k : ℕ) → k < 32 → bit_of b word k ≡ value k)
  pub only : (a b : ℕ → Bool) → Agrees old.variables a b → ((k : ℕ) → k < 32 → bit_of a word k ≡ bit_of b word k)
      → Agrees new.variables a b
