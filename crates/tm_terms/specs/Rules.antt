-- What may stand for an operation.
use Rattle.std.specs.Prelude.{◌≡◌, ◌<◌, ◌≤◌, ◌+◌, ◌-◌, ◌%◌, ◌^◌, ℕ, List, length, true, false, slice_index, min, max}
use Rattle.tm_terms.specs.declared.sort.Sort.TheVariants.{Bool as Truth}
use Rattle.tm_terms.specs.declared.op.TermId.{TermId}
use Rattle.tm_terms.specs.declared.op.Operands.{Operands}
use Rattle.tm_terms.specs.declared.op.Op.{Op}
use Rattle.tm_terms.specs.declared.numbers.Given.{Given}
use Rattle.tm_terms.specs.Words.{width_of}
use Rattle.jv_list.specs.Numbers.{bit_number}
use Rattle.tm_terms.specs.Operations.{operands_of, first_of, second_of, third_of}
use Rattle.tm_terms.specs.Equations.{named_number}
use Rattle.tm_terms.specs.Terms.{is_free, free_count, term_sort, term_value, op_sort, op_value, Fits}
use Rattle.tm_terms.specs.Sharing.{on_constants}

-- the number that an operation names over a bank, before it is taken modulo 2 to the power of its width
abbrev pub named_of : List Op → List ℕ → Op → ℕ
named_of ops v op =
    named_number (first_of Truth (term_sort ops) (operands_of op)) (first_of 0 (term_value ops v) (operands_of op))
    (second_of 0 (term_value ops v) (operands_of op)) (third_of 0 (term_value ops v) (operands_of op))
    (slice_index v (free_count ops)) op

-- a term has a number under every valuation
pub record HasNumber (ops : List Op) (id : TermId) (k : ℕ) : Type 0 where
  pub value : (v : List ℕ) → term_value ops v id.0 ≡ k

-- another operation with the same sort, and the same value under every valuation
pub record Replaces (ops : List Op) (op other : Op) : Type 0 where
  pub fits : Fits ops other
  pub sort : op_sort ops other ≡ op_sort ops op
  pub value : (v : List ℕ) → op_value ops v other ≡ op_value ops v op
  pub kept : is_free other ≡ false

-- a term with its sort, and its value under every valuation
pub record IsSame (ops : List Op) (op : Op) (id : TermId) : Type 0 where
  pub within : id.0 < length ops
  pub sort : term_sort ops id.0 ≡ op_sort ops op
  pub value : (v : List ℕ) → term_value ops v id.0 ≡ op_value ops v op

-- the operands are constants with these sorts and numbers
pub record AreGiven (ops : List Op) (o : Operands) (given : Given) : Type 0 where
  pub s : given.s ≡ first_of Truth (term_sort ops) o
  pub t : given.t ≡ second_of Truth (term_sort ops) o
  pub x : (v : List ℕ) → first_of 0 (term_value ops v) o ≡ given.x
  pub y : (v : List ℕ) → second_of 0 (term_value ops v) o ≡ given.y
  pub z : (v : List ℕ) → third_of 0 (term_value ops v) o ≡ given.z
  pub on : on_constants ops o ≡ true

-- the term that was made of an operation over the old bank
pub record IsMade (old new : List Op) (op : Op) (id : TermId) : Type 0 where
  pub within : id.0 < length new
  pub sort : term_sort new id.0 ≡ op_sort old op
  pub value : (v : List ℕ) → term_value new v id.0 ≡ op_value old v op
  pub inputs : free_count new ≡ free_count old + bit_number (is_free op)

-- an operation has a number under every valuation
pub record IsKnown (ops : List Op) (op : Op) (k : ℕ) : Type 0 where
  pub within : k < 2 ^ width_of (op_sort ops op)
  pub value : (v : List ℕ) → op_value ops v op ≡ k

-- two terms have opposite truth values
pub record AreOpposite (ops : List Op) (a b : TermId) : Type 0 where
  pub value : (v : List ℕ) → term_value ops v b.0 ≡ (1 - term_value ops v a.0) % 2

-- the second term is true where the first is
pub record Implies (ops : List Op) (a b : TermId) : Type 0 where
  pub value : (v : List ℕ) → term_value ops v a.0 ≤ term_value ops v b.0

-- a term is the conjunction of two
pub record IsBoth (ops : List Op) (k x y : TermId) : Type 0 where
  pub first : x.0 < length ops
  pub second : y.0 < length ops
  pub sort : term_sort ops x.0 ≡ Truth
  pub other : term_sort ops y.0 ≡ Truth
  pub value : (v : List ℕ) → term_value ops v k.0 ≡ min (term_value ops v x.0) (term_value ops v y.0)

-- one of two terms is true exactly where a third is
pub record IsSplit (ops : List Op) (a b g : TermId) : Type 0 where
  pub within : g.0 < length ops
  pub sort : term_sort ops g.0 ≡ Truth
  pub value : (v : List ℕ) → max (term_value ops v a.0) (term_value ops v b.0) ≡ term_value ops v g.0

-- a term has the value of another and a number more
pub record IsPlus (ops : List Op) (a x : TermId) (c : ℕ) : Type 0 where
  pub within : x.0 < length ops
  pub sort : term_sort ops x.0 ≡ term_sort ops a.0
  pub value : (v : List ℕ) → term_value ops v a.0 ≡ (term_value ops v x.0 + c) % 2 ^ width_of (term_sort ops x.0)

-- an operation of the sort of a term has its value and a number more
pub record IsMoreBy (ops : List Op) (op : Op) (x : TermId) (k : ℕ) : Type 0 where
  pub within : x.0 < length ops
  pub sort : term_sort ops x.0 ≡ op_sort ops op
  pub number : k < 2 ^ width_of (term_sort ops x.0)
  pub value : (v : List ℕ) → op_value ops v op ≡ (term_value ops v x.0 + k) % 2 ^ width_of (term_sort ops x.0)
