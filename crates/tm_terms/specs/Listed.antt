-- Sorts and numbers of terms that are listed in order. It serves proofs alone.
use Rattle.std.specs.Prelude.{◌<◌, ◌≤◌, ◌^◌, ◌≡◌, ℕ, List, length, slice_index}
use Rattle.std.proofs.Common.{get_or}
use Rattle.tm_terms.specs.Words.{width_of}
use Rattle.tm_terms.specs.Operations.{operands_of, first_of, second_of, third_of, AreBelow, SortsFit}
use Rattle.tm_terms.specs.Terms.{term_value}
use Rattle.tm_terms.specs.declared.sort.Sort.{Sort}
use Rattle.tm_terms.specs.declared.sort.Sort.TheVariants.{Bool as Truth}
use Rattle.tm_terms.specs.declared.op.Op.{Op}

-- the sort in a list
abbrev pub listed_sort : List Sort → ℕ → Sort
listed_sort sorts k = get_or sorts k Truth

-- an operation on terms whose sorts and numbers are listed, each number a word of its sort
pub record IsOnListed (op : Op) (sorts : List Sort) (numbers : List ℕ) : Type 0 where
  pub below : AreBelow (length numbers) (operands_of op)
  pub enough : length numbers ≤ length sorts
  pub fit : SortsFit (first_of Truth (listed_sort sorts) (operands_of op)) (second_of Truth (listed_sort sorts) (operands_of op))
      (third_of Truth (listed_sort sorts) (operands_of op)) op
  pub words : (k : ℕ) → k < length numbers → slice_index numbers k < 2 ^ width_of (listed_sort sorts k)

-- the values of the first terms of a bank
pub record AreValues (ops : List Op) (v : List ℕ) (count : ℕ) (numbers : List ℕ) : Type 0 where
  pub even : length numbers ≡ count
  pub each : (k : ℕ) → k < count → slice_index numbers k ≡ term_value ops v k
