-- What holds of the definitions.
use Rattle.std.specs.Prelude.{◌≡◌, ◌<◌, ◌%◌, ◌^◌, ℕ, List, length, take, slice_get, slice_index, Some, false}
use Rattle.tm_terms.specs.declared.sort.Sort.{Sort}
use Rattle.tm_terms.specs.declared.op.Op.{Op}
use Rattle.tm_terms.specs.declared.op.Op.TheVariants.{Free}
use Rattle.tm_terms.specs.Words.{width_of}
use Rattle.tm_terms.specs.Operations.{operands_of, AreBelow}
use Rattle.tm_terms.specs.Terms.{is_free, free_count, term_sort, term_value, op_sort, op_value, Fits, AreTerms, Continues}

-- a bank continues itself
abbrev pub ContinuesItself : Type 0
ContinuesItself = (ops : List Op) → Continues ops ops

-- and what continues one that continues it
abbrev pub ContinuesThrough : Type 0
ContinuesThrough = (a b c : List Op) → Continues a b → Continues b c → Continues a c

-- the terms of a bank keep their sorts
abbrev pub SortKept : Type 0
SortKept = (old new : List Op) (k : ℕ) → Continues old new → k < length old → term_sort new k ≡ term_sort old k

-- and their values under every valuation
abbrev pub ValueKept : Type 0
ValueKept = (old new : List Op) (v : List ℕ) (k : ℕ) → Continues old new → k < length old
    → term_value new v k ≡ term_value old v k

-- and an operation that fits a bank fits it
abbrev pub FitsKept : Type 0
FitsKept = (old new : List Op) (op : Op) → Continues old new → Fits old op → Fits new op

-- a value is a word of its term's sort
abbrev pub ValueBelow : Type 0
ValueBelow = (ops : List Op) (v : List ℕ) (k : ℕ) → term_value ops v k < 2 ^ width_of (term_sort ops k)

-- an operation that stands in a bank fits it, its operands stand before it
abbrev pub FitsStands : Type 0
FitsStands = (ops : List Op) (k : ℕ) (op : Op) → AreTerms ops → slice_get ops k ≡ Some op
    → Fits ops op × AreBelow k (operands_of op)

-- a term has the sort of its operation
abbrev pub SortStands : Type 0
SortStands = (ops : List Op) (k : ℕ) (op : Op) → AreTerms ops → slice_get ops k ≡ Some op → term_sort ops k ≡ op_sort ops op

-- and its value by the equation of its operation
abbrev pub ValueStands : Type 0
ValueStands = (ops : List Op) (k : ℕ) (op : Op) (v : List ℕ) → AreTerms ops → slice_get ops k ≡ Some op → is_free op ≡ false
    → term_value ops v k ≡ op_value ops v op

-- a free term has its number of the valuation
abbrev pub FreeValue : Type 0
FreeValue = (ops : List Op) (k : ℕ) (s : Sort) (v : List ℕ) → slice_get ops k ≡ Some (Free s)
    → term_value ops v k ≡ slice_index v (free_count (take k ops)) % 2 ^ width_of s
