-- The sort and the value of each term of a bank. A bank is the list of its operations; a term is a place in it.
use Rattle.std.specs.Prelude.{◌≡◌, ◌+◌, ◌==◌, ℕ, List, [], ◌∷◌, ◌++◌, length, take, reverse, slice_get, slice_index, Some}
use Rattle.std.specs.Prelude.{Bool, true, false, if◌then◌else◌}
use Rattle.jv_list.specs.Numbers.{bit_number}
use Rattle.tm_terms.specs.Operations.{operands_of, first_of, second_of, third_of, AreBelow, SortsFit}
use Rattle.tm_terms.specs.Equations.{sort_by, number_by}
use Rattle.tm_terms.specs.declared.sort.Sort.{Sort}
use Rattle.tm_terms.specs.declared.sort.Sort.TheVariants.{Bool as Truth}
use Rattle.tm_terms.specs.declared.op.Op.{Op}
use Rattle.tm_terms.specs.declared.op.Op.TheVariants.{Free}

-- a free term, an input
abbrev pub is_free : Op → Bool
is_free (Free s) = true
is_free _ = false

-- how many free terms there are
unfoldable pub free_count : List Op → ℕ
free_count [] = 0
free_count (op ∷ ops) = bit_number (is_free op) + free_count ops

-- the sort of the term at a place, where the terms are told from the last to the first
unfoldable pub sort_among : List Op → ℕ → Sort
sort_among [] k = Truth
sort_among (op ∷ earlier) k =
    if k == length earlier then sort_by (sort_among earlier) op else sort_among earlier k

-- its value under a valuation, a number for each free term in the order of making, or 0 where one is wanting: that of the last
-- term by its equation over the earlier ones
unfoldable pub value_among : List ℕ → List Op → ℕ → ℕ
value_among v [] k = 0
value_among v (op ∷ earlier) k =
    if k == length earlier then
    number_by (sort_among earlier) (value_among v earlier) (slice_index v (free_count earlier)) op
    else value_among v earlier k

-- the sort of the term at a place of a bank
abbrev pub term_sort : List Op → ℕ → Sort
term_sort ops k = sort_among (reverse ops) k

-- the value of the term at a place of a bank
abbrev pub term_value : List Op → List ℕ → ℕ → ℕ
term_value ops v k = value_among v (reverse ops) k

-- the sort that an operation has over a bank
abbrev pub op_sort : List Op → Op → Sort
op_sort ops op = sort_by (term_sort ops) op

-- the value that an operation has over a bank, as its next term
abbrev pub op_value : List Op → List ℕ → Op → ℕ
op_value ops v op = number_by (term_sort ops) (term_value ops v) (slice_index v (free_count ops)) op

-- the operands are terms of the bank, of sorts that fit
pub record Fits (ops : List Op) (op : Op) : Type 0 where
  pub below : AreBelow (length ops) (operands_of op)
  pub sorts : SortsFit (first_of Truth (term_sort ops) (operands_of op)) (second_of Truth (term_sort ops) (operands_of op))
      (third_of Truth (term_sort ops) (operands_of op)) op

-- each operation of a bank fits the terms before it
abbrev pub AreTerms : List Op → Type 0
AreTerms ops = (k : ℕ) (op : Op) → slice_get ops k ≡ Some op → Fits (take k ops) op

-- the new bank has the terms of the old one, and perhaps more
abbrev pub Continues : List Op → List Op → Type 0
Continues old new = (more : List Op) × (new ≡ old ++ more)
