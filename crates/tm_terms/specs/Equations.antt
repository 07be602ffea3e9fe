-- The number that each operation names, one equation an operation.
use Rattle.std.specs.Prelude.{◌+◌, ◌-◌, ◌*◌, ◌/◌, ◌%◌, ◌^◌, ◌==◌, ℕ, min, max, nat_lt, int_lt, if◌then◌else◌}
use Rattle.std.specs.Prelude.{bit_and, bit_or, bit_xor}
use Rattle.std.specs.Int.{int_shr}
use Rattle.tm_terms.specs.Words.{width_of}
use Rattle.jv_list.specs.Numbers.{bit_number, signed_number, wrapped_number}
use Rattle.jv_list.specs.Numbers.{quotient_of, remainder_of}
use Rattle.tm_terms.specs.Operations.{operands_of, first_of, second_of, third_of, sort_over}
use Rattle.tm_terms.specs.declared.sort.Sort.{Sort}
use Rattle.tm_terms.specs.declared.sort.Sort.TheVariants.{Bool as Truth}
use Rattle.tm_terms.specs.declared.op.Op.{Op}
use Rattle.tm_terms.specs.declared.op.Op.TheVariants.{Free, Const, Not, And, Or, If, Equal, Add, Sub, Mul, Div, Rem}
use Rattle.tm_terms.specs.declared.op.Op.TheVariants.{Shl, Shr, Ushr, BitAnd, BitOr, BitXor, Less, Below}
use Rattle.tm_terms.specs.declared.op.Op.TheVariants.{Widen, WidenZero, Cut}

-- the number that an operation names, where its operands have the numbers x, y and z and the first has the sort s; input is
-- the number of a free term
abbrev pub named_number : Sort → ℕ → ℕ → ℕ → ℕ → Op → ℕ
named_number s x y z input (Free t) = input
named_number s x y z input (Const t k) = k
named_number s x y z input (Not a) = 1 - x
named_number s x y z input (And a b) = min x y
named_number s x y z input (Or a b) = max x y
named_number s x y z input (If c a b) = if x == 0 then z else y
named_number s x y z input (Equal a b) = bit_number (x == y)
named_number s x y z input (Add a b) = x + y
named_number s x y z input (Sub a b) = x + (2 ^ width_of s - y)
named_number s x y z input (Mul a b) = x * y
named_number s x y z input (Div a b) =
    wrapped_number (width_of s) (quotient_of (signed_number (width_of s) x) (signed_number (width_of s) y))
named_number s x y z input (Rem a b) =
    wrapped_number (width_of s) (remainder_of (signed_number (width_of s) x) (signed_number (width_of s) y))
named_number s x y z input (Shl a b) = x * 2 ^ (y % width_of s)
named_number s x y z input (Shr a b) =
    wrapped_number (width_of s) (int_shr (signed_number (width_of s) x) (y % width_of s))
named_number s x y z input (Ushr a b) = x / 2 ^ (y % width_of s)
named_number s x y z input (BitAnd a b) = bit_and x y
named_number s x y z input (BitOr a b) = bit_or x y
named_number s x y z input (BitXor a b) = bit_xor x y
named_number s x y z input (Less a b) =
    bit_number (int_lt (signed_number (width_of s) x) (signed_number (width_of s) y))
named_number s x y z input (Below a b) = bit_number (nat_lt x y)
named_number s x y z input (Widen t a) = wrapped_number (width_of t) (signed_number (width_of s) x)
named_number s x y z input (WidenZero t a) = x
named_number s x y z input (Cut t a) = x

-- the sort of an operation over the sorts of all terms
abbrev pub sort_by : (ℕ → Sort) → Op → Sort
sort_by sorts op =
    sort_over (first_of Truth sorts (operands_of op)) (second_of Truth sorts (operands_of op)) op

-- the number of an operation over the sorts and the numbers of all terms: what it names, modulo 2 to the power of its width
abbrev pub number_by : (ℕ → Sort) → (ℕ → ℕ) → ℕ → Op → ℕ
number_by sorts numbers input op =
    named_number (first_of Truth sorts (operands_of op)) (first_of 0 numbers (operands_of op))
    (second_of 0 numbers (operands_of op)) (third_of 0 numbers (operands_of op)) input op % 2 ^ width_of (sort_by sorts op)
