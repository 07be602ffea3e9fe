-- No term twice, and no operation on constants alone.
use Rattle.std.specs.Prelude.{◌≡◌, ◌<◌, ◌^◌, ℕ, Bool, true, false, ◌&&◌, List, slice_get, Option, Some}
use Rattle.tm_terms.specs.Words.{width_of}
use Rattle.tm_terms.specs.Operations.{operands_of}
use Rattle.tm_terms.specs.Terms.{is_free}
use Rattle.tm_terms.specs.declared.op.Operands.{Operands}
use Rattle.tm_terms.specs.declared.op.Operands.TheVariants.{Nothing, One, Two, Three}
use Rattle.tm_terms.specs.declared.op.Op.{Op}
use Rattle.tm_terms.specs.declared.op.Op.TheVariants.{Const}

-- a constant
abbrev pub is_const : Option Op → Bool
is_const (Some (Const s k)) = true
is_const _ = false

-- the operation has operands, and all of them are constants of the bank
abbrev pub on_constants : List Op → Operands → Bool
on_constants ops Nothing = false
on_constants ops (One a) = is_const (slice_get ops a.0)
on_constants ops (Two a b) = is_const (slice_get ops a.0) && is_const (slice_get ops b.0)
on_constants ops (Three a b c) =
    is_const (slice_get ops a.0) && (is_const (slice_get ops b.0) && is_const (slice_get ops c.0))

-- an operation that is not free stands at one place
abbrev pub AreShared : List Op → Type 0
AreShared ops = (j k : ℕ) (op : Op) → is_free op ≡ false → slice_get ops j ≡ Some op → slice_get ops k ≡ Some op → j ≡ k

-- no operation has constants alone as operands
abbrev pub AreFolded : List Op → Type 0
AreFolded ops = (k : ℕ) (op : Op) → slice_get ops k ≡ Some op → on_constants ops (operands_of op) ≡ false

-- the number of a constant is below 2 to the power of its width
abbrev pub IsReduced : Op → Type 0
IsReduced (Const s k) = k < 2 ^ width_of s
IsReduced _ = Unit {0}

-- so it is with all constants
abbrev pub AreReduced : List Op → Type 0
AreReduced ops = (k : ℕ) (op : Op) → slice_get ops k ≡ Some op → IsReduced op
