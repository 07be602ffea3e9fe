-- What the lower bits of a sum show, while it is made. It serves proofs alone.
use Rattle.std.specs.Prelude.{◌≡◌, ◌<◌, ◌+◌, ◌*◌, ◌^◌, ℕ, Bool, List, length, take}
use Rattle.cn_clauses.specs.declared.lit.Lit.{Lit}
use Rattle.cn_clauses.specs.declared.formula.Formula.{Formula}
use Rattle.cn_clauses.specs.Satisfaction.{Satisfies}
use Rattle.cn_clauses.specs.Formulas.{clauses_of}
use Rattle.cn_clauses.specs.Extension.{Extends, Shows}
use Rattle.bb_gates.specs.Growth.{AreOf}
use Rattle.bb_arith.specs.Words.{number_of}
use Rattle.jv_list.specs.Numbers.{bit_number}

-- the first i bits of the sum with the carry out of them show the sum of the first i bits of the words, and the carry's
-- literal shows it
pub record IsSumSoFar (i : ℕ) (old new : Formula) (a b sum : List Lit) (one : Bool) (carry : Lit) : Type 0 where
  pub extends : Extends old new
  pub within : AreOf new (take i sum)
  pub out : (ℕ → Bool) → Bool
  pub is : (w : ℕ → Bool) → Satisfies w (clauses_of new)
      → number_of w (take i sum) + 2 ^ i * bit_number (out w) ≡ number_of w (take i a) + number_of w
      (take i b) + bit_number one
  pub shows : i < length a → Shows new carry out
