-- What the private functions of division ensure.
use Rattle.std.specs.Prelude.{◌≡◌, ◌<◌, ◌≤◌, ◌+◌, ◌-◌, ◌*◌, ◌/◌, ◌%◌, ◌^◌, ℕ, Bool, List, not, nat_lt, drop, if◌then◌else◌}
use Rattle.cn_clauses.specs.declared.lit.Lit.{Lit}
use Rattle.cn_clauses.specs.declared.formula.Formula.{Formula}
use Rattle.cn_clauses.specs.Literals.{lit_value}
use Rattle.cn_clauses.specs.Satisfaction.{Satisfies}
use Rattle.cn_clauses.specs.Formulas.{clauses_of}
use Rattle.cn_clauses.specs.Extension.{Extends, Shows}
use Rattle.bb_gates.specs.Growth.{AreOf}
use Rattle.bb_arith.specs.Words.{number_of, IsWordGate}

-- the negative of a number, modulo 2 ^ n, where the literal is true, and else the number
abbrev pub turned_number : ℕ → Lit → List Lit → (ℕ → Bool) → ℕ
turned_number n choice word w = if lit_value w choice then (0 + (2 ^ n - number_of w word)) % 2 ^ n else number_of w word

-- whether the divisor goes into a number, and what it leaves of it
pub record IsReduced (n : ℕ) (old new : Formula) (word divisor rest : List Lit) (digit : Lit) : Type 0 where
  pub shows : Shows new digit (λ w. not (nat_lt (number_of w word) (number_of w divisor)))
  pub gate : IsWordGate old new rest
      (λ w. if nat_lt (number_of w word) (number_of w divisor) then number_of w word
      else (number_of w word + (2 ^ n - number_of w divisor)) % 2 ^ n)

-- the bits from i on of a word have been divided, where the divisor is at most half of 2 ^ n
pub record IsDivided (i n : ℕ) (old new : Formula) (word divisor quotient rest : List Lit) : Type 0 where
  pub extends : Extends old new
  pub quotient_within : AreOf new quotient
  pub rest_within : AreOf new rest
  pub rest_is : (w : ℕ → Bool) → Satisfies w (clauses_of new) → 2 * number_of w divisor ≤ 2 ^ n
      → number_of w rest ≡ number_of w (drop i word) % number_of w divisor
  pub quotient_is : (w : ℕ → Bool) → Satisfies w (clauses_of new) → 2 * number_of w divisor ≤ 2 ^ n
      → 0 < number_of w divisor → number_of w (drop i quotient) ≡ number_of w (drop i word) / number_of w divisor

-- two numbers were divided, where the divisor is at most half of 2 ^ n
pub record IsDivision (n : ℕ) (old new : Formula) (number divisor : (ℕ → Bool) → ℕ) (quotient rest : List Lit) : Type 0
  where
    pub extends : Extends old new
    pub quotient_within : AreOf new quotient
    pub rest_within : AreOf new rest
    pub rest_is : (w : ℕ → Bool) → Satisfies w (clauses_of new) → 2 * divisor w ≤ 2 ^ n
        → number_of w rest ≡ number w % divisor w
    pub quotient_is : (w : ℕ → Bool) → Satisfies w (clauses_of new) → 2 * divisor w ≤ 2 ^ n → 0 < divisor w
        → number_of w quotient ≡ number w / divisor w

-- a turned number where a literal is true, and else 0
abbrev pub turned_or_zero : ℕ → Lit → Lit → List Lit → (ℕ → Bool) → ℕ
turned_or_zero n some choice word w = if lit_value w some then turned_number n choice word w else 0
