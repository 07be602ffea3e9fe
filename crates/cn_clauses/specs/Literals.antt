-- Literals, and their values under an assignment. An assignment gives each variable a value.
use Rattle.std.specs.Prelude.{◌+◌, ◌*◌, ◌/◌, ◌%◌, ◌==◌, ℕ, Bool, not, if◌then◌else◌}
use Rattle.cn_clauses.specs.declared.lit.Lit.{Lit}

-- the variable of a literal
unfoldable pub variable_of : Lit → ℕ
variable_of lit = lit.0 / 2

-- whether a literal is negated
unfoldable pub is_negated : Lit → Bool
is_negated lit = lit.0 % 2 == 1

-- the literal of a variable, negated or not
unfoldable pub literal : ℕ → Bool → Lit
literal variable negated = record { 0 = 2 * variable + (if negated then 1 else 0) }

-- the literal of the same variable that is negated where this one is not
unfoldable pub opposite_of : Lit → Lit
opposite_of lit = literal (variable_of lit) (not (is_negated lit))

-- the value of a literal: that of its variable, or the opposite
unfoldable pub lit_value : (ℕ → Bool) → Lit → Bool
lit_value a lit = if is_negated lit then not (a (variable_of lit)) else a (variable_of lit)
