-- The values of gates, from those of their operands.
use Rattle.std.specs.Prelude.{ℕ, Bool, List, not, ◌&&◌, ◌||◌, if◌then◌else◌}
use Rattle.std.specs.List.{list_all, list_any}
use Rattle.cn_clauses.specs.declared.lit.Lit.{Lit}
use Rattle.cn_clauses.specs.Literals.{lit_value}

-- both are true
abbrev pub both : Bool → Bool → Bool
both x y = x && y

-- one of them is true, or both are
abbrev pub either : Bool → Bool → Bool
either x y = x || y

-- one of them is true and the other is not
abbrev pub differ : Bool → Bool → Bool
differ x y = if x then not y else y

-- the first where the choice is true, and else the second
abbrev pub chosen : Bool → Bool → Bool → Bool
chosen choice x y = if choice then x else y

-- an odd number of the three is true
abbrev pub parity : Bool → Bool → Bool → Bool
parity x y z = differ x (differ y z)

-- two of the three are true, or all are
abbrev pub majority : Bool → Bool → Bool → Bool
majority x y z = (x && y) || ((x && z) || (y && z))

-- a function of the values of two literals
abbrev pub of_two : (Bool → Bool → Bool) → Lit → Lit → (ℕ → Bool) → Bool
of_two f a b w = f (lit_value w a) (lit_value w b)

-- a function of the values of three literals
abbrev pub of_three : (Bool → Bool → Bool → Bool) → Lit → Lit → Lit → (ℕ → Bool) → Bool
of_three f a b c w = f (lit_value w a) (lit_value w b) (lit_value w c)

-- each literal is true
abbrev pub all_of : List Lit → (ℕ → Bool) → Bool
all_of lits w = list_all (lit_value w) lits

-- one of the literals is true, or more
abbrev pub any_of : List Lit → (ℕ → Bool) → Bool
any_of lits w = list_any (lit_value w) lits
