-- What the private functions of tables ensure: the clauses of a table, and the value that they give a gate's literal.
use Rattle.std.specs.Prelude.{ℕ, Bool, true, false, not, ◌&&◌, ◌||◌, List, [], ◌∷◌, ◌++◌, map, Option, Some, None, if◌then◌else◌}
use Rattle.std.specs.List.{list_all}
use Rattle.cn_clauses.specs.declared.lit.Lit.{Lit}
use Rattle.cn_clauses.specs.Literals.{opposite_of}
use Rattle.cn_clauses.specs.Extension.{same}
use Rattle.bb_gates.specs.declared.table.Row.{Row}
use Rattle.bb_gates.specs.declared.table.Operands.{Operands}
use Rattle.bb_gates.specs.Values.{of_three}

-- a literal as it is, or its opposite
abbrev pub signed_lit : Lit → Bool → Lit
signed_lit lit sign = if sign then lit else opposite_of lit

-- an operand that a clause names, by its sign
abbrev pub named_lits : Lit → Option Bool → List Lit
named_lits lit None = []
named_lits lit (Some sign) = signed_lit lit sign ∷ []

-- the clause of a row
abbrev pub row_lits : Lit → Operands → Row → List Lit
row_lits own xs row =
    signed_lit own row.0 ∷ (named_lits xs.0 row.1 ++ (named_lits xs.1 row.2 ++ named_lits xs.2 row.3))

-- the clauses of a table
abbrev pub table_lits : Lit → Operands → List Row → List (List Lit)
table_lits own xs rows = map (row_lits own xs) rows

-- the same with values in place of literals
abbrev pub signed_value : Bool → Bool → Bool
signed_value x sign = if sign then x else not x

abbrev pub named_value : Bool → Option Bool → Bool
named_value x None = false
named_value x (Some sign) = signed_value x sign

abbrev pub row_holds : Bool → Bool → Bool → Bool → Row → Bool
row_holds own x y z row =
    signed_value own row.0 || (named_value x row.1 || (named_value y row.2 || named_value z row.3))

abbrev pub rows_hold : List Row → Bool → Bool → Bool → Bool → Bool
rows_hold rows own x y z = list_all (row_holds own x y z) rows

-- the value for which the clauses hold
abbrev pub table_value : List Row → Bool → Bool → Bool → Bool
table_value rows x y z = rows_hold rows true x y z

-- a test of three values holds for all eight
abbrev pub everywhere : (Bool → Bool → Bool → Bool) → Bool
everywhere p =
    (p true true true && (p true true false && (p true false true && p true false false)))
    && (p false true true && (p false true false && (p false false true && p false false false)))

-- the clauses hold for one value of the gate's literal, whatever the operands are
abbrev pub is_table : List Row → Bool
is_table rows = everywhere (λ x y z. same (rows_hold rows false x y z) (not (table_value rows x y z)))

-- the value of a gate over these operands
abbrev pub value_of_table : List Row → Operands → (ℕ → Bool) → Bool
value_of_table rows xs = of_three (table_value rows) xs.0 xs.1 xs.2
