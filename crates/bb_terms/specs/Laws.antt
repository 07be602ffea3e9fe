-- What holds of the definitions.
use Rattle.std.specs.Prelude.{◌≡◌, ◌++◌, ℕ, Bool, List, [], Option, Contains}
use Rattle.cn_clauses.specs.declared.lit.Lit.{Lit}
use Rattle.cn_clauses.specs.declared.formula.Formula.{Formula}
use Rattle.cn_clauses.specs.Formulas.{variables_of, clauses_of}
use Rattle.tm_terms.specs.declared.op.Op.{Op}
use Rattle.tm_terms.specs.declared.sort.Sort.TheVariants.{Bool as Truth}
use Rattle.tm_terms.specs.Terms.{term_sort, AreTerms, Continues}
use Rattle.bb_terms.specs.Tables.{ShowsValuation, IsTable, KeepsValuations, ExtendsOnce, IsExact}
use Rattle.bb_terms.specs.Blasts.{AreUnits, Blasts}

-- an empty table is one of every formula
abbrev pub EmptyIsTable : Type 0
EmptyIsTable = (formula : Formula) (ops : List Op) → IsTable formula ops []

-- and in a formula without variables and clauses each valuation is shown by exactly one assignment
abbrev pub EmptyIsExact : Type 0
EmptyIsExact = (formula : Formula) (ops : List Op) → variables_of formula ≡ 0 → clauses_of formula ≡ []
    → IsExact formula ops []

-- it stays so
abbrev pub ExactThrough : Type 0
ExactThrough = (ops : List Op) (old new : Formula) (from to : List (Option (List Lit))) → IsExact old ops from
    → ExtendsOnce ops old from new to → IsExact new ops to

-- what two steps keep
abbrev pub KeepsThrough : Type 0
KeepsThrough = (ops : List Op) (old mid new : Formula) (a b c : List (Option (List Lit)))
    → KeepsValuations ops old a mid b → KeepsValuations ops mid b new c → KeepsValuations ops old a new c

-- and that each assignment extends once
abbrev pub OnceThrough : Type 0
OnceThrough = (ops : List Op) (old mid new : Formula) (a b c : List (Option (List Lit)))
    → ExtendsOnce ops old a mid b → ExtendsOnce ops mid b new c → ExtendsOnce ops old a new c

-- each assignment shows a valuation
abbrev pub ShowsSome : Type 0
ShowsSome = (formula : Formula) (ops : List Op) (words : List (Option (List Lit))) (w : ℕ → Bool) → AreTerms ops
    → IsTable formula ops words → (v : List ℕ) × ShowsValuation ops words w v

-- where unit clauses of truth values are added to such a formula, it blasts them
abbrev pub UnitsBlast : Type 0
UnitsBlast = (ops : List Op) (terms : List ℕ) (old new : Formula) (words : List (Option (List Lit))) (units : List (List Lit))
    → AreTerms ops → IsTable old ops words → IsExact old ops words → variables_of new ≡ variables_of old
    → clauses_of new ≡ clauses_of old ++ units → AreUnits words terms units
    → ((k : ℕ) → Contains terms k → term_sort ops k ≡ Truth) → Blasts ops terms new

-- a table over a bank is one over each bank that continues it
abbrev pub TableLater : Type 0
TableLater = (formula : Formula) (old new : List Op) (words : List (Option (List Lit))) → Continues old new
    → IsTable formula old words → IsTable formula new words

-- and exactly one assignment shows each valuation there
abbrev pub ExactLater : Type 0
ExactLater = (formula : Formula) (old new : List Op) (words : List (Option (List Lit))) → Continues old new
    → IsTable formula old words → IsExact formula old words → IsExact formula new words
