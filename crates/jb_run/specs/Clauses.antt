-- A formula in conjunctive normal form: a list of clauses, each a list of literals.
use Rattle.std.specs.Prelude.{List, map}
use Rattle.jb_run.specs.declared.formula.Lit.{Lit}
use Rattle.jb_run.specs.declared.formula.Clause.{Clause}
use Rattle.jb_run.specs.declared.formula.Formula.{Formula}

-- the clauses of a formula, in order
abbrev pub clauses_of : Formula → List (List Lit)
clauses_of formula = map (λ (clause : Clause). clause.lits.items) formula.clauses.items
