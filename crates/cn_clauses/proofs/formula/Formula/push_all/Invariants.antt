-- The clauses so far stand at the end.
use Rattle.std.proofs.Common.{◌≡◌, ◌++◌, take}
use Rattle.cn_clauses.specs.Formulas.{variables_of, clauses_of, known_of}
use Rattle.cn_clauses.proofs.PushedLemmas.{lits_at}
use Rattle.cn_clauses.proofs.formula.Formula.push_all.Given as goal

abbrev pub invariant-loop-lits : goal.invariant-loop-lits
invariant-loop-lits l =
    (clauses_of l.self ≡ clauses_of l.fn.self ++ lits_at (take l.lits-index l.clauses))
    × (variables_of l.self ≡ variables_of l.fn.self)
    × (known_of l.self ≡ known_of l.fn.self)
