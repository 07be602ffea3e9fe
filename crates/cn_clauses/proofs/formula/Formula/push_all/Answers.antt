use Rattle.cn_clauses.specs.Formulas.{variables_of}
use Rattle.cn_clauses.proofs.PushedLemmas.{below_at}
use Rattle.cn_clauses.proofs.formula.Formula.push_all.Goals as goal

pub push_lits-requires : goal.push_lits-requires
push_lits-requires c =
    let n = variables_of c.args.self.now in
    let m = variables_of c.loop-lits.self in
    let i = c.loop-lits.lits-index in
    below_at n m c.args.clauses.now i _ c.loop-lits.invariant.1 c.requires c.loop-lits-test.true
