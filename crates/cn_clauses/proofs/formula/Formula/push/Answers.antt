use Rattle.std.proofs.Common.{length}
use Rattle.cn_clauses.proofs.FormulaLemmas.{named_after, fixed_after}
use Rattle.cn_clauses.proofs.formula.Formula.push.Goals as goal

pub invariant_of-self : goal.invariant_of-self
invariant_of-self c =
    let self = c.args.self.now in
    let n = length self.variables in
    let new = c.push.new.self in
    let ok = c.push.ensures.ok in
    let unchanged = c.push.ensures.unchanged in
    record {
      named = named_after c.push.result n self.clauses new c.args.clause ok unchanged self.named c.requires;
      fixed = fixed_after c.push.result n self.clauses new c.args.clause self.truth ok unchanged self.fixed;
    }
