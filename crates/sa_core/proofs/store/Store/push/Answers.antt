use Rattle.std.proofs.Common.{◌∷◌, [], ◌++◌, ◌∙◌, List, ap}
use Rattle.cn_clauses.specs.declared.lit.Lit.{Lit}
use Rattle.sa_core.proofs.StoreLemmas.{stored}
use Rattle.sa_core.proofs.store.Store.push.Goals as goal

pub returns : goal.returns
returns c =
    stored c.self.inside.lits c.args.lits.now c.extend.new.self c.self.inside.spans c.add.new.self _ c.self.invariant
    c.in_ok-extend.ensures.ok c.in_ok-add.ensures.ok c.length-start.ensures c.length-end.ensures
    ∙ ap (λ (l : List (List Lit)). l ++ c.args.lits.now ∷ []) c.self.view_is
