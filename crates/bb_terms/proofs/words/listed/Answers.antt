use Rattle.std.proofs.Common.{◌≡◌, length, ap, ◌∙◌}
use Rattle.std.proofs.lemmas.Result.{IfOk-weaker}
use Rattle.cn_clauses.specs.declared.lit.Lit.{Lit}
use Rattle.bb_terms.proofs.words.listed.Goals as goal

pub returns : goal.returns
returns g c =
    IfOk-weaker c.copied.result (λ lits. lits ≡ c.args.word.now)
    (λ lits. (lits ≡ c.args.word.now) × (length lits ≡ g.row.W))
    (λ lits is. (is, ap (length {A = Lit}) is ∙ c.told-word)) c.copied.ensures
