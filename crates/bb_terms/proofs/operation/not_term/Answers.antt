use Rattle.std.proofs.Common.{◌≡◌, ◌-◌, ◌∷◌, [], ap, ◌∙◌}
use Rattle.tm_terms.specs.Words.{width_of}
use Rattle.std.proofs.lemmas.Result.{IfOk-weaker}
use Rattle.tm_terms.specs.Terms.{term_value}
use Rattle.bb_terms.specs.Calls.Terms.{IsTermWord}
use Rattle.bb_terms.proofs.TermLemmas.{opposite_word}
use Rattle.bb_terms.proofs.operation.not_term.Goals as goal

pub returns : goal.returns
returns c =
    let laws = c.literal_laws.ensures in
    let ops = c.args.bank.now in
    let words = c.args.words.now in
    let f = c.args.formula.now in
    let k = c.args.operand.0 in
    record {
      word = IfOk-weaker c.bit.result (λ lits. lits ≡ c.opposite.result ∷ [])
          (λ lits. IsTermWord ops words 1 f f lits (λ v. 1 - term_value ops v k))
          (λ lits is. opposite_word laws.opposite_value laws.opposite_variable c.extension_laws.ensures.itself ops
          words f
          k c.lit_at.result c.opposite.result lits c.requires.table c.lit_at.ensures c.opposite.ensures is)
          c.bit.ensures;
    }

pub lit_at-requires-clause-wide : goal.lit_at-requires-clause-wide
lit_at-requires-clause-wide c = λ lits has. c.requires.table.wide c.args.operand.0 lits has
    ∙ ap width_of c.requires.sort
