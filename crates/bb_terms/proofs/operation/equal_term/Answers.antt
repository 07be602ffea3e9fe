use Rattle.std.proofs.Common.{ap, sym, ◌∙◌}
use Rattle.tm_terms.specs.Words.{width_of}
use Rattle.bb_terms.proofs.operation.equal_term.Goals as goal

pub equal-requires-clause-even : goal.equal-requires-clause-even
equal-requires-clause-even c =
    let wide = c.requires.table.wide in
    wide c.args.operands.1.0 c.word_at-b.result.now c.word_at-b.ensures ∙ ap width_of c.requires.sorts
    ∙ sym (wide c.args.operands.0.0 c.word_at-a.result.now c.word_at-a.ensures)
