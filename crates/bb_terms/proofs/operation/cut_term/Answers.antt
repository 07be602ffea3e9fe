use Rattle.std.proofs.Common.{◌≤◌, ℕ, length, take, List, ap, ◌∙◌, arith}
use Rattle.cn_clauses.specs.declared.lit.Lit.{Lit}
use Rattle.tm_terms.specs.Words.{width_of}
use Rattle.bb_terms.proofs.TermLemmas.{cut_word}
use Rattle.bb_terms.proofs.operation.cut_term.Goals as goal

pub returns : goal.returns
returns c =
    let ops = c.args.bank.now in
    let a = c.word_at.result.now in
    let k = c.args.operand.0 in
    let n = width_of c.args.sort in
    let wide = c.requires.table.wide k a c.word_at.ensures in
    let sort = c.requires.sort in
    let within : n ≤ length a = omega (arith, wide, sort) in
    record {
      word = cut_word c.extension_laws.ensures.itself ops c.args.words.now c.args.formula.now n k a c.truncate.new.self
          c.requires.table c.word_at.ensures within
          (c.truncate.ensures ∙ ap (λ (m : ℕ). take m c.in_ok-lits.lits) c.width.ensures
          ∙ ap (λ (l : List Lit). take n l) c.in_ok-lits.ensures);
    }
