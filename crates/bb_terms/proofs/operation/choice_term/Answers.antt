use Rattle.std.proofs.Common.{◌==◌, ◌∷◌, [], length, ap, sym, ◌∙◌, if◌then◌else◌}
use Rattle.std.proofs.lemmas.Result.{IfOk-weaker}
use Rattle.tm_terms.specs.Words.{width_of}
use Rattle.tm_terms.specs.Terms.{term_value, term_sort}
use Rattle.bb_terms.specs.Calls.Words.{IsWord, chosen_number}
use Rattle.bb_terms.specs.Calls.Terms.{IsTermWord}
use Rattle.bb_terms.proofs.TermLemmas.{choice_word}
use Rattle.bb_terms.proofs.operation.choice_term.Goals as goal

pub chosen_word-requires-clause-even : goal.chosen_word-requires-clause-even
chosen_word-requires-clause-even c =
    let wide = c.requires.table.wide in
    wide c.args.arms.1.0 c.word_at-b.result.now c.word_at-b.ensures ∙ ap width_of c.requires.sorts
    ∙ sym (wide c.args.arms.0.0 c.word_at-a.result.now c.word_at-a.ensures)

pub returns-clause-word : goal.returns-clause-word
returns-clause-word c =
    let ops = c.args.bank.now in
    let words = c.args.words.now in
    let a = c.word_at-a.result.now in
    let b = c.word_at-b.result.now in
    let i = c.args.arms.0.0 in
    let j = c.args.arms.1.0 in
    let k = c.args.choice.0 in
    let n = width_of (term_sort ops i) in
    let old = c.args.formula.now in
    let new = c.chosen_word.new.formula in
    IfOk-weaker c.chosen_word.result (λ lits. IsWord (length a) old new lits (chosen_number c.lit_at-c.result a b))
    (λ lits. IsTermWord ops words n old new lits
    (λ v. if term_value ops v k == 0 then term_value ops v j else term_value ops v i))
    (λ lits word. choice_word ops words old new n k i j c.lit_at-c.result a b lits c.requires.table
    c.lit_at-c.ensures c.word_at-a.ensures c.word_at-b.ensures (c.requires.table.wide i a c.word_at-a.ensures) word)
    c.chosen_word.ensures.gate

pub lit_at-c-requires-clause-wide : goal.lit_at-c-requires-clause-wide
lit_at-c-requires-clause-wide c =
    λ lits has. c.requires.table.wide c.args.choice.0 lits has ∙ ap width_of c.requires.truth

pub chosen_word-requires-clause-choice : goal.chosen_word-requires-clause-choice
chosen_word-requires-clause-choice c =
    c.requires.table.within c.args.choice.0 (c.lit_at-c.result ∷ []) c.lit_at-c.ensures
