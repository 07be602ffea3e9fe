use Rattle.std.proofs.Common.{sym, subst}
use Rattle.std.specs.Prelude.{bit_and, bit_or, bit_xor}
use Rattle.std.proofs.lemmas.Result.{IfOk-weaker}
use Rattle.tm_terms.specs.declared.op.Op.{Op}
use Rattle.tm_terms.specs.Words.{width_of}
use Rattle.tm_terms.specs.Terms.{term_sort, term_value, op_sort, op_value, Fits}
use Rattle.bb_terms.specs.Calls.Terms.{IsTermWord}
use Rattle.bb_terms.proofs.TermLemmas.{and_word, or_word, word_reduced}
use Rattle.bb_terms.proofs.operation.operation.Goals as goal

pub returns-in-And-clause-word : goal.returns-in-And-clause-word
returns-in-And-clause-word c =
    let ops = c.args.bank.now in
    let words = c.args.words.now in
    let old = c.args.formula.now in
    let new = c.bits_term.new.formula in
    let a = c.in-And.a.0 in
    let b = c.in-And.b.0 in
    let fits = subst (Fits ops) c.in-And.is c.requires.fits in
    IfOk-weaker c.bits_term.result
    (λ lits. IsTermWord ops words (width_of (term_sort ops a)) old new lits
    (λ v. bit_and (term_value ops v a) (term_value ops v b)))
    (λ lits. IsTermWord ops words (width_of (op_sort ops c.args.op)) old new lits (λ v. op_value ops v c.args.op))
    (λ lits word. subst (λ (op : Op). IsTermWord ops words (width_of (op_sort ops op)) old new lits
    (λ v. op_value ops v op))
    (sym c.in-And.is)
    (and_word c.term_laws.ensures.below ops words old new a b lits fits.sorts.0 fits.sorts.1 word))
    c.bits_term.ensures.word

pub returns-in-Or-clause-word : goal.returns-in-Or-clause-word
returns-in-Or-clause-word c =
    let ops = c.args.bank.now in
    let words = c.args.words.now in
    let old = c.args.formula.now in
    let new = c.bits_term-in-Or.new.formula in
    let a = c.in-Or.a.0 in
    let b = c.in-Or.b.0 in
    let fits = subst (Fits ops) c.in-Or.is c.requires.fits in
    IfOk-weaker c.bits_term-in-Or.result
    (λ lits. IsTermWord ops words (width_of (term_sort ops a)) old new lits
    (λ v. bit_or (term_value ops v a) (term_value ops v b)))
    (λ lits. IsTermWord ops words (width_of (op_sort ops c.args.op)) old new lits (λ v. op_value ops v c.args.op))
    (λ lits word. subst (λ (op : Op). IsTermWord ops words (width_of (op_sort ops op)) old new lits
    (λ v. op_value ops v op))
    (sym c.in-Or.is)
    (or_word c.term_laws.ensures.below ops words old new a b lits fits.sorts.0 fits.sorts.1 word))
    c.bits_term-in-Or.ensures.word

pub returns-in-BitOr-clause-word : goal.returns-in-BitOr-clause-word
returns-in-BitOr-clause-word c =
    let ops = c.args.bank.now in
    let words = c.args.words.now in
    let old = c.args.formula.now in
    let new = c.bits_term-in-BitOr.new.formula in
    let a = c.in-BitOr.a.0 in
    let b = c.in-BitOr.b.0 in
    IfOk-weaker c.bits_term-in-BitOr.result
    (λ lits. IsTermWord ops words (width_of (term_sort ops a)) old new lits
    (λ v. bit_or (term_value ops v a) (term_value ops v b)))
    (λ lits. IsTermWord ops words (width_of (op_sort ops c.args.op)) old new lits (λ v. op_value ops v c.args.op))
    (λ lits word. subst (λ (op : Op). IsTermWord ops words (width_of (op_sort ops op)) old new lits
    (λ v. op_value ops v op))
    (sym c.in-BitOr.is)
    (word_reduced ops words (width_of (term_sort ops a)) old new lits
    (λ v. bit_or (term_value ops v a) (term_value ops v b)) word)) c.bits_term-in-BitOr.ensures.word

pub returns-in-BitXor-clause-word : goal.returns-in-BitXor-clause-word
returns-in-BitXor-clause-word c =
    let ops = c.args.bank.now in
    let words = c.args.words.now in
    let old = c.args.formula.now in
    let new = c.bits_term-in-BitXor.new.formula in
    let a = c.in-BitXor.a.0 in
    let b = c.in-BitXor.b.0 in
    IfOk-weaker c.bits_term-in-BitXor.result
    (λ lits. IsTermWord ops words (width_of (term_sort ops a)) old new lits
    (λ v. bit_xor (term_value ops v a) (term_value ops v b)))
    (λ lits. IsTermWord ops words (width_of (op_sort ops c.args.op)) old new lits (λ v. op_value ops v c.args.op))
    (λ lits word. subst (λ (op : Op). IsTermWord ops words (width_of (op_sort ops op)) old new lits
    (λ v. op_value ops v op))
    (sym c.in-BitXor.is)
    (word_reduced ops words (width_of (term_sort ops a)) old new lits
    (λ v. bit_xor (term_value ops v a) (term_value ops v b)) word)) c.bits_term-in-BitXor.ensures.word
