use Rattle.std.proofs.Common.{◌≡◌, ◌%◌, ◌^◌, length, List, sym, subst}
use Rattle.std.proofs.lemmas.Result.{IfOk-weaker}
use Rattle.cn_clauses.specs.declared.lit.Lit.{Lit}
use Rattle.bb_arith.specs.Words.{number_of, IsWordGate}
use Rattle.bb_terms.specs.Calls.Words.{IsWord, arithmetic_number, arithmetic_value}
use Rattle.bb_terms.proofs.ArithmeticLemmas.{arithmetic_word}
use Rattle.bb_terms.proofs.arithmetic.on_lists.Goals as goal

pub returns-clause-gate : goal.returns-clause-gate
returns-clause-gate g c =
    let n = g.row.W in
    let old = c.args.formula.now in
    let new = c.on_words.new.formula in
    let a = c.args.a.now in
    let b = c.args.b.now in
    let kind = c.args.kind in
    let made = c.in_ok-made.made in
    let first = subst (λ (x : List Lit). IsWordGate old new made
    (λ w. arithmetic_value n kind (number_of w x) (number_of w c.word-2.result)))
    c.word.ensures c.in_ok-made.ensures.gate in
    let gate = subst (λ (y : List Lit). IsWordGate old new made
    (λ w. arithmetic_value n kind (number_of w a) (number_of w y)))
    c.word-2.ensures first in
    IfOk-weaker c.listed.result (λ lits. (lits ≡ made) × (length lits ≡ n))
    (λ lits. IsWord n old new lits (λ w. arithmetic_number n kind (number_of w a) (number_of w b) % 2 ^ n))
    (λ lits is. arithmetic_word n kind old new a b lits is.1
    (subst (λ (l : List Lit). IsWordGate old new l (λ w. arithmetic_value n kind (number_of w a) (number_of w b)))
    (sym is.0) gate))
    c.listed.ensures
