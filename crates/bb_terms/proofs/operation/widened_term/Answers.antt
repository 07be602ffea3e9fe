use Rattle.std.proofs.Common.{◌≡◌, ◌≤◌, ◌-◌, ℕ, suc, length, get_or, ap, subst, arith}
use Rattle.std.proofs.lemmas.Result.{IfOk-weaker}
use Rattle.cn_clauses.specs.declared.lit.Lit.{Lit}
use Rattle.tm_terms.specs.Words.{width_of}
use Rattle.jv_list.specs.Numbers.{signed_number, wrapped_number}
use Rattle.tm_terms.specs.Terms.{term_sort, term_value}
use Rattle.bb_terms.specs.Calls.Words.{IsLonger}
use Rattle.bb_terms.specs.Calls.Terms.{IsTermWord}
use Rattle.bb_terms.proofs.TermLemmas.{widened_word, word_told, width_positive}
use Rattle.bb_terms.proofs.operation.widened_term.Goals as goal

pub returns : goal.returns
returns c =
    let ops = c.args.bank.now in
    let words = c.args.words.now in
    let f = c.args.formula.now in
    let a = c.word_at-a.result.now in
    let k = c.args.operand.0 in
    let d : Lit = record { 0 = 0 } in
    let i = length a - 1 in
    let m = width_of c.args.sort in
    let n = width_of (term_sort ops k) in
    let wide = c.requires.table.wide k a c.word_at-a.ensures in
    let some = width_positive (term_sort ops k) in
    let next : length a ≡ suc i = omega (arith, wide, some) in
    let sort = c.requires.sort in
    let le : length a ≤ m = omega (arith, wide, sort) in
    record {
      word = IfOk-weaker c.longer.result (λ made. IsLonger a (get_or a i d) c.width.result made)
          (λ lits. IsTermWord ops words m f f lits (λ v. wrapped_number m (signed_number n (term_value ops v k))))
          (λ made longer. word_told ops words m f f made
          (λ v. wrapped_number m (signed_number (length a) (term_value ops v k)))
          (λ v. wrapped_number m (signed_number n (term_value ops v k)))
          (λ v. ap (λ (j : ℕ). wrapped_number m (signed_number j (term_value ops v k))) wide)
          (widened_word c.extension_laws.ensures.itself ops words f i m k a made d c.requires.table c.word_at-a.ensures
          next le (subst (λ (j : ℕ). IsLonger a (get_or a i d) j made) c.width.ensures longer)))
          c.longer.ensures;
    }
