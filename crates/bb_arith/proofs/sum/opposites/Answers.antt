use Rattle.std.proofs.Common.{◌<◌, ◌+◌, ◌^◌, ℕ, List, length, sym, ap, ◌∙◌, subst, arith}
use Rattle.std.proofs.lemmas.List.{length-set}
use Rattle.cn_clauses.specs.declared.lit.Lit.{Lit}
use Rattle.bb_gates.specs.Growth.{AreOf}
use Rattle.bb_arith.specs.Words.{number_of}
use Rattle.bb_arith.proofs.WordLemmas.{opposites_next, opposites_whole, opposites_within, number_opposites}
use Rattle.bb_arith.proofs.sum.opposites.Goals as goal

pub loop-i-preserved : goal.loop-i-preserved
loop-i-preserved g c =
    let i = c.loop-i.i in
    let d : Lit = record { 0 = 0 } in
    let lt = c.loop-i-test.true in
    let in_word : i < length c.args.word.now = omega (arith, lt, c.told-word) in
    record {
      opposed = opposites_next c.args.word.now c.loop-i.made i d c.opposite.result in_word c.loop-i.invariant.size
          c.loop-i.invariant.opposed c.opposite.ensures;
      size = length-set c.loop-i.made i c.opposite.result ∙ c.loop-i.invariant.size;
    }

pub returns-clause-within : goal.returns-clause-within
returns-clause-within g c =
    let past = c.loop-i-test.false in
    let word = c.args.word.now in
    let is = opposites_whole word c.loop-i.made c.loop-i.i (omega (arith, past, c.told-word)) c.loop-i.invariant.size
    c.loop-i.invariant.opposed in
    λ f all. subst (AreOf f) (sym is) (opposites_within c.literal_laws.ensures.opposite_variable f word all)

pub returns-clause-value : goal.returns-clause-value
returns-clause-value g c =
    let past = c.loop-i-test.false in
    let word = c.args.word.now in
    let is = opposites_whole word c.loop-i.made c.loop-i.i (omega (arith, past, c.told-word)) c.loop-i.invariant.size
    c.loop-i.invariant.opposed in
    λ w. ap (λ (lits : List Lit). number_of w lits + number_of w word + 1) is
    ∙ number_opposites c.literal_laws.ensures.opposite_value w word ∙ ap (λ (m : ℕ). 2 ^ m) c.told-word
