use Rattle.std.proofs.Common.{refl, subst, ℕ, arith}
use Rattle.std.proofs.lemmas.Option.{slice_get_within}
use Rattle.tm_terms.specs.declared.op.Op.TheVariants.{Free}
use Rattle.bb_terms.specs.Calls.Words.{IsFreeWord}
use Rattle.bb_terms.proofs.TableLemmas.{gets_one, free_table, free_once, step_kept}
use Rattle.bb_terms.proofs.step.blast_free.Goals as goal

pub returns-in_err-lits-clause-step : goal.returns-in_err-lits-clause-step
returns-in_err-lits-clause-step c =
    step_kept c.literal_laws.ensures.agree c.extension_laws.ensures.continues_keeps c.args.formula.now
    c.free_word.new.formula c.args.bank.now c.args.table.now c.requires.table c.free_word.ensures.keeps

pub returns-clause-once : goal.returns-clause-once
returns-clause-once c =
    let ops = c.args.bank.now in
    let s = c.args.sort in
    let k = c.args.place in
    let at = c.requires.op in
    let old = c.args.formula.now in
    let new = c.free_word.new.formula in
    let lits = c.in_ok-lits.lits in
    let word = subst (λ (n : ℕ). IsFreeWord n old new lits) c.width.ensures c.in_ok-lits.ensures.gate in
    free_once ops c.args.table.now c.put.new.self k (Free s) lits at c.put.ensures.word s old new c.requires.table refl
    (slice_get_within ops k (Free s) at) word (c.term_laws.ensures.sort ops k (Free s) c.laws.ensures.terms at)
    c.literal_laws.ensures.agree c.term_laws.ensures.below

pub returns-clause-step : goal.returns-clause-step
returns-clause-step c =
    let ops = c.args.bank.now in
    let s = c.args.sort in
    let k = c.args.place in
    let at = c.requires.op in
    let old = c.args.formula.now in
    let new = c.free_word.new.formula in
    let lits = c.in_ok-lits.lits in
    let word = subst (λ (n : ℕ). IsFreeWord n old new lits) c.width.ensures c.in_ok-lits.ensures.gate in
    let place = slice_get_within ops k (Free s) at in
    let sort = c.term_laws.ensures.sort ops k (Free s) c.laws.ensures.terms at in
    let once = free_once ops c.args.table.now c.put.new.self k (Free s) lits at c.put.ensures.word s old new
    c.requires.table refl place word sort c.literal_laws.ensures.agree c.term_laws.ensures.below in
    let same = c.put.ensures.room in
    record {
      table = free_table ops c.args.table.now c.put.new.self k (Free s) lits at c.put.ensures.word s old new
          c.requires.table refl place word sort;
      keeps = once.keeps;
      room = omega (arith, same);
    }

pub returns-clause-only : goal.returns-clause-only
returns-clause-only c = gets_one c.args.table.now c.put.new.self c.args.place c.in_ok-lits.lits c.put.ensures.word
