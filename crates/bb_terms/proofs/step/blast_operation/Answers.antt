use Rattle.std.proofs.Common.{arith}
use Rattle.std.proofs.lemmas.Option.{slice_get_within}
use Rattle.bb_terms.proofs.TableLemmas.{gets_one, term_table, term_once, step_kept}
use Rattle.bb_terms.proofs.step.blast_operation.Goals as goal

pub operation-requires-clause-fits : goal.operation-requires-clause-fits
operation-requires-clause-fits c =
    (c.term_laws.ensures.fits c.args.bank.now c.args.place c.args.op c.laws.ensures.terms c.requires.op).0

pub returns-in_err-lits-clause-step : goal.returns-in_err-lits-clause-step
returns-in_err-lits-clause-step c =
    step_kept c.literal_laws.ensures.agree c.extension_laws.ensures.continues_keeps c.args.formula.now
    c.operation.new.formula c.args.bank.now c.args.table.now c.requires.table c.operation.ensures.keeps

pub returns-clause-once : goal.returns-clause-once
returns-clause-once c =
    let ops = c.args.bank.now in
    let k = c.args.place in
    let op = c.args.op in
    let at = c.requires.op in
    term_once ops c.args.table.now c.put.new.self k op c.in_ok-lits.lits at c.put.ensures.word c.args.formula.now
    c.operation.new.formula c.requires.table c.requires.kept (slice_get_within ops k op at)
    (rw c.words.ensures at c.in_ok-lits.ensures.word) c.laws.ensures.terms c.literal_laws.ensures.agree

pub returns-clause-step : goal.returns-clause-step
returns-clause-step c =
    let ops = c.args.bank.now in
    let k = c.args.place in
    let op = c.args.op in
    let at = c.requires.op in
    let place = slice_get_within ops k op at in
    let word = rw c.words.ensures at c.in_ok-lits.ensures.word in
    let old = c.args.formula.now in
    let new = c.operation.new.formula in
    let once = term_once ops c.args.table.now c.put.new.self k op c.in_ok-lits.lits at c.put.ensures.word old new
    c.requires.table c.requires.kept place word c.laws.ensures.terms c.literal_laws.ensures.agree in
    let same = c.put.ensures.room in
    record {
      table = term_table ops c.args.table.now c.put.new.self k op c.in_ok-lits.lits at c.put.ensures.word old new
          c.requires.table c.requires.kept place word c.laws.ensures.terms c.term_laws.ensures.sort
          c.term_laws.ensures.value;
      keeps = once.keeps;
      room = omega (arith, same);
    }

pub returns-clause-only : goal.returns-clause-only
returns-clause-only c = gets_one c.args.table.now c.put.new.self c.args.place c.in_ok-lits.lits c.put.ensures.word
