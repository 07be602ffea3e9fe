use Rattle.std.proofs.Common.{◌≡◌, inl, inr, sym, subst, arith}
use Rattle.std.proofs.lemmas.Bool.{cases_lt}
use Rattle.bb_terms.specs.Tables.{HasSome}
use Rattle.bb_terms.specs.Calls.Marks.{IsMarked, IsClosedFrom}
use Rattle.bb_terms.proofs.TableLemmas.{same_table, same_once, through_valuations, through_once, through_step}
use Rattle.bb_terms.proofs.MarkLemmas.{ready_at}
use Rattle.bb_terms.proofs.blaster.blast.Goals as goal

pub loop-place-init : goal.loop-place-init
loop-place-init c =
    let itself = c.extension_laws.ensures.continues_itself in
    let ops = c.args.bank.now in
    let f = c.args.formula.now in
    let from = c.args.table.now in
    let to = c.cover.new.self in
    let same = c.cover.ensures.same in
    let once = same_once itself ops f from to same c.requires.table in
    record {
      step = record {
        table = same_table itself ops f from to same c.requires.table;
        keeps = once.keeps;
        room = same.room;
      };
      once = once;
      room = c.in_ok-cover.ensures.within;
      done = λ j lt here. absurd (omega (arith, lt));
      only = λ j lits has. inl (same.back j lits has);
    }

pub blast_marked-requires-clause-ready : goal.blast_marked-requires-clause-ready
blast_marked-requires-clause-ready c = λ here.
    let ops = c.args.bank.now in
    let from = c.args.table.now in
    let id = c.args.id.0 in
    let k = c.loop-place.place in
    let closed = subst (IsClosedFrom ops from id 0) (sym c.as_slice-marks.ensures) c.in_ok-found.ensures in
    ready_at c.term_laws.ensures.fits ops from c.loop-place.table id k c.as_slice-marks.result.now c.laws.ensures.terms
    closed (λ lits has. c.loop-place.invariant.step.keeps.words k lits has) c.loop-place.invariant.done here

pub returns-in_err-blast_marked-clause-keeps : goal.returns-in_err-blast_marked-clause-keeps
returns-in_err-blast_marked-clause-keeps c =
    through_valuations c.extension_laws.ensures.continues_through c.args.bank.now c.args.formula.now
    c.loop-place.formula c.blast_marked.new.formula c.args.table.now c.loop-place.table c.blast_marked.new.table
    c.loop-place.invariant.step.keeps c.blast_marked.ensures.step.keeps

pub loop-place-preserved : goal.loop-place-preserved
loop-place-preserved c =
    let laws = c.extension_laws.ensures in
    let ops = c.args.bank.now in
    let marks = c.as_slice-marks.result.now in
    let old = c.args.formula.now in
    let mid = c.loop-place.formula in
    let new = c.blast_marked.new.formula in
    let first = c.args.table.now in
    let from = c.loop-place.table in
    let to = c.blast_marked.new.table in
    let k = c.loop-place.place in
    let so_far = c.loop-place.invariant in
    let step = c.blast_marked.ensures.step in
    let room = so_far.room in
    let more = step.room in
    record {
      step = through_step laws.continues_through ops old mid new first from to so_far.step step;
      once = through_once laws.continues_through laws.continues_keeps ops old mid new first from to so_far.once
          c.in_ok-blast_marked.ensures.once;
      room = omega (arith, room, more);
      done = λ j lt here.
          elim (cases_lt j k) [
            | inl before ↦
                let some = so_far.done j before here in (some.0, step.keeps.words j some.0 some.1)
            | inr after ↦
                let same : k ≡ j = omega (arith, lt, after) in
                subst (HasSome to) same (c.in_ok-blast_marked.ensures.made (subst (IsMarked marks) (sym same) here))
          ];
      only = λ j lits has.
          elim (c.blast_marked.ensures.only j lits has) [
            | inl before ↦ so_far.only j lits before
            | inr marked ↦ inr marked
          ];
    }
