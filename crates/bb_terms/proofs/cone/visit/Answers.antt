use Rattle.std.proofs.Common.{◌≤◌, length, Some, ap, sym, subst, ◌∙◌, arith}
use Rattle.tm_terms.specs.declared.op.Operands.{Operands}
use Rattle.tm_terms.specs.Operations.{operands_of, AreBelow}
use Rattle.bb_terms.specs.Cones.{IsOperand}
use Rattle.bb_terms.specs.Calls.Marks.{Marks}
use Rattle.bb_terms.proofs.MarkLemmas.{below_more, closed_visited}
use Rattle.bb_terms.proofs.cone.visit.Goals as goal

pub mark_operands-requires : goal.mark_operands-requires
mark_operands-requires c =
    let ops = c.args.bank.now in
    let k = c.args.place in
    let marks = c.args.marks.now in
    let op = c.op.result.now in
    let even = c.requires.so_far.even in
    let place = c.requires.place in
    let le : k ≤ length marks = omega (arith, even, place) in
    subst (AreBelow (length marks)) (sym c.operands.ensures)
    (below_more k (length marks) (operands_of op) le
    (c.term_laws.ensures.fits ops k op c.laws.ensures.terms c.op.ensures).1)

pub returns-then-not-has : goal.returns-then-not-has
returns-then-not-has c =
    let ops = c.args.bank.now in
    let k = c.args.place in
    let op = c.op.result.now in
    closed_visited ops c.args.table.now c.args.id.0 k c.args.marks.now c.mark_operands.new.marks c.requires.so_far op
    c.op.ensures (c.at.ensures ∙ ap Some c.if-at.true)
    (c.term_laws.ensures.fits ops k op c.laws.ensures.terms c.op.ensures).1
    (subst (λ (o : Operands). Marks c.args.marks.now c.mark_operands.new.marks (λ j. IsOperand j o)) c.operands.ensures
    c.mark_operands.ensures)
