use Rattle.bb_terms.proofs.MarkLemmas.{closed_start}
use Rattle.bb_terms.proofs.cone.cone.Goals as goal

pub visit-requires-clause-so_far : goal.visit-requires-clause-so_far
visit-requires-clause-so_far c =
    closed_start c.args.bank.now c.args.table.now c.args.id.0 c.in_ok-marks.marks c.mark.new.marks
    c.in_ok-marks.ensures.even c.in_ok-marks.ensures.none c.mark.ensures
