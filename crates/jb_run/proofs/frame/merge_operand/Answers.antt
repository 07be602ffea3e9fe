use Rattle.jb_run.proofs.MergedStacksLemmas.{operands_merged}
use Rattle.jb_run.proofs.frame.merge_operand.Goals as goal

pub returns-in_ok-mux_ints-in-Int-Int : goal.returns-in_ok-mux_ints-in-Int-Int
returns-in_ok-mux_ints-in-Int-Int c =
    let one = c.in-Int-Int.first in
    let other = c.in-Int-Int.second in
    let ensured = c.in_ok-mux_ints-in-Int-Int.ensures in
    operands_merged c.args.formula.now c.mux_ints.new.formula c.args.choice c.args.first c.args.second one other
    c.in_ok-mux_ints-in-Int-Int.field-0 c.in-Int-Int.is-0 c.in-Int-Int.is-1
    (λ named below. record {
      gate = ensured.gate named below;
      first = ensured.first named below;
      second = ensured.second named below;
    })
