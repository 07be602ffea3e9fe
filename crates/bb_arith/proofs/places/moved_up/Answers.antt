use Rattle.std.proofs.Common.{ap, ◌∙◌}
use Rattle.bb_arith.specs.Words.{number_of}
use Rattle.bb_arith.proofs.PlaceLemmas.{up_list, up_value}
use Rattle.bb_arith.proofs.places.moved_up.Goals as goal

pub returns-clause-value : goal.returns-clause-value
returns-clause-value g c = λ w.
    let n = g.row.W in
    let p = c.args.places in
    let word = c.args.word.now in
    ap (number_of w) (up_list n p c.args.fill word _ c.requires c.copy_from_slice.ensures.after)
    ∙ up_value w word n p c.args.fill c.told-word c.requires
