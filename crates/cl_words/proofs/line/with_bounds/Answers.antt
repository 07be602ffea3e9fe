-- One argument behind the other.
use Rattle.std.proofs.Common.{refl}
use Rattle.std.proofs.lemmas.Result.{IfOk-weaker}
use Rattle.cl_words.proofs.LineLemmas.{added}
use Rattle.cl_words.proofs.line.with_bounds.Goals as goal

pub returns : goal.returns
returns c =
    let one = added c.in_ok-arg.ensures c.number_option.ensures.local c.number_option.ensures.rule refl in
    let two = added c.in_ok-arg-2.ensures c.number_option-2.ensures.local c.number_option-2.ensures.rule one in
    let three = added c.in_ok-arg-3.ensures c.number_option-3.ensures.local c.number_option-3.ensures.rule two in
    let four = added c.in_ok-arg-4.ensures c.number_option-4.ensures.local c.number_option-4.ensures.rule three in
    IfOk-weaker c.arg-5.result _ _
    (λ r adds. added adds c.number_option-5.ensures.local c.number_option-5.ensures.rule four) c.arg-5.ensures
