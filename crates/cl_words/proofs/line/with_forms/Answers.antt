-- One argument behind the other.
use Rattle.std.proofs.Common.{refl}
use Rattle.std.proofs.lemmas.Result.{IfOk-weaker}
use Rattle.cl_words.proofs.LineLemmas.{added}
use Rattle.cl_words.proofs.line.with_forms.Goals as goal

pub returns : goal.returns
returns c =
    let one = added c.in_ok-arg.ensures c.flag.ensures.local c.flag.ensures.rule refl in
    let two = added c.in_ok-arg-2.ensures c.flag-2.ensures.local c.flag-2.ensures.rule one in
    let three = added c.in_ok-arg-3.ensures c.text_option.ensures.local c.text_option.ensures.rule two in
    let four = added c.in_ok-arg-4.ensures c.text_option-2.ensures.local c.text_option-2.ensures.rule three in
    let five = added c.in_ok-arg-5.ensures c.new.ensures.optional.1 c.new.ensures.rule four in
    IfOk-weaker c.arg-6.result _ _
    (λ r adds. added adds c.new-2.ensures.optional.1 c.new-2.ensures.rule five) c.arg-6.ensures
