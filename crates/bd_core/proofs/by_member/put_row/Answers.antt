-- What the row gives.
use Rattle.std.proofs.Common.{sym, rules, ◌∙◌}
use Rattle.std.proofs.lemmas.Result.{on_ok_weaker}
use Rattle.std.proofs.lemmas.Option.{same_Some}
use Rattle.bd_core.proofs.GiftLemmas.{row_gifts, no_row_gifts}
use Rattle.bd_core.proofs.by_member.put_row.Goals as goal

pub returns-in_default : goal.returns-in_default
returns-in_default c =
    no_row_gifts c.args.method.now _ (λ row h. c.in_default.not-Some row (c.find_row.ensures.only row h))

pub returns : goal.returns
returns c =
    on_ok_weaker c.put_index.result
    (row_gifts c.args.method.now c.in-Some.row c.args.out.now c.put_text.new.out c.put_null_argument.new.out
    c.put_index.new.out (search rules)
    (λ other h. same_Some c.in-Some.row other (sym c.in-Some.is ∙ c.find_row.ensures.only other h))
    (search rules) (search rules))
    c.put_index.ensures
