use Rattle.std.proofs.Common.{◌∙◌, ap, sym}
use Rattle.std.specs.List.{filter}
use Rattle.std.proofs.lemmas.List.{take_all}
use Rattle.cf_code.specs.Kinds.{has, all_kinds}
use Rattle.cf_code.proofs.KindLemmas.{has_members}
use Rattle.jv_list.proofs.FilterLemmas.{filter_kept, filter_left}
use Rattle.cf_code.proofs.kind_set.KindSet.to_list.Goals.{then-contains+in_ok-push, else-contains}
use Rattle.cf_code.proofs.kind_set.KindSet.to_list.Goals as goal

pub loop-kind-preserved : goal.loop-kind-preserved
loop-kind-preserved c =
    let k = c.loop-kind.kind-index in
    let kinds = c.loop-kind.kinds.items in
    let test = has c.args.self in
    elim c.if-contains.branch [
      | then-contains+in_ok-push w ↦
          ap (λ v. v.items) w.kinds-is
          ∙ filter_kept test all_kinds k _ kinds c.loop-kind-test.true c.loop-kind.invariant _
          (sym w.if-contains.ensures) w.in_ok-push.ensures.items
      | else-contains w ↦
          ap (λ v. v.items) w.kinds-is
          ∙ filter_left test all_kinds k _ kinds c.loop-kind-test.true c.loop-kind.invariant (sym w.if-contains.ensures)
    ]

pub returns-clause-members : goal.returns-clause-members
returns-clause-members c =
    let all = take_all c.loop-kind.kind-index all_kinds c.loop-kind-test.false in
    let whole = c.from_vec.ensures ∙ c.loop-kind.invariant ∙ ap (filter (has c.args.self)) all in
    has_members c.args.self c.from_vec.result whole
