use Rattle.std.proofs.Common.{◌≡◌, List, Some, IsPermutation, take, sym, subst, rules}
use Rattle.std.proofs.lemmas.List.{take_all, take_more}
use Rattle.cf_code.specs.declared.transfer.Row.{Row}
use Rattle.cf_code.specs.Steps.Ways.{Adds, IsHandled}
use Rattle.cf_code.proofs.HandlerLemmas.{IsDone, more_done, same_handled}
use Rattle.cf_code.proofs.handler.put_handlers.Goals as goal

pub loop-row-preserved : goal.loop-row-preserved
loop-row-preserved c =
    let starts = c.args.starts.now in
    let rows = c.as_slice-row-items.result.now in
    let old = c.args.out.now.items in
    let new = c.put_range.new.out.items in
    let k = c.loop-row.row-index in
    subst (λ (xs : List Row). IsDone starts old xs new (Some c.furthest.result))
    (sym (take_more rows k _ c.loop-row-test.true))
    (more_done starts old (take k rows) c.loop-row.out.items new c.loop-row.last _ c.unheld.result
    c.loop-row.invariant c.unheld.ensures.from c.unheld.ensures.held c.in_ok-put_range.ensures c.furthest.result
    c.furthest.ensures)

pub returns : goal.returns
returns c =
    let starts = c.args.starts.now in
    let sorted = c.as_slice-row-items.result.now in
    let all : take c.loop-row.row-index sorted ≡ sorted = take_all c.loop-row.row-index sorted c.loop-row-test.false in
    let old = c.args.out.now.items in
    let copied = c.extend_from_slice.new.self.items in
    let items : c.sort_unstable_by_key.new.self.items ≡ sorted = sym c.as_slice-row-items.ensures.value in
    let pushed : copied ≡ c.args.rows.now = search rules in
    let moved : IsPermutation c.args.rows.now sorted = subst (λ (xs : List Row). IsPermutation xs sorted) pushed
    (subst (λ (xs : List Row). IsPermutation copied xs) items c.sort_unstable_by_key.ensures.permutation) in
    same_handled starts c.args.rows.now sorted old c.loop-row.out.items moved
    (subst (λ (xs : List Row). Adds old c.loop-row.out.items (IsHandled starts xs)) all c.loop-row.invariant.adds)
