-- One member more.
use Rattle.std.proofs.Common.{◌≡◌, ◌++◌, [], ◌∷◌, Some, None, length, sym, ap, ◌∙◌, rules, arith}
use Rattle.std.specs.Vec.Iter.{into_iter_items}
use Rattle.std.proofs.lemmas.List.{nil_from_length}
use Rattle.bd_core.specs.Loads.{given}
use Rattle.bd_core.proofs.QueueLemmas.{sifting_start, sifting_none, sifting_some, sifted}
use Rattle.bd_core.proofs.queue.items_of.Goals as goal

pub members-init : goal.members-init
members-init c =
    (sifting_start (given c.args.loaded.now) c.args.members _ _ (search rules) (search rules), search rules)

pub members-preserved-in-Continue-1 : goal.members-preserved-in-Continue-1
members-preserved-in-Continue-1 c =
    let steps : into_iter_items c.members.member-iterator ≡ c.in-Some.member ∷ into_iter_items c.next.new.self =
    c.in-Some.ensures.steps.0 in
    let was = c.members.invariant.1 in
    let gone = c.in-Some.ensures.steps.1 in
    let short = ap length steps in
    let some : c.item_of.result ≡ Some c.in-Some-item_of.item = search rules in
    let put : c.add.new.self ≡ c.members.items ++ c.in-Some-item_of.item ∷ [] = search rules in (
      sifting_some (given c.args.loaded.now) c.args.members c.members.items _ _ c.in-Some.member steps
          c.members.invariant.0 c.item_of.result c.item_of.ensures c.in-Some-item_of.item c.add.new.self some put,
      omega (arith, was, gone, short),
    )

pub members-preserved : goal.members-preserved
members-preserved c =
    let steps : into_iter_items c.members.member-iterator ≡ c.in-Some.member ∷ into_iter_items c.next.new.self =
    c.in-Some.ensures.steps.0 in
    let was = c.members.invariant.1 in
    let gone = c.in-Some.ensures.steps.1 in
    let short = ap length steps in
    let none : c.item_of.result ≡ None = search rules in (
      sifting_none (given c.args.loaded.now) c.args.members c.members.items _ _ c.in-Some.member steps
          c.members.invariant.0 c.item_of.result c.item_of.ensures none,
      omega (arith, was, gone, short),
    )

pub returns : goal.returns
returns c =
    let left : into_iter_items c.members.member-iterator ≡ [] =
    nil_from_length _ (sym c.members.invariant.1 ∙ c.in-None.ensures.steps.0) in
    sifted (given c.args.loaded.now) c.args.members c.members.items _ left c.members.invariant.0
