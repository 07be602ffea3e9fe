-- One item more.
use Rattle.std.proofs.Common.{◌≡◌, [], ◌∷◌, length, sym, ap, rules, arith, ◌∙◌}
use Rattle.std.specs.Vec.Iter.{into_iter_items}
use Rattle.std.proofs.lemmas.List.{nil_from_length}
use Rattle.bd_core.proofs.TakeLemmas.{taking_start, taking_step, taking_end}
use Rattle.bd_core.proofs.closing.take_in.Goals as goal

pub items-init : goal.items-init
items-init c = (taking_start _ _ _ (search rules), search rules)

pub items-preserved : goal.items-preserved
items-preserved c =
    let steps : into_iter_items c.items.item-iterator ≡ c.in-Some.item ∷ into_iter_items c.next.new.self =
    c.in-Some.ensures.steps.0 in
    let was = c.items.invariant.1 in
    let gone = c.in-Some.ensures.steps.1 in
    let short = ap length steps in (
      taking_step c.args.found.now.keys c.args.items c.items.found.keys c.in-Some.item _ (search rules)
          c.insert.new.self.keys
          (search rules),
      omega (arith, was, gone, short),
    )

pub returns : goal.returns
returns c =
    let left : into_iter_items c.items.item-iterator ≡ [] =
    nil_from_length _ (sym c.items.invariant.1 ∙ c.in-None.ensures.steps.0) in
    taking_end c.args.found.now.keys c.args.items c.items.found.keys _ left c.items.invariant.0
