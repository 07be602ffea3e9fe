use Rattle.std.proofs.Common.{ℕ, List, [], sym, subst}
use Rattle.uw_keys.specs.declared.interval.Interval.{Interval}
use Rattle.uw_keys.proofs.LoopLemmas.{IsLeft, all_left, one_less}
use Rattle.uw_keys.proofs.backward.nested.Goals as goal

pub loop-target-init : goal.loop-target-init
loop-target-init c =
    let all : List (ℕ × ℕ) = c.args.pairs.items in
    subst (λ (outer : List Interval). IsLeft all all c.new-found.result outer) (sym c.new-outer.ensures)
    (subst (λ (found : List Interval). IsLeft all all found []) (sym c.new-found.ensures) (all_left all))

pub loop-target-preserved : goal.loop-target-preserved
loop-target-preserved c =
    one_less c.args.pairs.items c.loop-target.pairs.items c.loop-target.found c.loop-target.outer c.requires
    c.loop-target.invariant c.pop.new.self.items c.in-Some.target c.in-Some.source c.in-Some.ensures.items
    c.take_in.new.found c.take_in.new.outer c.in_ok-take_in.ensures
