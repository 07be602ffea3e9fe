use Rattle.std.proofs.Common.{◌≡◌, ◌⊎◌, ℕ, ◌<◌, ◌-◌, List, [], reverse, length, Some, sym, subst, ◌∙◌, arith}
use Rattle.std.specs.Prelude.{slice_get}
use Rattle.uw_keys.specs.declared.interval.Interval.{Interval}
use Rattle.uw_keys.specs.Calls.Backward.{BeginsBehind}
use Rattle.jv_list.proofs.LastLemmas.{last_split, last_none, reverse_last, rest_of_last}
use Rattle.uw_keys.proofs.ReachLemmas.{IsReaching, reach_end, reach_more}
use Rattle.uw_keys.proofs.backward.reach.Goals as goal

-- the end of which nothing is behind
before_last : (outer : List Interval) (i : Interval) (end : ℕ) → slice_get outer (length outer - 1) ≡ Some i
    → end < i.target → BeginsBehind (reverse outer) end
before_last outer i end last less =
    let s = last_split outer i last in
    subst (λ (is : List Interval). BeginsBehind is end) (sym (reverse_last outer s.0 i s.1)) less

pub returns-then-last-end : goal.returns-then-last-end
returns-then-last-end c =
    let last = sym c.last.ensures ∙ sym c.in-Some.ensures in
    reach_end (reverse c.args.outer.now) c.args.source c.loop-last.end (reverse c.loop-last.outer) c.loop-last.invariant
    (before_last c.loop-last.outer c.in-Some.last c.loop-last.end last c.if-last-end.true)

pub loop-last-preserved : goal.loop-last-preserved
loop-last-preserved c =
    let last = sym c.last.ensures ∙ sym c.in-Some.ensures in
    let s = last_split c.loop-last.outer c.in-Some.last last in
    let rest = rest_of_last c.loop-last.outer s.0 c.pop.new.self c.in-Some.last c.pop.result s.1 c.pop.ensures.value
    c.pop.ensures.none in
    let is = reverse_last c.loop-last.outer s.0 c.in-Some.last s.1 in
    let from : (c.max-end.result ≡ c.loop-last.end) ⊎ (c.max-end.result ≡ c.in-Some.last.end) = grind arith in
    subst (λ (os : List Interval). IsReaching (reverse c.args.outer.now) c.args.source c.max-end.result (reverse os))
    (sym rest)
    (reach_more (reverse c.args.outer.now) c.args.source c.loop-last.end (reverse c.loop-last.outer)
    c.loop-last.invariant c.in-Some.last (reverse s.0) c.max-end.result is c.if-last-end.false
    (omega (arith, c.max-end.ensures)) (omega (arith, c.max-end.ensures)) from)

pub returns : goal.returns
returns c =
    let none : c.loop-last.outer ≡ [] = last_none c.loop-last.outer (sym c.last.ensures ∙ sym c.in_default.ensures) in
    reach_end (reverse c.args.outer.now) c.args.source c.loop-last.end (reverse c.loop-last.outer) c.loop-last.invariant
    (subst (λ (os : List Interval). BeginsBehind (reverse os) c.loop-last.end) (sym none) tt)
