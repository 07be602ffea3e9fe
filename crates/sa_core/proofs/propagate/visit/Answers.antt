use Rattle.std.proofs.Common.{◌<◌, ◌≤◌, ◌∙◌, ℕ, length, refl, subst}
use Rattle.std.proofs.lemmas.Option.{slice_get_within}
use Rattle.jv_list.proofs.ElementLemmas.{some_at}
use Rattle.sa_core.proofs.LitLemmas.{below_size}
use Rattle.sa_core.proofs.GrowLemmas.{grows_same, grows_push}
use Rattle.sa_core.proofs.AskLemmas.{pair_within, clause_within}
use Rattle.sa_core.proofs.WatchLemmas.{drops_length}
use Rattle.sa_core.proofs.PropagateLemmas.{its_place, visit_past, visit_nothing, visit_literal, other_unit}
use Rattle.sa_core.proofs.LookLemmas.{visits_on}
use Rattle.sa_core.proofs.TurnLemmas.{visit_turn}
use Rattle.sa_core.proofs.propagate.visit.Goals as goal

pub returns-then-place-length-clause-visits : goal.returns-then-place-length-clause-visits
returns-then-place-length-clause-visits c =
    visits_on c.args.trail.now.variables c.args.store.now c.args.watchers.now c.args.trail.now.steps
    c.args.trail.now.steps c.args.head c.args.lit c.args.index (grows_same c.args.trail.now.steps)
    (visit_past c.literal_laws.ensures.opposite_twice c.args.trail.now.variables c.args.store.now c.args.watchers.now
    c.args.trail.now.steps c.args.head c.args.lit c.args.index c.requires c.place_at-place.result
    (its_place c.args.watchers.now.lists.items c.args.lit.0 c.args.index c.place_at-place.result c.requires.list
    c.requires.is c.place_at-place.ensures)
    (subst (λ (n : ℕ). n ≤ c.place_at-place.result) c.length.ensures c.if-place-length.true))

pub asked_by-requires-clause-pair : goal.asked_by-requires-clause-pair
asked_by-requires-clause-pair c =
    pair_within c.args.trail.now.variables c.args.watchers.now.pairs c.args.watchers.now.lists.items
    c.place_at-place.result c.at.result.now c.requires.kept.stored.size c.requires.kept.stored.listed c.at.ensures

pub drop_at-requires-clause-within : goal.drop_at-requires-clause-within
drop_at-requires-clause-within c =
    slice_get_within c.args.watchers.now.lists.items c.args.lit.0 c.requires.list c.requires.is

pub turn-requires-clause-within : goal.turn-requires-clause-within
turn-requires-clause-within c =
    let store = c.args.store.now in
    let place = c.place_at-place.result in
    let mine = some_at store place (subst (λ (n : ℕ). place < n) c.length.ensures c.if-place-length.false) in
    let lists = c.args.watchers.now.lists.items in
    let drops = c.drop_at.ensures.drops in
    below_size c.in-Turn.pair.first c.args.trail.now.variables (length c.drop_at.new.self.lists.items)
    (clause_within c.args.trail.now.variables store place mine.0 c.in-Turn.pair.first c.requires.kept.stored.within
    mine.1 (c.in-Turn.ensures mine.0 mine.1).spare.within)
    (drops_length lists c.drop_at.new.self.lists.items c.args.lit.0 c.args.index place drops
    (its_place lists c.args.lit.0 c.args.index place drops.list drops.is c.place_at-place.ensures)
    ∙ c.requires.kept.stored.size)

pub push-requires-clause-within : goal.push-requires-clause-within
push-requires-clause-within c =
    let own = c.args.trail.now in
    let store = c.args.store.now in
    let place = c.place_at-place.result in
    let mine = some_at store place (subst (λ (n : ℕ). place < n) c.length.ensures c.if-place-length.false) in
    let unit =
    other_unit c.literal_laws.ensures.opposite_twice own.variables store c.args.watchers.now own.steps c.args.head
    c.args.lit c.args.index c.requires place
    (its_place c.args.watchers.now.lists.items c.args.lit.0 c.args.index place c.requires.list c.requires.is
    c.place_at-place.ensures)
    c.at.result.now c.at.ensures mine.0 mine.1 own.placed.apart c.in-Literal.other
    (c.in-Literal.ensures mine.0 mine.1) in
    clause_within own.variables store place mine.0 c.in-Literal.other c.requires.kept.stored.within mine.1 unit.within

pub push-requires-clause-open : goal.push-requires-clause-open
push-requires-clause-open c =
    let store = c.args.store.now in
    let place = c.place_at-place.result in
    let mine = some_at store place (subst (λ (n : ℕ). place < n) c.length.ensures c.if-place-length.false) in
    (c.in-Literal.ensures mine.0 mine.1).unset

pub returns-in-Conflict-clause-visits : goal.returns-in-Conflict-clause-visits
returns-in-Conflict-clause-visits c =
    let store = c.args.store.now in
    let place = c.place_at-place.result in
    let mine = some_at store place (subst (λ (n : ℕ). place < n) c.length.ensures c.if-place-length.false) in
    record {
      grows = grows_same c.args.trail.now.steps;
      kept = c.requires.kept;
      visited = record { lits = mine.0; stands = mine.1; fails = c.in-Conflict.ensures mine.0 mine.1 };
    }

pub returns-in-Nothing-clause-visits : goal.returns-in-Nothing-clause-visits
returns-in-Nothing-clause-visits c =
    let own = c.args.trail.now in
    let store = c.args.store.now in
    let place = c.place_at-place.result in
    let mine = some_at store place (subst (λ (n : ℕ). place < n) c.length.ensures c.if-place-length.false) in
    visits_on own.variables store c.args.watchers.now own.steps own.steps c.args.head c.args.lit c.args.index
    (grows_same own.steps)
    (visit_nothing c.literal_laws.ensures.opposite_twice own.variables store c.args.watchers.now own.steps c.args.head
    c.args.lit c.args.index c.requires place
    (its_place c.args.watchers.now.lists.items c.args.lit.0 c.args.index place c.requires.list c.requires.is
    c.place_at-place.ensures)
    c.at.result.now c.at.ensures mine.0 mine.1 (c.in-Nothing.ensures mine.0 mine.1))

pub returns-in_ok-turn-in-Turn-clause-visits : goal.returns-in_ok-turn-in-Turn-clause-visits
returns-in_ok-turn-in-Turn-clause-visits c =
    let own = c.args.trail.now in
    let store = c.args.store.now in
    let place = c.place_at-place.result in
    let mine = some_at store place (subst (λ (n : ℕ). place < n) c.length.ensures c.if-place-length.false) in
    visits_on own.variables store c.turn.new.self own.steps own.steps c.args.head c.args.lit c.args.index
    (grows_same own.steps)
    (visit_turn c.literal_laws.ensures.opposite_twice own.variables store c.args.watchers.now own.steps c.args.head
    c.args.lit c.args.index c.requires place
    (its_place c.args.watchers.now.lists.items c.args.lit.0 c.args.index place c.requires.list c.requires.is
    c.place_at-place.ensures)
    c.at.result.now c.at.ensures mine.0 mine.1 c.in-Turn.pair (c.in-Turn.ensures mine.0 mine.1) c.drop_at.new.self
    c.drop_at.ensures.drops c.drop_at.ensures.pairs c.turn.new.self c.in_ok-turn-in-Turn.ensures.lists
    c.in_ok-turn-in-Turn.ensures.pairs)

pub returns-in_ok-push-in-Literal-clause-visits : goal.returns-in_ok-push-in-Literal-clause-visits
returns-in_ok-push-in-Literal-clause-visits c =
    let own = c.args.trail.now in
    let store = c.args.store.now in
    let place = c.place_at-place.result in
    let mine = some_at store place (subst (λ (n : ℕ). place < n) c.length.ensures c.if-place-length.false) in
    visits_on own.variables store c.args.watchers.now own.steps c.push.new.self.steps c.args.head c.args.lit
    c.args.index
    (grows_push own.steps c.push.new.self.steps _ c.in_ok-push-in-Literal.ensures.ok)
    (visit_literal c.literal_laws.ensures.opposite_twice own.variables store c.args.watchers.now own.steps c.args.head
    c.args.lit c.args.index c.requires place
    (its_place c.args.watchers.now.lists.items c.args.lit.0 c.args.index place c.requires.list c.requires.is
    c.place_at-place.ensures)
    c.at.result.now c.at.ensures mine.0 mine.1 own.placed.apart c.in-Literal.other
    (c.in-Literal.ensures mine.0 mine.1) _ refl refl c.push.new.self.steps c.in_ok-push-in-Literal.ensures.ok)
