use Rattle.std.proofs.Common.{refl}
use Rattle.jv_list.proofs.ElementLemmas.{at_contains}
use Rattle.sa_core.proofs.LitLemmas.{below_size}
use Rattle.sa_core.proofs.StartLemmas.{start_literal, start_open}
use Rattle.sa_core.proofs.start.start_at.Goals as goal

pub shown_by-requires : goal.shown_by-requires
shown_by-requires c =
    c.requires.kept.stored.within c.at.result.now
    (at_contains c.args.store.now c.args.place c.at.result.now c.at.ensures)

pub watch-requires-clause-first : goal.watch-requires-clause-first
watch-requires-clause-first c =
    below_size c.in-Open.pair.first c.args.trail.now.variables _
    (c.requires.kept.stored.within c.at.result.now
    (at_contains c.args.store.now c.args.place c.at.result.now c.at.ensures) c.in-Open.pair.first
    c.in-Open.ensures.first)
    c.requires.kept.stored.size

pub watch-requires-clause-second : goal.watch-requires-clause-second
watch-requires-clause-second c =
    below_size c.in-Open.pair.second c.args.trail.now.variables _
    (c.requires.kept.stored.within c.at.result.now
    (at_contains c.args.store.now c.args.place c.at.result.now c.at.ensures) c.in-Open.pair.second
    c.in-Open.ensures.second)
    c.requires.kept.stored.size

pub push-requires-clause-within : goal.push-requires-clause-within
push-requires-clause-within c =
    c.requires.kept.stored.within c.at.result.now
    (at_contains c.args.store.now c.args.place c.at.result.now c.at.ensures) c.in-Literal.lit
    c.in-Literal.ensures.unit.within

pub returns-in_ok-watch-in-Open-clause-starts : goal.returns-in_ok-watch-in-Open-clause-starts
returns-in_ok-watch-in-Open-clause-starts c =
    start_open c.args.trail.now.variables c.args.store.now c.args.watchers.now c.args.trail.now.steps c.requires.kept
    c.args.place c.at.result.now c.at.ensures c.in-Open.pair c.in-Open.ensures c.watch.new.self
    c.in_ok-watch-in-Open.ensures.lists c.in_ok-watch-in-Open.ensures.pairs

pub returns-in_ok-push-in-Literal-clause-starts : goal.returns-in_ok-push-in-Literal-clause-starts
returns-in_ok-push-in-Literal-clause-starts c =
    start_literal c.args.trail.now.variables c.args.store.now c.args.watchers.now c.args.trail.now.steps
    c.requires.kept c.args.place c.at.result.now c.at.ensures c.in-Literal.lit c.in-Literal.ensures _ refl refl
    c.push.new.self.steps c.in_ok-push-in-Literal.ensures.ok
