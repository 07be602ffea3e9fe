-- What follows is taken in, and the member is grouped.
use Rattle.std.proofs.Common.{◌≡◌, rules}
use Rattle.std.proofs.lemmas.Result.{on_ok_weaker}
use Rattle.bd_core.specs.Loads.{given}
use Rattle.std.proofs.Common.{slice_get, Some}
use Rattle.bd_core.specs.Calls.Groups.{grouped}
use Rattle.bd_core.proofs.FollowLemmas.{steps_of, grouped_next}
use Rattle.bd_core.proofs.closing.follow.Goals as goal

pub returns-clause-steps : goal.returns-clause-steps
returns-clause-steps c =
    let at : slice_get c.args.found.now.keys c.args.place ≡ Some c.in-Some.member.now = search rules in
    on_ok_weaker c.take_in.result
    (steps_of (given c.args.loaded.now) (grouped c.args.groups.now) c.args.found.now.keys c.args.place
    c.requires.grouped
    c.in-Some.member.now c.in_ok-items.items c.take_in.new.found.keys at c.in_ok-items.ensures) c.take_in.ensures

pub returns-clause-grouped : goal.returns-clause-grouped
returns-clause-grouped c =
    let at : slice_get c.args.found.now.keys c.args.place ≡ Some c.in-Some.member.now = search rules in
    on_ok_weaker c.take_in.result
    (λ h. grouped_next (given c.args.loaded.now) (grouped c.args.groups.now) c.args.found.now.keys c.args.place
    c.requires.grouped c.in-Some.member.now c.in_ok-items.items c.take_in.new.found.keys (grouped c.note.new.self)
    c.requires.within at h (search rules) (search rules)) c.take_in.ensures
