-- Each is followed, and then all are.
use Rattle.std.proofs.Common.{◌<◌, ◌≤◌, length, map, rules, arith}
use Rattle.std.proofs.lemmas.List.{length-map}
use Rattle.hi_inputs.specs.Calls.Flat.{field_of_flat}
use Rattle.hi_inputs.specs.Calls.Below.{IsBelow}
use Rattle.hi_inputs.proofs.GrowLemmas.{deepening_start, deepening_step, deepening_end}
use Rattle.hi_inputs.proofs.types.deepen.Goals as goal

pub places-init : goal.places-init
places-init c = deepening_start (IsBelow c.args.classes.now) (map field_of_flat c.args.found.now.keys) c.args.from

pub places-preserved : goal.places-preserved
places-preserved c =
    let within : c.places.place < length c.args.found.now.keys = search rules in
    deepening_step (IsBelow c.args.classes.now) (map field_of_flat c.args.found.now.keys)
    (map field_of_flat c.places.found.keys) (map field_of_flat c.follow.new.found.keys) c.args.from c.places.place
    c.places.invariant (omega (arith, within, length-map c.args.found.now.keys field_of_flat)) c.in_ok-follow.ensures

pub returns : goal.returns
returns c =
    let past : length c.args.found.now.keys ≤ c.places.place = search rules in
    deepening_end (IsBelow c.args.classes.now) (map field_of_flat c.args.found.now.keys)
    (map field_of_flat c.places.found.keys) c.args.from c.places.place c.places.invariant
    (omega (arith, past, length-map c.args.found.now.keys field_of_flat))
