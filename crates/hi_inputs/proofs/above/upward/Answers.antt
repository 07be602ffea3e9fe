-- Each class is followed, and then all are.
use Rattle.std.proofs.Common.{◌≤◌, length, rules}
use Rattle.hi_inputs.proofs.UpwardLemmas.{climbing_start, climbing_step, climbing_end}
use Rattle.hi_inputs.proofs.above.upward.Goals as goal

pub places-init : goal.places-init
places-init c = climbing_start c.args.classes.now c.args.up c.args.class.now _ (search rules)

pub places-preserved : goal.places-preserved
places-preserved c =
    climbing_step c.args.classes.now c.args.up c.args.class.now c.places.found.keys c.climb.new.found.keys
    c.places.place c.places.invariant (search rules) c.in_ok-climb.ensures

pub returns : goal.returns
returns c =
    let past : length c.places.found.keys ≤ c.places.place = search rules in
    climbing_end c.args.classes.now c.args.up c.args.class.now c.places.found.keys c.places.place c.places.invariant
    past
