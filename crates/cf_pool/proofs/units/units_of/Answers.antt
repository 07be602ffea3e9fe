-- A text with a unit at fault is no spelling of units.
use Rattle.std.proofs.Common.{◌<◌, length, sym, ◌∙◌, arith}
use Rattle.std.proofs.lemmas.Bool.{eqb-false}
use Rattle.cf_pool.proofs.UnitListLemmas.{not_units}
use Rattle.cf_pool.proofs.units.units_of.Goals as goal

pub returns-in_default-clause-outside : goal.returns-in_default-clause-outside
returns-in_default-clause-outside c =
    let so_far = c.loop-rest.invariant in
    let not_empty = eqb-false (length c.loop-rest.rest.now) 0 (sym c.is_empty.ensures ∙ c.loop-rest-test.true) in
    let more : 0 < length c.loop-rest.rest.now = omega (arith, not_empty) in
    rw c.fault_at.ensures
    (not_units c.args.bytes.now c.loop-rest.units c.loop-rest.rest.now so_far.units_fit so_far.parts more
    c.in_default.ensures.none)
