-- An escape has one unit, or two where the first is a high surrogate.
use Rattle.std.proofs.Common.{◌+◌}
use Rattle.std.proofs.lemmas.Bool.{both_ways}
use Rattle.jv_base.specs.Forms.{IsEscape}
use Rattle.jv_base.specs.Calls.Fronts.{IsLongestFront}
use Rattle.jv_base.proofs.EscapeFrontLemmas.{first_front, whole_one, whole_low, after_high}
use Rattle.jv_base.proofs.escaped.escape_front.Goals as goal

one : (c : goal.Then-not-is_high_surrogate) → IsLongestFront IsEscape c.args.text.now 6
one c =
    let unit = c.in-Ok.ensures.found in
    let other = both_ways c.is_high_surrogate.result c.if-not-is_high_surrogate.true in
    whole_one c.args.text.now c.in-Ok.unit.1.now c.in-Ok.unit.0 unit.0
    (λ from to. other (c.is_high_surrogate.ensures.1 (from, to))) unit.1

two : (c : goal.In-Ok-unit_at) → IsLongestFront IsEscape c.args.text.now 12
two c =
    let high = c.is_high_surrogate.ensures.0 c.if-not-is_high_surrogate.false in
    let low = c.in-Ok-unit_at.ensures.found in
    let last = c.in-Ok-unit_at.field-0 in
    after_high c.in-Ok.unit.0 high.0 high.1 c.args.text.now c.in-Ok.unit.1.now 6 c.in-Ok.ensures.found.1
    (whole_low c.in-Ok.unit.1.now last.1.now last.0 low.0 low.1)

part : (c : goal.In-Err-unit_at) → IsLongestFront IsEscape c.args.text.now (6 + c.in-Err-unit_at.count)
part c =
    let high = c.is_high_surrogate.ensures.0 c.if-not-is_high_surrogate.false in
    after_high c.in-Ok.unit.0 high.0 high.1 c.args.text.now c.in-Ok.unit.1.now c.in-Err-unit_at.count
    c.in-Ok.ensures.found.1 c.in-Err-unit_at.ensures.fault.1

pub returns-in-Err-clause-longest : goal.returns-in-Err-clause-longest
returns-in-Err-clause-longest c =
    first_front c.args.text.now c.in-Err.count c.in-Err.ensures.fault.0 c.in-Err.ensures.fault.1

pub returns-then-not-is_high_surrogate-clause-longest : goal.returns-then-not-is_high_surrogate-clause-longest
returns-then-not-is_high_surrogate-clause-longest c = one c

pub returns-then-not-is_high_surrogate-clause-within : goal.returns-then-not-is_high_surrogate-clause-within
returns-then-not-is_high_surrogate-clause-within c = (one c).within

pub returns-in-Ok-unit_at-clause-longest : goal.returns-in-Ok-unit_at-clause-longest
returns-in-Ok-unit_at-clause-longest c = two c

pub returns-in-Ok-unit_at-clause-within : goal.returns-in-Ok-unit_at-clause-within
returns-in-Ok-unit_at-clause-within c = (two c).within

pub returns-in-Err-unit_at-clause-longest : goal.returns-in-Err-unit_at-clause-longest
returns-in-Err-unit_at-clause-longest c = part c

pub returns-in-Err-unit_at-clause-within : goal.returns-in-Err-unit_at-clause-within
returns-in-Err-unit_at-clause-within c = (part c).within
