-- A unit ends before the first byte that no unit of its kind has there.
use Rattle.std.proofs.Common.{◌≡◌, ◌∷◌, arith}
use Rattle.jv_base.proofs.UnitFrontLemmas.{stops_0, stops_1, stops_2, stops_3, stops_4, stops_5, whole_unit}
use Rattle.jv_base.proofs.escaped.unit_at.Goals as goal

pub returns-in_default-clause-fault : goal.returns-in_default-clause-fault
returns-in_default-clause-fault c = (omega arith, stops_0 c.args.second c.args.text.now c.in_default.ensures.none)

pub returns-in_default-after_byte-clause-fault : goal.returns-in_default-after_byte-clause-fault
returns-in_default-after_byte-clause-fault c = (
  omega arith,
  stops_1 c.args.second c.args.text.now c.in-Some.rest.now c.in-Some.ensures.found c.in_default-after_byte.ensures.none,
)

pub returns-in_default-digit_at-clause-fault : goal.returns-in_default-digit_at-clause-fault
returns-in_default-digit_at-clause-fault c =
    let zero = c.in-Some-after_byte in
    let is : c.args.text.now ≡ 92 ∷ 117 ∷ zero.rest.now = cc (c.in-Some.ensures.found, zero.ensures.found) in
    (omega arith, stops_2 c.args.second c.args.text.now zero.rest.now is c.in_default-digit_at.ensures.none)

pub returns-in_default-digit_at-2-clause-fault : goal.returns-in_default-digit_at-2-clause-fault
returns-in_default-digit_at-2-clause-fault c =
    let zero = c.in-Some-after_byte in
    let one = c.in-Some-digit_at in (
      omega arith,
      stops_3 c.args.second c.args.text.now zero.rest.now (cc (c.in-Some.ensures.found, zero.ensures.found))
          one.a one.rest.now one.ensures.found c.in_default-digit_at-2.ensures.none,
    )

pub returns-in_default-digit_at-3-clause-fault : goal.returns-in_default-digit_at-3-clause-fault
returns-in_default-digit_at-3-clause-fault c =
    let zero = c.in-Some-after_byte in
    let one = c.in-Some-digit_at in
    let two = c.in-Some-digit_at-2 in (
      omega arith,
      stops_4 c.args.second c.args.text.now zero.rest.now (cc (c.in-Some.ensures.found, zero.ensures.found))
          one.a one.rest.now one.ensures.found two.b two.rest.now two.ensures.found
          c.in_default-digit_at-3.ensures.none,
    )

pub returns-in_default-digit_at-4-clause-fault : goal.returns-in_default-digit_at-4-clause-fault
returns-in_default-digit_at-4-clause-fault c =
    let zero = c.in-Some-after_byte in
    let one = c.in-Some-digit_at in
    let two = c.in-Some-digit_at-2 in
    let three = c.in-Some-digit_at-3 in (
      omega arith,
      stops_5 c.args.second c.args.text.now zero.rest.now (cc (c.in-Some.ensures.found, zero.ensures.found))
          one.a one.rest.now one.ensures.found two.b two.rest.now two.ensures.found
          three.c three.rest.now three.ensures.found c.in_default-digit_at-4.ensures.none,
    )

pub returns-clause-found : goal.returns-clause-found
returns-clause-found c =
    let zero = c.in-Some-after_byte in
    let one = c.in-Some-digit_at in
    let two = c.in-Some-digit_at-2 in
    let three = c.in-Some-digit_at-3 in
    let four = c.in-Some-digit_at-4 in
    whole_unit c.args.second c.args.text.now zero.rest.now (cc (c.in-Some.ensures.found, zero.ensures.found))
    one.a one.rest.now one.ensures.found two.b two.rest.now two.ensures.found
    three.c three.rest.now three.ensures.found four.unit four.rest.now four.ensures.found
