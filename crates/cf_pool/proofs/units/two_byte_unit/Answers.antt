-- A unit of two bytes, or none.
use Rattle.std.proofs.Common.{arith}
use Rattle.std.proofs.lemmas.List.{nil_from_length}
use Rattle.cf_pool.proofs.UnitLemmas.{if_none, two_found, none_of_two_end, none_of_two_second, none_of_two_short}
use Rattle.cf_pool.proofs.units.two_byte_unit.Goals as goal
use Rattle.cf_pool.proofs.units.two_byte_unit.Goals.{in_default-via-then-unit-lt1}
use Rattle.cf_pool.proofs.units.two_byte_unit.Goals.{in_default-via-else-unit-lt1+else-this-lt128}

pub returns-in_err-second-clause-none : goal.returns-in_err-second-clause-none
returns-in_err-second-clause-none c =
    if_none c.from_residual.result _
    (none_of_two_end c.args.high c.args.bytes.now c.requires
    (nil_from_length c.args.bytes.now c.in_err-second.ensures.cases))

pub returns-in_err-unit-clause-none : goal.returns-in_err-unit-clause-none
returns-in_err-unit-clause-none c =
    if_none c.from_residual-in_err-unit.result _
    (none_of_two_second c.args.high c.in_ok-second.second.now c.args.bytes.now c.in_ok-second.rest.now c.requires
    c.in_ok-second.ensures.cases.0 c.in_err-unit.ensures.none)

pub returns-in-1-to-127-clause-none : goal.returns-in-1-to-127-clause-none
returns-in-1-to-127-clause-none c =
    let bits = c.in_ok-unit.field-0 in
    let found = c.in_ok-unit.ensures.found in
    none_of_two_short c.args.high bits c.args.bytes.now c.in_ok-second.rest.now c.requires found.0
    (rw (← found.1) c.in_ok-second.ensures.cases.0) (omega arith) (omega arith)

pub returns-in_default-clause-found : goal.returns-in_default-clause-found
returns-in_default-clause-found c =
    let bits = c.in_ok-unit.field-0 in
    let found = c.in_ok-unit.ensures.found in (
      omega (arith, found.0, c.requires),
      two_found c.args.high bits _ c.args.bytes.now c.in_ok-second.rest.now c.requires found.0 (omega arith)
          (λ above. elim c.in_default.branch [
            | in_default-via-then-unit-lt1 w ↦
                omega arith
            | in_default-via-else-unit-lt1+else-this-lt128 w ↦ omega arith
          ])
          (rw (← found.1) c.in_ok-second.ensures.cases.0),
    )
