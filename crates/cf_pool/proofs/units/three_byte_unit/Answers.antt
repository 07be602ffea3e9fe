-- A unit of three bytes, or none.
use Rattle.std.proofs.Common.{List, ℕ, ◌∷◌, ap, ◌∙◌, arith}
use Rattle.std.proofs.lemmas.List.{nil_from_length}
use Rattle.cf_pool.proofs.UnitLemmas.{if_none, three_found, none_of_three_end, none_of_three_second}
use Rattle.cf_pool.proofs.UnitLemmas.{none_of_three_middle, none_of_three_third, none_of_three_short}
use Rattle.cf_pool.proofs.units.three_byte_unit.Goals as goal

pub returns-in_err-second-clause-none : goal.returns-in_err-second-clause-none
returns-in_err-second-clause-none c =
    if_none c.from_residual.result _
    (none_of_three_end c.args.high c.args.bytes.now c.requires
    (nil_from_length c.args.bytes.now c.in_err-second.ensures.cases))

pub returns-in_err-middle-clause-none : goal.returns-in_err-middle-clause-none
returns-in_err-middle-clause-none c =
    if_none c.from_residual-in_err-middle.result _
    (none_of_three_second c.args.high c.in_ok-second.second.now c.args.bytes.now c.in_ok-second.rest.now c.requires
    c.in_ok-second.ensures.cases.0 c.in_err-middle.ensures.none)

pub returns-in_err-third-clause-none : goal.returns-in_err-third-clause-none
returns-in_err-third-clause-none c =
    let second = c.in_ok-second.second.now in
    let empty = nil_from_length c.in_ok-second.rest.now c.in_err-third.ensures.cases in
    if_none c.from_residual-in_err-third.result _ (none_of_three_middle c.args.high second c.args.bytes.now c.requires
    (c.in_ok-second.ensures.cases.0 ∙ ap (λ (t : List ℕ). second ∷ t) empty))

pub returns-in_err-unit-clause-none : goal.returns-in_err-unit-clause-none
returns-in_err-unit-clause-none c =
    let second = c.in_ok-second.second.now in
    if_none c.from_residual-in_err-unit.result _
    (none_of_three_third c.args.high second c.in_ok-third.third.now c.args.bytes.now c.in_ok-third.rest.now c.requires
    (c.in_ok-second.ensures.cases.0
    ∙ ap (λ (t : List ℕ). second ∷ t) c.in_ok-third.ensures.cases.0) c.in_err-unit.ensures.none)

pub returns-in-0-to-2047-clause-none : goal.returns-in-0-to-2047-clause-none
returns-in-0-to-2047-clause-none c =
    let second = c.in_ok-second.second.now in
    let middle = c.in_ok-middle.ensures.found in
    let last = c.in_ok-unit.ensures.found in
    let parts = c.in_ok-second.ensures.cases.0 ∙ ap (λ (t : List ℕ). second ∷ t) c.in_ok-third.ensures.cases.0 in
    none_of_three_short c.args.high c.in_ok-middle.middle c.in_ok-unit.field-0 c.args.bytes.now c.in_ok-third.rest.now
    c.requires middle.0 last.0 (rw (← middle.1, ← last.1) parts) (omega arith)

pub returns-in_default-clause-found : goal.returns-in_default-clause-found
returns-in_default-clause-found c =
    let second = c.in_ok-second.second.now in
    let middle = c.in_ok-middle.ensures.found in
    let last = c.in_ok-unit.ensures.found in
    let parts = c.in_ok-second.ensures.cases.0 ∙ ap (λ (t : List ℕ). second ∷ t) c.in_ok-third.ensures.cases.0 in (
      omega (arith, middle.0, last.0, c.requires),
      three_found c.args.high c.in_ok-middle.middle c.in_ok-unit.field-0 _ c.args.bytes.now c.in_ok-third.rest.now
          c.requires middle.0 last.0 (omega arith) (omega arith) (rw (← middle.1, ← last.1) parts),
    )
