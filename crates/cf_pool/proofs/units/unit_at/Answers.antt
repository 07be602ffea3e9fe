-- The unit at the front, by its first byte.
use Rattle.std.proofs.Common.{List, ℕ, ◌∷◌, ◌<◌, ◌≤◌, length, sym, ap, subst, ◌∙◌, arith}
use Rattle.std.proofs.lemmas.List.{nil_from_length}
use Rattle.cf_pool.specs.ModifiedUtf8.{BeginNoUnit}
use Rattle.cf_pool.proofs.UnitLemmas.{if_none, one_found, none_of_nil, none_of_first, all_shorter}
use Rattle.cf_pool.proofs.units.unit_at.Goals as goal
use Rattle.cf_pool.proofs.units.unit_at.Goals.{in_default-via-then-first-lt1}
use Rattle.cf_pool.proofs.units.unit_at.Goals.{in_default-via-else-first-lt1+else-first-lt128+then-first-lt192}
use Rattle.cf_pool.proofs.units.unit_at.Goals.{in_default-via-else-first-lt1+else-first-lt128+else-first-lt192+else-first-lt224+else-first-lt240}

pub returns-in_err-first-clause-none : goal.returns-in_err-first-clause-none
returns-in_err-first-clause-none c =
    let empty = nil_from_length c.args.bytes.now c.in_err-first.ensures.cases in
    if_none c.from_residual.result _ (subst (λ (t : List ℕ). BeginNoUnit t) (sym empty) none_of_nil)

pub returns-in-1-to-127-clause-found : goal.returns-in-1-to-127-clause-found
returns-in-1-to-127-clause-found c = (
  omega arith,
  c.in_ok-first.ensures.cases.0 ∙ ap (λ (b : ℕ). b ∷ c.in_ok-first.rest.now) (sym c.from.ensures)
      ∙ one_found c.from.result c.in_ok-first.rest.now (omega arith) (omega arith),
)

pub returns-in-192-to-223-clause-shorter : goal.returns-in-192-to-223-clause-shorter
returns-in-192-to-223-clause-shorter c =
    all_shorter c.two_byte_unit.result _ c.args.bytes.now
    (omega (arith, ap length c.in_ok-first.ensures.cases.0)) c.two_byte_unit.ensures.found

pub returns-in-224-to-239-clause-shorter : goal.returns-in-224-to-239-clause-shorter
returns-in-224-to-239-clause-shorter c =
    all_shorter c.three_byte_unit.result _ c.args.bytes.now
    (omega (arith, ap length c.in_ok-first.ensures.cases.0)) c.three_byte_unit.ensures.found

pub returns-in_default-clause-none : goal.returns-in_default-clause-none
returns-in_default-clause-none c =
    let first = c.in_ok-first.first.now in
    let low : 0 < first → 0x80 ≤ first = λ above.
    elim c.in_default.branch [
      | in_default-via-then-first-lt1 w ↦ omega arith
      | in_default-via-else-first-lt1+else-first-lt128+then-first-lt192 w ↦ omega arith
      | in_default-via-else-first-lt1+else-first-lt128+else-first-lt192+else-first-lt224+else-first-lt240 w ↦
          omega arith
    ] in
    let high : 0xc0 ≤ first → 0xf0 ≤ first = λ long.
    elim c.in_default.branch [
      | in_default-via-then-first-lt1 w ↦ omega arith
      | in_default-via-else-first-lt1+else-first-lt128+then-first-lt192 w ↦ omega arith
      | in_default-via-else-first-lt1+else-first-lt128+else-first-lt192+else-first-lt224+else-first-lt240 w ↦
          omega arith
    ] in
    subst (λ (t : List ℕ). BeginNoUnit t) (sym c.in_ok-first.ensures.cases.0)
    (none_of_first first c.in_ok-first.rest.now low high)
