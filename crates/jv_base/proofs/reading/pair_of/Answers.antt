-- A high surrogate wants a low one.
use Rattle.std.proofs.Common.{sym, subst, arith}
use Rattle.std.specs.Char.{IsScalar}
use Rattle.std.proofs.lemmas.Bool.{both_ways}
use Rattle.jv_base.proofs.EscapeLemmas.{IsPair, pair_no_high, pair_no_low, pair_no_other, pair_found}
use Rattle.jv_base.proofs.reading.pair_of.Goals as goal
use Rattle.jv_list.proofs.TestLemmas.{if_none}

pub returns-then-high-ge56320-clause-none : goal.returns-then-high-ge56320-clause-none
returns-then-high-ge56320-clause-none c =
    pair_no_high c.args.high c.requires.from c.requires.to c.args.text.now c.if-high-ge56320.true

pub returns-in_err-low-clause-none : goal.returns-in_err-low-clause-none
returns-in_err-low-clause-none c =
    if_none c.from_residual.result _
    (pair_no_low c.args.high c.requires.from c.requires.to c.args.text.now c.in_err-low.ensures.none)

pub returns-then-not-is_low_surrogate-clause-none : goal.returns-then-not-is_low_surrogate-clause-none
returns-then-not-is_low_surrogate-clause-none c =
    let low = c.in_ok-low in
    let other = both_ways c.is_low_surrogate.result c.if-not-is_low_surrogate.true in
    pair_no_other c.args.high c.requires.from c.requires.to c.args.text.now low.low low.rest.now low.ensures.found.0
    low.ensures.found.1 (λ h. other (c.is_low_surrogate.ensures.1 h))

pub returns-clause-found : goal.returns-clause-found
returns-clause-found c =
    let value = c.in_ok-c.ensures.value in
    let low = c.is_low_surrogate.ensures.0 c.if-not-is_low_surrogate.false in
    let pair : IsPair c.args.high c.in_ok-low.low =
    record { from = c.requires.from; to = omega arith; from_low = low.0; to_low = low.1 } in (
      subst IsScalar (sym value.1) value.0,
      pair_found c.args.high c.in_ok-low.low c.in_ok-c.c c.args.text.now c.in_ok-low.rest.now pair
          (omega (arith, value.1)) c.in_ok-low.ensures.found.1,
    )
