-- A unit is read byte by byte.
use Rattle.std.proofs.Common.{◌≡◌, ◌∷◌, false, arith}
use Rattle.std.specs.Fmt.{digit_glyph}
use Rattle.jv_base.proofs.UnitLemmas.{no_backslash, no_u, no_first_digit, no_second_digit, no_third_digit}
use Rattle.jv_base.proofs.UnitLemmas.{no_fourth_digit, unit_found}
use Rattle.jv_base.proofs.reading.unit_of.Goals as goal
use Rattle.jv_list.proofs.TestLemmas.{if_none}

pub returns-in_err-rest-clause-none : goal.returns-in_err-rest-clause-none
returns-in_err-rest-clause-none c =
    if_none c.from_residual.result _ (no_backslash c.args.text.now c.in_err-rest.ensures.none)

pub returns-in_err-rest-2-clause-none : goal.returns-in_err-rest-2-clause-none
returns-in_err-rest-2-clause-none c =
    let rest = c.in_ok-rest in
    if_none c.from_residual-in_err-rest-2.result _
    (no_u c.args.text.now rest.rest.now rest.ensures.found c.in_err-rest-2.ensures.none)

pub returns-in_err-a-clause-none : goal.returns-in_err-a-clause-none
returns-in_err-a-clause-none c =
    if_none c.from_residual-in_err-a.result _
    (no_first_digit c.args.text.now c.in_ok-rest-2.rest.now
    (cc (c.in_ok-rest.ensures.found, c.in_ok-rest-2.ensures.found)) c.in_err-a.ensures.none)

pub returns-in_err-b-clause-none : goal.returns-in_err-b-clause-none
returns-in_err-b-clause-none c =
    let a = c.in_ok-a in
    if_none c.from_residual-in_err-b.result _
    (no_second_digit c.args.text.now a.rest.now (digit_glyph false a.a)
    (cc (c.in_ok-rest.ensures.found, c.in_ok-rest-2.ensures.found, a.ensures.found.1)) c.in_err-b.ensures.none)

pub returns-in_err-c-clause-none : goal.returns-in_err-c-clause-none
returns-in_err-c-clause-none c =
    let a = c.in_ok-a in
    let b = c.in_ok-b in
    if_none c.from_residual-in_err-c.result _
    (no_third_digit c.args.text.now b.rest.now (digit_glyph false a.a) (digit_glyph false b.b)
    (cc (c.in_ok-rest.ensures.found, c.in_ok-rest-2.ensures.found, a.ensures.found.1, b.ensures.found.1))
    c.in_err-c.ensures.none)

pub returns-in_err-d-clause-none : goal.returns-in_err-d-clause-none
returns-in_err-d-clause-none c =
    let a = c.in_ok-a in
    let b = c.in_ok-b in
    let d = c.in_ok-c in
    let start : c.args.text.now ≡ 92 ∷ 117 ∷ c.in_ok-rest-2.rest.now =
    cc (c.in_ok-rest.ensures.found, c.in_ok-rest-2.ensures.found) in
    if_none c.from_residual-in_err-d.result _
    (no_fourth_digit c.args.text.now d.rest.now (digit_glyph false a.a) (digit_glyph false b.b) (digit_glyph false d.c)
    (cc (start, a.ensures.found.1, b.ensures.found.1, d.ensures.found.1)) c.in_err-d.ensures.none)

pub returns-clause-found : goal.returns-clause-found
returns-clause-found c =
    let a = c.in_ok-a in
    let b = c.in_ok-b in
    let d = c.in_ok-c in
    let f = c.in_ok-d in
    let start : c.args.text.now ≡ 92 ∷ 117 ∷ c.in_ok-rest-2.rest.now =
    cc (c.in_ok-rest.ensures.found, c.in_ok-rest-2.ensures.found) in (
      omega (arith, a.ensures.found.0, b.ensures.found.0, d.ensures.found.0, f.ensures.found.0),
      unit_found c.args.text.now f.rest.now a.a b.b d.c f.d
          (a.ensures.found.0, b.ensures.found.0, d.ensures.found.0, f.ensures.found.0)
          (cc (start, a.ensures.found.1, b.ensures.found.1, d.ensures.found.1, f.ensures.found.1)),
    )
