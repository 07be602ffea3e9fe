-- A literal that is true decides, one that is false changes nothing, and one that is open is kept.
use Rattle.std.proofs.Common.{◌≡◌, ◌+◌, refl, true, false, Option, Some, None, take, drop, get_or, inr, sym, ap, subst}
use Rattle.std.proofs.Common.{◌∙◌}
use Rattle.std.specs.Option.{is_some}
use Rattle.jb_run.specs.declared.formula.Lit.{Lit}
use Rattle.jb_run.specs.Solved.{known_lit}
use Rattle.jb_run.proofs.ClauseLemmas.{AreFalseBut, AreFalseBut-false, AreFalseBut-open}
use Rattle.jb_run.proofs.ClauseLemmas.{HoldsBy-true, split-in, take-in}
use Rattle.jb_run.proofs.solver.asked_by.Goals as goal
use Rattle.jb_run.proofs.solver.asked_by.Goals.{in-Some-false, in-None-2}

none-from : (o : Option Lit) → false ≡ is_some o → o ≡ None
none-from None h = refl
none-from (Some lit) h = absurd (cc)

pub returns-in-Some-true : goal.returns-in-Some-true
returns-in-Some-true c =
    let d : Lit = record { variable = 0; negated = false } in
    let lit = get_or c.deref-lit-items.result.now c.loop-lit.lit-index d in
    let known : known_lit c.args.values.now lit ≡ Some true = sym c.in-Some-true.ensures
    ∙ ap (λ z. Some z) c.in-Some-true.field-0-test in
    inr (HoldsBy-true c.args.values.now (take c.loop-lit.lit-index c.args.clause.now.lits.items)
    (drop (c.loop-lit.lit-index + 1) c.args.clause.now.lits.items) c.args.clause.now.lits.items lit
    (split-in c.deref-lit-items.result.now c.args.clause.now.lits.items c.loop-lit.lit-index d
    c.deref-lit-items.ensures.value c.loop-lit-test.true) known)

pub loop-lit-preserved : goal.loop-lit-preserved
loop-lit-preserved c =
    let d : Lit = record { variable = 0; negated = false } in
    let lit = get_or c.deref-lit-items.result.now c.loop-lit.lit-index d in
    let lits = c.args.clause.now.lits.items in
    let more =
    take-in c.deref-lit-items.result.now lits c.loop-lit.lit-index d c.deref-lit-items.ensures.value
    c.loop-lit-test.true in
    elim c.match-value_of.branch [
      | in-Some-false w ↦
          let known : known_lit c.args.values.now lit ≡ Some false = sym w.in-Some-false.ensures
          ∙ ap (λ z. Some z) w.in-Some-false.field-0-test in
          subst (AreFalseBut c.args.values.now (take (c.loop-lit.lit-index + 1) lits)) (sym w.open-is)
          (AreFalseBut-false c.args.values.now (take c.loop-lit.lit-index lits)
          (take (c.loop-lit.lit-index + 1) lits) c.loop-lit.«open» lit more known c.loop-lit.invariant)
      | in-None-2 w ↦
          let none = none-from c.loop-lit.«open» w.if-is_some.ensures in
          subst (AreFalseBut c.args.values.now (take (c.loop-lit.lit-index + 1) lits)) (sym w.open-is)
          (AreFalseBut-open c.args.values.now (take c.loop-lit.lit-index lits)
          (take (c.loop-lit.lit-index + 1) lits) lit more (sym w.in-None.ensures)
          (subst (AreFalseBut c.args.values.now (take c.loop-lit.lit-index lits)) none c.loop-lit.invariant))
    ]
