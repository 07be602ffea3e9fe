use Rattle.std.proofs.Common.{◌≡◌, ℕ, Bool, false, List, sym, ◌∙◌, true≢false}
use Rattle.std.specs.Str.{bytes_eq}
use Rattle.std.proofs.lemmas.Slice.Eq.{bytes_eq-Decides}
use Rattle.std.proofs.lemmas.Result.{err_from_is_err_and}
use Rattle.hi_tree.specs.Special.{fixed, own, unresolved, in_walk}
use Rattle.hi_tree.proofs.SpecialLemmas.{none_above, above_special, above_fault, special_memory}
use Rattle.hi_tree.proofs.table.Classes.special.Goals as goal
use Rattle.hi_tree.proofs.table.Classes.special.Goals.{then-is_fixed-via-then-is_fixed}
use Rattle.hi_tree.proofs.table.Classes.special.Goals.{then-is_fixed-via-else-is_fixed+then-eq}

-- what the test of two names tells
differs : (a b : List ℕ) (t : Bool) → t ≡ bytes_eq a b → t ≡ false → a ≡ b → ⊥
differs a b t is off same = true≢false (sym ((bytes_eq-Decides a b).1 same) ∙ sym is ∙ off)

pub returns-in_err-resolved-clause-fault : goal.returns-in_err-resolved-clause-fault
returns-in_err-resolved-clause-fault c =
    let p = err_from_is_err_and c.from_residual.result c.from_residual.ensures.1 in
    rw (p.1, p.2) (unresolved c.in_err-resolved.field-0.0 c.in_err-resolved.ensures.fault)

pub returns-then-is_fixed-clause-found : goal.returns-then-is_fixed-clause-found
returns-then-is_fixed-clause-found c =
    elim c.then-is_fixed.branch [
      | then-is_fixed-via-then-is_fixed w ↦
          fixed c.in_ok-resolved.resolved c.in_ok-resolved.ensures.found (c.is_fixed.ensures.0 w.if-is_fixed.true)
      | then-is_fixed-via-else-is_fixed+then-eq w ↦
          own c.in_ok-resolved.resolved c.in_ok-resolved.ensures.found
          (λ fix. true≢false (sym (c.is_fixed.ensures.1 fix) ∙ w.if-is_fixed.false))
          ((bytes_eq-Decides c.args.caller.now c.args.at.now.class).0 (sym w.eq.ensures ∙ w.if-eq.true))
    ]

pub returns-in_err-above-clause-fault : goal.returns-in_err-above-clause-fault
returns-in_err-above-clause-fault c =
    let p = err_from_is_err_and c.from_residual-in_err-above.result c.from_residual-in_err-above.ensures.1 in
    rw (p.1, p.2)
    (in_walk c.in_ok-resolved.resolved c.in_err-above.field-0.0 c.in_ok-resolved.ensures.found
    (λ fix. true≢false (sym (c.is_fixed.ensures.1 fix) ∙ c.if-is_fixed.false))
    (differs c.args.caller.now c.args.at.now.class c.eq.result c.eq.ensures c.if-eq.false)
    c.in_err-above.ensures.fault)

pub returns-in_err-at-in-Some-clause-fault : goal.returns-in_err-at-in-Some-clause-fault
returns-in_err-at-in-Some-clause-fault c =
    let p = err_from_is_err_and c.from_residual-in_err-at-in-Some.result
    c.from_residual-in_err-at-in-Some.ensures.1 in
    rw p.1 (special_memory c.args.self.now c.args.caller.now c.args.interface c.args.at.now p.0 p.2)

pub returns-in_ok-at-in-Some-clause-found : goal.returns-in_ok-at-in-Some-clause-found
returns-in_ok-at-in-Some-clause-found c =
    above_special c.args.self.now c.args.caller.now c.args.interface c.args.at.now c.in_ok-resolved.resolved
    c.in_ok-resolved.ensures.found (λ fix. true≢false (sym (c.is_fixed.ensures.1 fix) ∙ c.if-is_fixed.false))
    (differs c.args.caller.now c.args.at.now.class c.eq.result c.eq.ensures c.if-eq.false)
    c.in_ok-above.field-0 c.in_ok-above.ensures.below c.in-Some.above c.in-Some.is c.in_ok-at-in-Some.at
    (c.in_ok-at-in-Some.ensures.class ∙ c.text.ensures) c.in_ok-at-in-Some.ensures.name
    c.in_ok-at-in-Some.ensures.desc c.resolve-in-Some.result c.resolve-in-Some.ensures.found

pub returns-in_ok-at-in-Some-clause-fault : goal.returns-in_ok-at-in-Some-clause-fault
returns-in_ok-at-in-Some-clause-fault c =
    above_fault c.args.self.now c.args.caller.now c.args.interface c.args.at.now c.in_ok-resolved.resolved
    c.in_ok-resolved.ensures.found (λ fix. true≢false (sym (c.is_fixed.ensures.1 fix) ∙ c.if-is_fixed.false))
    (differs c.args.caller.now c.args.at.now.class c.eq.result c.eq.ensures c.if-eq.false)
    c.in_ok-above.field-0 c.in_ok-above.ensures.below c.in-Some.above c.in-Some.is c.in_ok-at-in-Some.at
    (c.in_ok-at-in-Some.ensures.class ∙ c.text.ensures) c.in_ok-at-in-Some.ensures.name
    c.in_ok-at-in-Some.ensures.desc c.resolve-in-Some.result c.resolve-in-Some.ensures.fault

pub returns-in-None-clause-found : goal.returns-in-None-clause-found
returns-in-None-clause-found c =
    none_above c.args.self.now c.args.caller.now c.args.interface c.args.at.now c.in_ok-resolved.resolved
    c.in_ok-resolved.ensures.found (λ fix. true≢false (sym (c.is_fixed.ensures.1 fix) ∙ c.if-is_fixed.false))
    (differs c.args.caller.now c.args.at.now.class c.eq.result c.eq.ensures c.if-eq.false)
    c.in_ok-above.field-0 c.in_ok-above.ensures.below c.in-None.is
