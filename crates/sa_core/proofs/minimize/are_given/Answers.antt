use Rattle.std.proofs.Common.{◌∙◌, List, take, get_or, sym, subst, inl, inr}
use Rattle.std.proofs.lemmas.List.{take_more}
use Rattle.std.proofs.lemmas.List.Elements.{Contains-push_cases}
use Rattle.cn_clauses.specs.declared.lit.Lit.{Lit}
use Rattle.sa_core.specs.TrailView.{lits_of}
use Rattle.sa_core.specs.Analysis.{IsSeenFalse, AreSeenFalse}
use Rattle.sa_core.proofs.minimize.are_given.Goals as goal

abbrev first_lit : Lit
first_lit = record { 0 = 0 }

pub loop-lit-preserved : goal.loop-lit-preserved
loop-lit-preserved c =
    let trail = lits_of c.args.trail.now.steps in
    let seen = c.args.seen.now in
    let lits = c.args.lits.now in
    let i = c.loop-lit.lit-index in
    let now = get_or lits i first_lit in
    subst (λ (l : List Lit). AreSeenFalse trail seen l c.args.but)
    (sym (take_more lits i first_lit c.loop-lit-test.true))
    (λ lit has ne.
    elim (Contains-push_cases (take i lits) now lit has) [
      | inl there ↦ c.loop-lit.invariant lit there ne
      | inr same ↦
          subst (IsSeenFalse trail seen) same
          (c.is_given.ensures c.if-not-is_given.false (λ e. ne (sym same ∙ e)))
    ])
