use Rattle.std.proofs.Common.{◌∷◌, [], ◌++◌, List, take, get_or, sym, subst, ap, ◌∙◌}
use Rattle.std.proofs.lemmas.List.{take_more}
use Rattle.cn_clauses.specs.declared.lit.Lit.{Lit}
use Rattle.sa_core.specs.TrailView.{lits_of}
use Rattle.sa_core.specs.Analysis.{IsMinimized}
use Rattle.sa_core.proofs.MinimizeLemmas.{minimized_first, minimized_more, minimized_spare}
use Rattle.sa_core.proofs.minimize.minimized.Goals as goal
use Rattle.sa_core.proofs.minimize.minimized.Goals.{then-not-is_spare+in_ok-add-2, else-not-is_spare}

abbrev first_lit : Lit
first_lit = record { 0 = 0 }

pub loop-other-init : goal.loop-other-init
loop-other-init c =
    minimized_first c.args.store.now (lits_of c.args.trail.now.steps) c.args.seen.now c.args.lit c.add.new.self
    (c.in_ok-add.ensures.ok ∙ ap (λ (l : List Lit). l ++ c.args.lit ∷ []) c.new-lits.ensures)

pub loop-other-preserved : goal.loop-other-preserved
loop-other-preserved c =
    let clauses = c.args.store.now in
    let trail = lits_of c.args.trail.now.steps in
    let seen = c.args.seen.now in
    let lit = c.args.lit in
    let lower = c.args.lower.now in
    let i = c.loop-other.other-index in
    let other = get_or lower i first_lit in
    let front = sym (take_more lower i first_lit c.loop-other-test.true) in
    let new = c.if-not-is_spare.lits in
    subst (λ (l : List Lit). IsMinimized clauses trail seen lit l new) front
    (elim c.if-not-is_spare.branch [
      | then-not-is_spare+in_ok-add-2 w ↦
          minimized_more clauses trail seen lit (take i lower) c.loop-other.lits new other c.loop-other.invariant
          (w.lits-is ∙ w.in_ok-add-2.ensures.ok)
      | else-not-is_spare w ↦
          subst (IsMinimized clauses trail seen lit (take i lower ++ other ∷ [])) (sym w.lits-is)
          (minimized_spare clauses trail seen lit (take i lower) c.loop-other.lits other c.loop-other.invariant
          (c.is_spare.ensures w.if-not-is_spare.false))
    ])
