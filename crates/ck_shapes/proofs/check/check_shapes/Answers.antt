-- A method has one flow, and that has no shapes.
use Rattle.std.proofs.Common.{◌≡◌, Option, sym, subst, ◌∙◌}
use Rattle.std.proofs.lemmas.Option.{same_Some}
use Rattle.ck_shapes.specs.declared.flow.Flow.{Flow}
use Rattle.ck_shapes.specs.declared.find.Shapes.{Shapes}
use Rattle.ck_shapes.specs.Rules.{MeetsRules, AreShapesOf}
use Rattle.ck_shapes.proofs.check.check_shapes.Goals as goal

pub returns-clause-bad_code : goal.returns-clause-bad_code
returns-clause-bad_code c e all rules =
    let same : c.in-Some.flow ≡ rules.flow =
    same_Some c.in-Some.flow rules.flow (sym c.in-Some.is ∙ c.in_ok-flow.ensures ∙ rules.is_flow) in
    let none =
    subst (λ (o : Option Shapes). AreShapesOf c.in-Some.flow o) c.in-None.is c.in_ok-shapes.ensures in
    none all (subst (λ (f : Flow). MeetsRules f all) (sym same) rules.meets)
