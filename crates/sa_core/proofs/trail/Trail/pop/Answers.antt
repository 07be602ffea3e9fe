use Rattle.std.proofs.Common.{length, length-set, ap, ◌∙◌, ◌≡◌, ◌∷◌, [], ◌++◌, Some, None, subst, List}
use Rattle.std.proofs.lemmas.Option.{slice_get_within}
use Rattle.sa_core.specs.declared.step.Step.{Step}
use Rattle.sa_core.specs.TrailView.{IsPlaced}
use Rattle.sa_core.proofs.TrailLemmas.{placed_pop, last_place}
use Rattle.sa_core.proofs.trail.Trail.pop.Goals as goal

pub set-requires : goal.set-requires
set-requires c =
    let old = c.args.self.now in
    let is : old.steps ≡ c.pop.new.self ++ c.in-Some.step ∷ [] = c.in-Some.ensures.value in
    slice_get_within old.places c.in-Some.step.lit.0 (Some (length c.pop.new.self))
    (last_place c.pop.new.self old.places c.in-Some.step
    (subst (λ (s : List Step). IsPlaced s old.places) is old.placed))

pub invariant_of-self : goal.invariant_of-self
invariant_of-self c =
    let old = c.args.self.now in
    let is : old.steps ≡ c.pop.new.self ++ c.in-Some.step ∷ [] = c.in-Some.ensures.value in
    record {
      few = old.few;
      size = ap length c.set.ensures ∙ length-set old.places c.in-Some.step.lit.0 None ∙ old.size;
      placed =
          placed_pop c.pop.new.self old.places c.in-Some.step
          (subst (λ (s : List Step). IsPlaced s old.places) is old.placed) c.set.new.self c.set.ensures;
    }
