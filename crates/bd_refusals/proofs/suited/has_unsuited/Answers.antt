-- By the superclass, or by a superinterface.
use Rattle.std.proofs.Common.{◌↔◌, IsTrue, List, inl, inr, subst, rules}
use Rattle.cf_class.specs.declared.named.Named.{Named}
use Rattle.bd_refusals.specs.Suited.{HasUnsuited}
use Rattle.bd_refusals.specs.Calls.Suits.{HasClassAbove, HasUnsuitedSuper}
use Rattle.bd_refusals.proofs.SuitedLemmas.{super_unsuited, class_unsuited, unsuited_cases}
use Rattle.bd_refusals.proofs.suited.has_unsuited.Goals as goal

pub returns-then-has_unsuited_super : goal.returns-then-has_unsuited_super
returns-then-has_unsuited_super c = (
  λ yes. super_unsuited c.args.classes.now c.args.class.now (c.has_unsuited_super.ensures.0 yes),
  λ has. c.if-has_unsuited_super.true,
)

pub returns-else-has_unsuited_super : goal.returns-else-has_unsuited_super
returns-else-has_unsuited_super c =
    let none : HasUnsuitedSuper c.args.classes.now c.args.class.now → ⊥ = search rules in
    let above : IsTrue c.has_class_above.result ↔ HasClassAbove c.args.classes.now c.args.class.now.interfaces =
    subst (λ (l : List Named). IsTrue c.has_class_above.result ↔ HasClassAbove c.args.classes.now l) c.as_slice.ensures
    c.has_class_above.ensures in (
      λ yes. class_unsuited c.args.classes.now c.args.class.now (above.0 yes),
      λ has. elim (unsuited_cases c.args.classes.now c.args.class.now has) [
        | inl super ↦ absurd (none super)
        | inr there ↦ above.1 there
      ],
    )
