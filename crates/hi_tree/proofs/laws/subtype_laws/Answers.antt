use Rattle.hi_tree.proofs.SubtypeLemmas.{sub_refl, sub_trans}
use Rattle.hi_tree.proofs.laws.subtype_laws.Goals as goal

pub returns-clause-reflexive : goal.returns-clause-reflexive
returns-clause-reflexive c = λ classes a. sub_refl classes a.element a.dimensions

pub returns-clause-transitive : goal.returns-clause-transitive
returns-clause-transitive c = λ classes a b d.
    sub_trans classes a.element b.element d.element a.dimensions b.dimensions d.dimensions
