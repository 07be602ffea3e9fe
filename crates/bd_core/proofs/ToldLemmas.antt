-- What the hierarchy tells: a target exactly where there is one.
use Rattle.std.proofs.Common.{◌≡◌, List, Option, Some, Result, Ok, Err}
use Rattle.std.proofs.Common.{sym, ap, subst, ◌∙◌}
use Rattle.std.specs.Prelude.{IfOk, IfErr}
use Rattle.std.proofs.lemmas.Option.{none-some, same_Some}
use Rattle.hi_tree.specs.declared.fault.TreeFault.{TreeFault}
use Rattle.hi_tree.specs.declared.fault.TreeFault.TheVariants.{NoMemory}
use Rattle.bd_core.specs.declared.member.Member.{Member}
use Rattle.bd_core.specs.Calls.Adds.{Adds, OfSome, Tells, IsToldBy}
use Rattle.bd_core.proofs.AddsLemmas.{adds_same}

module _ {A : Type 0} (relation : A → Type 0) where
  -- an answer that is right tells the relation
  module _ (IsFault : TreeFault → Type 0) (one : (a b : A) → relation a → relation b → a ≡ b)
      (none : (a : A) (f : TreeFault) → relation a → IsFault f → f ≡ NoMemory) where
    pub tells : (answer : Result A TreeFault) (o : Option A) → IfOk answer relation → IfErr answer IsFault
        → IsToldBy answer o → Tells o relation
    tells (Ok a) o found fault e b = (
      (λ f. subst relation (same_Some a b (sym e ∙ f)) found),
      (λ h. e ∙ ap (λ c. Some c) (one a b found h)),
    )
    tells (Err f) o found fault told b = (
      (λ e. absurd (none-some b (sym told.0 ∙ e))),
      (λ h. absurd (told.1 (none b f h fault))),
    )

-- what a rule gives for what is told
module _ {A : Type 0} (relation : A → Type 0) (rule : A → Member → Type 0) where
  abbrev pub OfTold : Member → Type 0
  OfTold x = (a : A) × relation a × rule a x

  pub adds_told : (o : Option A) (old new : List Member) → Tells o relation → Adds (OfSome o rule) old new
      → Adds OfTold old new
  adds_told o old new tells adds =
      adds_same (OfSome o rule) OfTold old new (λ x h. (h.0, (tells h.0).0 h.1, h.2))
      (λ x h. (h.0, (tells h.0).1 h.1, h.2)) adds
