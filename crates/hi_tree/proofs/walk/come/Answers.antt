use Rattle.std.proofs.Common.{◌≡◌, ℕ, Bool, true, false, List, ◌∷◌, Option, Some, None, sym, ◌∙◌, ap, subst, inl}
use Rattle.std.proofs.Common.{inr, refl, is_some}
use Rattle.hi_tree.specs.Classes.{Known, known_class}
use Rattle.hi_tree.specs.Supers.{names_above, names_above_some, sought_some}
use Rattle.hi_tree.specs.Calls.Steps.{IsMarked, above_name, known_of, sought_of}
use Rattle.hi_tree.specs.Calls.Walking.{mark_of, steps_of}
use Rattle.hi_tree.proofs.FrameLemmas.{steps_push}
use Rattle.hi_tree.proofs.walk.come.Goals as goal

pub returns-else-below-clause-comes : goal.returns-else-below-clause-comes
returns-else-below-clause-comes c = λ up.
    let off : mark_of c.args.walk.now.marks c.text-name.result.now ≡ Some false =
    sym c.in-Some.ensures.value ∙ ap (λ (b : Bool). Some b) c.if-below.false in
    inl (subst (λ (n : List ℕ). mark_of c.args.walk.now.marks n ≡ Some false) c.text-name.ensures off, refl)

pub returns-clause-comes : goal.returns-clause-comes
returns-clause-comes c = λ up.
    let name : List ℕ = above_name c.args.class in
    let k : Known = known_of c.in-Some-known.known in
    let s = sought_of c.args.sought in
    let kn : known_class c.args.classes.now name ≡ Some k = sym c.in-Some-known.ensures in
    let none : mark_of c.args.walk.now.marks c.text-name.result.now ≡ None = sym c.in_default.ensures.value in
    let free : s c.text-name.result.now k ≡ false = sym c.is_at.ensures ∙ c.if-is_at.false in
    let free_there : s name k ≡ false = subst (λ (n : List ℕ). s n k ≡ false) c.text-name.ensures free in
    let set = c.in_ok-set_mark.ensures in
    let steps : steps_of up c.add.new.self ≡ record { name = name; above = names_above up k; next = 0 } ∷ steps_of up
    c.args.walk.now.frames =
    ap (λ fs. steps_of up fs) c.in_ok-add.ensures.ok ∙ steps_push up c.args.walk.now.frames _ in
    inr (
      subst (λ (n : List ℕ). mark_of c.args.walk.now.marks n ≡ None) c.text-name.ensures none,
      ap (λ (o : Option Known). is_some o) kn,
      ap (λ (o : Option Known). sought_some (s name) o) kn ∙ free_there,
      subst (λ (n : List ℕ). IsMarked (mark_of c.args.walk.now.marks) n true
          (mark_of c.set_mark.new.marks)) c.text-name.ensures set,
      steps ∙ ap (λ (o : Option Known). record { name = name; above = names_above_some up o; next = 0 } ∷ steps_of up
          c.args.walk.now.frames) (sym kn),
      refl,
    )
