use Rattle.std.proofs.Common.{◌≡◌, ℕ, Bool, ◌||◌, List, Option, is_some, ◌∙◌, ap, subst}
use Rattle.hi_tree.specs.declared.declared.Declared.{Declared}
use Rattle.hi_tree.specs.Subtypes.{supertypes}
use Rattle.hi_tree.specs.Calls.Steps.{above_name}
use Rattle.hi_tree.specs.Calls.Walking.{mark_of}
use Rattle.hi_tree.specs.Calls.Choosing.{Shades, offered_of, weighed_of, choice_of}
use Rattle.hi_tree.proofs.table.Classes.look.Goals as goal

pub returns : goal.returns
returns c =
    let q : List ℕ = above_name c.args.class in
    let o : Option Declared =
    offered_of c.args.self.now c.args.start.now c.args.method.now.name c.args.method.now.desc q in
    let below : c.is_marked-below.result ≡ is_some (mark_of c.args.shaded.now q) =
    c.is_marked-below.ensures ∙ ap (λ (n : List ℕ). is_some (mark_of c.args.shaded.now n)) c.text-name.ensures in
    let holds : c.carries.result ≡ (is_some (mark_of c.args.shaded.now q) || is_some o) =
    c.carries.ensures ∙ ap (λ (b : Bool). b || is_some c.offered-offered.result) below
    ∙ ap (λ (p : Option Declared). is_some (mark_of c.args.shaded.now q) || is_some p) c.offered-offered.ensures in
    record {
      shades = subst (λ (t : Bool). Shades t (supertypes c.args.self.now q) (mark_of c.args.shaded.now)
          (mark_of c.shade.new.shaded)) holds c.in_ok-shade.ensures;
      chooses = c.weighed.ensures
          ∙ ap (λ (n : List ℕ). weighed_of (choice_of c.args.chosen) n c.offered-offered.result
          c.is_marked-below.result) c.text-name.ensures
          ∙ ap (λ (p : Option Declared). weighed_of (choice_of c.args.chosen) q p c.is_marked-below.result)
          c.offered-offered.ensures
          ∙ ap (λ (b : Bool). weighed_of (choice_of c.args.chosen) q o b) below;
    }
