use Rattle.std.proofs.Common.{ℕ, List, subst}
use Rattle.hi_tree.specs.declared.walk.Walked.{Walked}
use Rattle.hi_tree.specs.Special.{superclass_climb}
use Rattle.hi_tree.specs.Calls.Steps.{above_name}
use Rattle.hi_tree.specs.Calls.Walking.{IsWalked}
use Rattle.hi_tree.proofs.SpecialLemmas.{super_call}
use Rattle.hi_tree.proofs.table.Classes.super_below.Goals as goal
use Rattle.hi_tree.proofs.table.Classes.super_below.Goals.{in-Found, in-Clean}

pub returns-clause-below : goal.returns-clause-below
returns-clause-below c =
    let classes = c.args.self.now in
    let class : List ℕ = c.args.class.now in
    let top : List ℕ = c.args.top.now in
    let h = subst (λ (t : List ℕ). IsWalked
    (superclass_climb classes t) class c.in_ok-walked.walked) c.as_str.ensures c.in_ok-walked.ensures.found in
    elim c.match-walked.branch [
      | in-Found w ↦
          rw w.result-is
          (super_call classes class top c.requires (above_name w.in-Found.field-0) w.superclass_of.result
          (subst (λ (x : Walked). IsWalked (superclass_climb classes top) class x) w.in-Found.is h)
          w.superclass_of.ensures)
      | in-Clean w ↦
          rw w.result-is
          (subst (λ (x : Walked). IsWalked (superclass_climb classes top) class x) w.in-Clean.is h).clean
    ]
