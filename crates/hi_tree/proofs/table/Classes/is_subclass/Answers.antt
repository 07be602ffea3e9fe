use Rattle.std.proofs.Common.{ℕ, List, true≢false, sym, subst, refl}
use Rattle.hi_tree.specs.declared.walk.Walked.{Walked}
use Rattle.hi_tree.specs.Subtypes.{class_climb}
use Rattle.hi_tree.specs.Calls.Walking.{IsWalked}
use Rattle.hi_tree.proofs.SubtypeLemmas.{found_sub, clean_sub}
use Rattle.hi_tree.proofs.FaultLemmas.{clean_fault, found_fault}
use Rattle.hi_tree.proofs.table.Classes.is_subclass.Goals as goal
use Rattle.hi_tree.proofs.table.Classes.is_subclass.Goals.{in-Found, in-Clean}

pub returns-clause-decides : goal.returns-clause-decides
returns-clause-decides c =
    let classes = c.args.self.now in
    let class : List ℕ = c.args.class.now in
    let top : List ℕ = c.args.top.now in
    let h = subst (λ (t : List ℕ). IsWalked
    (class_climb classes t) class c.in_ok-walked.walked) c.as_str.ensures c.in_ok-walked.ensures.found in
    elim c.match-walked.branch [
      | in-Found w ↦
          rw w.result-is (
            (λ yes. found_sub classes class top _ (subst (λ (x : Walked). IsWalked
                (class_climb classes top) class x) w.in-Found.is h)),
            (λ sub. refl),
          )
      | in-Clean w ↦
          rw w.result-is (
            (λ yes. absurd (true≢false (sym yes))),
            (λ sub. absurd (clean_sub classes class top (subst (λ (x : Walked). IsWalked
                (class_climb classes top) class x) w.in-Clean.is h).clean sub)),
          )
    ]

pub returns-clause-whole : goal.returns-clause-whole
returns-clause-whole c =
    let w = class_climb c.args.self.now c.args.top.now in
    let class : List ℕ = c.args.class.now in
    let h = subst (λ (t : List ℕ). IsWalked
    (class_climb c.args.self.now t) class c.in_ok-walked.walked) c.as_str.ensures c.in_ok-walked.ensures.found in
    elim c.match-walked.branch [
      | in-Found b ↦
          rw b.result-is
          (λ f. found_fault w class f _ (subst (λ (x : Walked). IsWalked w class x) b.in-Found.is h))
      | in-Clean b ↦
          rw b.result-is
          (λ f. clean_fault w class f (subst (λ (x : Walked). IsWalked w class x) b.in-Clean.is h).clean)
    ]
