use Rattle.std.proofs.Common.{ℕ, List, subst}
use Rattle.hi_tree.specs.Calls.Walking.{mark_of, names_met}
use Rattle.hi_tree.specs.Calls.Choosing.{choice_of}
use Rattle.hi_tree.specs.Calls.Steps.{above_name}
use Rattle.hi_tree.proofs.ChoosingState.{IsChoosing, chosen}
use Rattle.hi_tree.proofs.ChooseLemmas.{looked}
use Rattle.hi_tree.proofs.FrameLemmas.{met_more}
use Rattle.hi_tree.proofs.table.Classes.choose.Goals as goal

pub loop-class-preserved : goal.loop-class-preserved
loop-class-preserved c =
    let classes = c.args.self.now in
    let start : List ℕ = c.args.start.now in
    let name : List ℕ = c.args.method.now.name in
    let desc : List ℕ = c.args.method.now.desc in
    let is = subst (λ (l : List (List ℕ)). IsChoosing classes start name desc (names_met c.args.met) l
    (mark_of c.loop-class.shaded) (choice_of c.loop-class.chosen))
    (met_more c.pop.new.self c.loop-class.met c.in-Some.class c.in-Some.ensures.value) c.loop-class.invariant in
    looked classes start name desc (names_met c.args.met) c.requires (above_name c.in-Some.class)
    (names_met c.pop.new.self) (mark_of c.loop-class.shaded) (choice_of c.loop-class.chosen) is
    (mark_of c.look.new.shaded) (choice_of c.in_ok-chosen.chosen) c.in_ok-chosen.ensures

pub returns : goal.returns
returns c =
    let classes = c.args.self.now in
    let start : List ℕ = c.args.start.now in
    let name : List ℕ = c.args.method.now.name in
    let desc : List ℕ = c.args.method.now.desc in
    chosen classes start name desc (names_met c.args.met) c.requires (mark_of c.loop-class.shaded)
    (choice_of c.loop-class.chosen)
    (subst (λ ms. IsChoosing classes start name desc (names_met c.args.met) (names_met ms)
    (mark_of c.loop-class.shaded) (choice_of c.loop-class.chosen)) c.in_default.ensures.none c.loop-class.invariant)
