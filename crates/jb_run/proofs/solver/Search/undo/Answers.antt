-- The last of the trail is taken back.
use Rattle.std.proofs.Common.{◌≡◌, ◌≤◌, ◌∙◌, ◌++◌, ◌∷◌, [], length, take, drop, ap, sym, arith}
use Rattle.jb_run.specs.Solved.{cleared}
use Rattle.jb_run.proofs.AssignmentLemmas.{undo-one}
use Rattle.jb_run.proofs.solver.Search.undo.Goals as goal

pub loop-self-preserved-in-Some : goal.loop-self-preserved-in-Some
loop-self-preserved-in-Some c =
    let e : c.loop-self.self.trail.items ≡ c.pop.new.self.items ++ c.in-Some.variable ∷ [] = c.in-Some.ensures.items in
    let number : length c.pop.new.self.items ≡ c.pop.new.self.len = sym c.pop.new.self.ok.0 in
    let few : c.args.length ≤ length c.pop.new.self.items = omega (arith, c.in-Some.ensures.len, number) in
    let one =
    undo-one c.args.length c.loop-self.self.trail.items c.pop.new.self.items c.in-Some.variable
    c.loop-self.self.values.items c.clear.new.self.values.items e few c.clear.ensures.values in
    record {
      values = ap (λ z. cleared (drop c.args.length z) c.clear.new.self.values.items) c.clear.ensures.trail ∙ one.0
          ∙ c.loop-self.invariant.values;
      trail = ap (take c.args.length) c.clear.ensures.trail ∙ one.1 ∙ c.loop-self.invariant.trail;
    }
