use Rattle.std.proofs.Common.{length, length-set, ap, ◌∙◌, ◌≡◌, Some, set}
use Rattle.sa_core.proofs.LitLemmas.{below_size}
use Rattle.sa_core.proofs.TrailLemmas.{placed_push, open_empty}
use Rattle.sa_core.proofs.trail.Trail.push.Goals as goal

pub set-requires : goal.set-requires
set-requires c =
    below_size c.args.step.lit c.args.self.now.variables (length c.args.self.now.places) c.requires.within
    c.args.self.now.size

pub invariant_of-self-2 : goal.invariant_of-self-2
invariant_of-self-2 c =
    let old = c.args.self.now in
    let lit = c.args.step.lit in
    let empty =
    open_empty old.steps old.places lit old.placed c.requires.open
    (below_size lit old.variables (length old.places) c.requires.within old.size) in
    let is : c.set.new.self ≡ set old.places lit.0 (Some (length old.steps)) =
    c.set.ensures ∙ ap (λ n. set old.places lit.0 (Some n)) c.length-place.ensures in
    record {
      few = old.few;
      size = ap length is ∙ length-set old.places lit.0 (Some (length old.steps)) ∙ old.size;
      placed =
          placed_push c.literal_laws.ensures.opposite_twice old.steps old.places c.args.step old.placed c.requires.open
          empty c.add.new.self c.set.new.self c.in_ok-add.ensures.ok is;
    }
