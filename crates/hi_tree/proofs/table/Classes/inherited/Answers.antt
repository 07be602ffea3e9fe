use Rattle.hi_tree.specs.declared.walk.Walked.{Walked}
use Rattle.std.proofs.Common.{subst}
use Rattle.hi_tree.specs.Calls.Steps.{above_name}
use Rattle.hi_tree.specs.Calls.Walking.{IsWalked}
use Rattle.hi_tree.specs.Superinterfaces.{whole_climb}
use Rattle.hi_tree.proofs.ResolveLemmas.{nothing_found}
use Rattle.hi_tree.proofs.table.Classes.inherited.Goals as goal

pub unreachable-requires : goal.unreachable-requires
unreachable-requires c =
    nothing_found c.args.self.now (above_name c.args.class) (above_name c.in-Found.field-0)
    (subst (λ (x : Walked). IsWalked (whole_climb c.args.self.now) (above_name c.args.class) x) c.in-Found.is
    c.in_ok-met.ensures.found)
