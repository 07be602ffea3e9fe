use Rattle.std.proofs.Common.{ℕ, ◌<◌, Option, length, sym, subst}
use Rattle.std.specs.Prelude.{IfSome}
use Rattle.hi_tree.proofs.table.Classes.read_class.Goals as goal

pub at-requires : goal.at-requires
at-requires c =
    subst (λ (o : Option ℕ). IfSome o (λ place. place < length c.self.inside.classes))
    (sym c.in_ok-place.ensures.value)
    (c.self.invariant.within c.args.name.now)
