use Rattle.std.proofs.Common.{ap}
use Rattle.std.specs.Str.{bytes_eq}
use Rattle.std.specs.Map.{lookup}
use Rattle.std.specs.Prelude.{string_bytes}
use Rattle.hi_tree.proofs.IndexLemmas.{put_kept}
use Rattle.hi_tree.proofs.table.Classes.add.Goals as goal

pub invariant_of-self : goal.invariant_of-self
invariant_of-self c =
    put_kept c.put.result _ _ c.self.inside.classes _ c.args.class _ c.self.invariant (rw c.self.view_is c.requires)
    c.put.ensures.ok c.put.ensures.index c.put.ensures.unchanged
    (λ same q. ap (λ es. lookup (λ k. bytes_eq q (string_bytes k)) es) same)
