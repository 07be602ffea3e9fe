use Rattle.std.proofs.Common.{length}
use Rattle.sa_core.proofs.LitLemmas.{below_size}
use Rattle.sa_core.proofs.trail.Trail.place_of.Goals as goal

pub at-requires : goal.at-requires
at-requires c =
    below_size c.args.lit c.args.self.now.variables (length c.args.self.now.places) c.requires c.args.self.now.size
