-- The order of the shapes.
use Rattle.cf_thin.proofs.KnownLemmas.{weaker_refl, weaker_trans}
use Rattle.cf_thin.proofs.laws.weaker_order.Goals as goal

pub returns : goal.returns
returns c = record { same = weaker_refl; chained = weaker_trans }
