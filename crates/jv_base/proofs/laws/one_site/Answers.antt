-- The parts are told by their texts.
use Rattle.jv_base.proofs.SiteLemmas.{site_same}
use Rattle.jv_base.proofs.laws.one_site.Goals as goal

pub returns : goal.returns
returns c = site_same
