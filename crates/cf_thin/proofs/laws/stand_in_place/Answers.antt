-- The places of code are its instructions.
use Rattle.cf_thin.proofs.StandingLemmas.{in_place}
use Rattle.cf_thin.proofs.laws.stand_in_place.Goals as goal

pub returns : goal.returns
returns c = in_place
