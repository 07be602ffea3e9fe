-- The judgements of a file, one after the other.
use Rattle.cf_bodies.proofs.PassLemmas.{joined}
use Rattle.cf_bodies.proofs.FitLemmas.{codes_short}
use Rattle.cf_bodies.proofs.laws.one_file.Goals as goal

pub returns : goal.returns
returns c = λ bytes fits.
    joined bytes (c.one_structure.ensures bytes fits) c.one_judgement.ensures
    (λ file s. c.one_verdict.ensures file (codes_short file ((c.spelled.ensures bytes file fits).0 s).0))
