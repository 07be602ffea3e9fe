use Rattle.cf_bodies.proofs.BodyLemmas.{AreJudged}
use Rattle.cf_bodies.proofs.bodies.judge_codes.Given as goal

abbrev pub invariant-loop-code : goal.invariant-loop-code
invariant-loop-code l = AreJudged l.pool l.codes l.code-index l.bodies
