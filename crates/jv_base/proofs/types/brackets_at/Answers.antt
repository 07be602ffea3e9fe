-- The brackets end where no more comes.
use Rattle.std.proofs.Common.{None, arith}
use Rattle.std.proofs.lemmas.Str.Pattern.{strip_prefix_char}
use Rattle.jv_base.proofs.types.brackets_at.Goals as goal

pub returns-clause-all : goal.returns-clause-all
returns-clause-all c =
    strip_prefix_char 91 c.loop-after.rest.now None c.in_default.ensures.cases (omega arith)
