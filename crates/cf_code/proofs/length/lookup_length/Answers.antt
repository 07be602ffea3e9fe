use Rattle.std.proofs.Common.{arith}
use Rattle.cf_code.proofs.SwitchLemmas.{lookup_long}
use Rattle.cf_code.proofs.length.lookup_length.Goals as goal

pub returns : goal.returns
returns c pc = omega (arith, lookup_long pc c.args.switch.now)
