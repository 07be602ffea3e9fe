use Rattle.std.proofs.Common.{arith}
use Rattle.cf_code.proofs.SwitchLemmas.{table_long}
use Rattle.cf_code.proofs.length.table_length.Goals as goal

pub returns : goal.returns
returns c pc = omega (arith, table_long pc c.args.switch.now)
