use Rattle.std.proofs.Common.{take}
use Rattle.cf_code.proofs.HandlerLemmas.{IsDone}
use Rattle.cf_code.proofs.handler.put_handlers.Given as goal

abbrev pub invariant-loop-row : goal.invariant-loop-row
invariant-loop-row l = IsDone l.starts l.fn.out.items (take l.row-index l.row-items) l.out.items l.last
