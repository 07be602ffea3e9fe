-- The instructions below the pc are encoded.
use Rattle.jb_run.proofs.LoopLemmas.{LoopsOn}
use Rattle.jb_run.proofs.encoding.encode.Given as goal

abbrev pub invariant-pcs : goal.invariant-pcs
invariant-pcs l = LoopsOn l.fn.code l.fn.params l.inputs-inside.items.items l.encoder l.pc
