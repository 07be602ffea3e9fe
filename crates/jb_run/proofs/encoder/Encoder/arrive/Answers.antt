-- The frame is put where the one that waits was taken.
use Rattle.std.proofs.Common.{refl, ◌∙◌}
use Rattle.jb_run.proofs.ArrivalLemmas.{arrives_taken}
use Rattle.jb_run.proofs.encoder.Encoder.arrive.Goals as goal

pub returns : goal.returns
returns c =
    arrives_taken c.args.self.now _ c.args.pc c.from-at.result c.len.result c.args.frame c.in_ok-met.met
    c.take-earlier.result c.index_mut.result.now c.take-earlier.new.self
    c.from-at.ensures (c.len.ensures ∙ c.args.self.now.pending.ok.0) c.if-at-len.false c.take-earlier.ensures.value
    c.index_mut.ensures.value refl refl c.in_ok-met.ensures
