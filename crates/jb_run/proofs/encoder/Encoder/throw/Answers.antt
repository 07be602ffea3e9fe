use Rattle.std.proofs.Common.{◌∙◌, ap, arith}
use Rattle.std.specs.Prelude.{ℕ, slice_set}
use Rattle.jb_run.specs.declared.encoder.Encoder.{Encoder}
use Rattle.jb_run.proofs.ThrowLemmas.{throw_goes, throw_past}
use Rattle.jb_run.proofs.encoder.Encoder.throw.Goals as goal
use Rattle.jb_run.proofs.encoder.Encoder.throw.Goals.{then-from-len, else-from-len}

pub returns : goal.returns
returns c = elim c.if-from-len.branch [
  | then-from-len w ↦
      throw_goes c.args.self.now c.if-from-len.self c.args.pc c.args.next c.args.frame
      (ap (λ (e : Encoder). e.formula) w.self-is) (ap (λ (e : Encoder). e.pending.items) w.self-is)
      (ap (λ (e : Encoder). e.raised.items) w.self-is
      ∙ ap (λ (at : ℕ). slice_set c.args.self.now.raised.items at c.args.frame.guard) w.from-then-from-len.ensures)
  | else-from-len w ↦ throw_past c.args.self.now c.if-from-len.self c.args.pc c.args.next c.args.frame (omega arith)
]
