use Rattle.std.proofs.Common.{◌∙◌}
use Rattle.vm_frame.proofs.CopyLemmas.{put_top_two}
use Rattle.vm_frame.proofs.effect.swap.Goals as goal

pub returns : goal.returns
returns c = c.put_at.ensures ∙ put_top_two c.args.stack.now c.args.top c.args.under c.requires
