use Rattle.vm_frame.proofs.LawLemmas.{raises_its_kinds, follows_its_ways, kept_is}
use Rattle.vm_frame.specs.Steps.{frame_effect}
use Rattle.vm_frame.proofs.laws.step_laws.Goals as goal

pub returns : goal.returns
returns c = record {
  kinds = raises_its_kinds;
  ways = follows_its_ways;
  keeps = λ instr next frame. kept_is instr next frame (frame_effect instr frame);
}
