-- What is left to write, behind what is written, is the whole.
use Rattle.std.proofs.Common.{◌≡◌, ◌++◌, drop, string_bytes}
use Rattle.std.specs.List.{flat_map}
use Rattle.jb_run.specs.Answers.{refusal_text}
use Rattle.jb_run.proofs.text.push_refusals.Given as goal

abbrev pub invariant-loop-refusal : goal.invariant-loop-refusal
invariant-loop-refusal l =
    string_bytes l.out ++ flat_map refusal_text (drop l.refusal-index l.refusals)
    ≡ string_bytes l.fn.out ++ flat_map refusal_text l.refusals
