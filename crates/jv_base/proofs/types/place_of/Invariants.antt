-- The characters so far lead to the progress.
use Rattle.std.proofs.Common.{◌≡◌, length, Some}
use Rattle.std.specs.Prelude.{encode_utf8_all}
use Rattle.jv_base.specs.Calls.Progress.{run, start_of}
use Rattle.jv_base.proofs.types.place_of.Given as goal

abbrev pub invariant-loop-c : goal.invariant-loop-c
invariant-loop-c l = record {
  count : l.place ≡ length l.yielded;
  leads : run (start_of l.fn.form) (encode_utf8_all l.yielded) ≡ Some l.progress;
}
