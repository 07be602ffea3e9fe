-- The bytes so far lead here.
use Rattle.std.proofs.Common.{◌≡◌, take}
use Rattle.std.specs.Prelude.{Some}
use Rattle.jv_base.specs.Calls.Progress.{run, start_of}
use Rattle.jv_base.proofs.form.is_of_form.Given as goal

abbrev pub invariant-loop-b : goal.invariant-loop-b
invariant-loop-b l = run (start_of l.fn.form) (take l.b-index l.text) ≡ Some l.progress
