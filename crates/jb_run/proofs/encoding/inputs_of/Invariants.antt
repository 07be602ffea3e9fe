-- So many inputs are made.
use Rattle.jb_run.specs.Encoder.{IsEmpty, HasInputs}
use Rattle.jb_run.proofs.encoding.inputs_of.Given as goal

abbrev pub invariant-loop : goal.invariant-loop
invariant-loop l = IsEmpty l.fn.formula → HasInputs l.counter l.formula l.inputs.items
