use Rattle.std.proofs.Common.{List, ◌+◌, subst, sym}
use Rattle.jb_run.specs.declared.int_bits.IntBits.{IntBits}
use Rattle.jb_run.specs.Encoder.{HasInputs}
use Rattle.jb_run.proofs.EntryLemmas.{no_input, one_input_more}
use Rattle.jb_run.proofs.encoding.inputs_of.Goals as goal

pub loop-init : goal.loop-init
loop-init c empty = subst (λ (inputs : List IntBits). HasInputs 0 c.args.formula.now inputs)
    (sym c.new-inputs.ensures.items) (no_input c.args.formula.now empty)

pub loop-preserved : goal.loop-preserved
loop-preserved c empty =
    let has = c.loop.invariant empty in
    subst (λ (inputs : List IntBits). HasInputs (c.loop.counter + 1) c.unknown.new.formula inputs)
    (sym c.in_ok-push.ensures.items)
    (one_input_more c.loop.counter c.loop.formula c.unknown.new.formula c.loop.inputs.items _
    has (c.in_ok-unknown.ensures.input has.clauses))
