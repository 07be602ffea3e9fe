-- The receiver, and then the parameters.
use Rattle.std.proofs.Common.{◌⊎◌, rules}
use Rattle.hi_inputs.specs.Calls.First.{IsReceiver, IsParameter, IsFirst}
use Rattle.hi_inputs.proofs.AddLemmas.{adds_all, adds_both}
use Rattle.hi_inputs.proofs.first.first_types.Goals as goal

pub returns : goal.returns
returns c =
    adds_all (λ t. IsReceiver c.args.classes.now c.args.entry.now t ⊎ IsParameter c.args.entry.now t)
    (IsFirst c.args.classes.now c.args.entry.now) c.new-types.result c.put_parameters.new.out (search rules)
    (λ t. (λ h. h, λ h. h))
    (adds_both (IsReceiver c.args.classes.now c.args.entry.now) (IsParameter c.args.entry.now) c.new-types.result
    c.put_receiver.new.out c.put_parameters.new.out c.in_ok-put_receiver.ensures c.in_ok-put_parameters.ensures)
