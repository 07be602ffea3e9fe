-- The receiver's type is that of its class.
use Rattle.std.proofs.Common.{◌≡◌, sym, ap, ◌∙◌, rules}
use Rattle.std.proofs.lemmas.Result.{on_ok_weaker}
use Rattle.hi_tree.specs.Inputs.{class_type}
use Rattle.hi_inputs.specs.Calls.First.{IsReceiver}
use Rattle.hi_inputs.proofs.AddLemmas.{adds_one}
use Rattle.hi_inputs.proofs.first.put_receiver.Goals as goal

pub returns : goal.returns
returns c =
    let same : c.in_ok-copy.field-0 ≡ c.args.entry.now.class = search rules in
    on_ok_weaker c.add.result
    (λ grows.
    adds_one (IsReceiver c.args.classes.now c.args.entry.now) c.args.out.now c.add.new.self _ grows
    (λ t. (
      λ r. r.type ∙ ap class_type (sym same),
      λ e. record {
        class = c.in-Some.class.now;
        method = c.in-Some-member_in.method.now;
        read = search rules;
        declared = search rules;
        instance = search rules;
        type = e ∙ ap class_type same;
      },
    ))) c.add.ensures.ok
