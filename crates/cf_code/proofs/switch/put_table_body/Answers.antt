use Rattle.std.proofs.Common.{◌++◌, ℕ, List, ap, ◌∙◌}
use Rattle.std.specs.List.{flat_map}
use Rattle.cf_code.specs.Bytes.{signed_four}
use Rattle.cf_code.specs.Switches.{far, high_key}
use Rattle.cf_code.proofs.SwitchLemmas.{put_joined}
use Rattle.cf_code.proofs.switch.put_table_body.Goals as goal

pub returns : goal.returns
returns c =
    let rest = c.in_ok-put_targets.ensures
    ∙ ap (λ (ts : List ℕ). c.put_keys.new.out.items ++ flat_map (far c.args.pc) ts) c.as_slice.ensures in
    put_joined c.args.out.now.items c.put_target.new.out.items c.put_keys.new.out.items c.put_targets.new.out.items
    (far c.args.pc c.args.switch.now.default) (signed_four c.args.switch.now.low)
    (signed_four (high_key c.args.switch.now.low c.args.switch.now.targets))
    (flat_map (far c.args.pc) c.args.switch.now.targets) c.in_ok-put_target.ensures c.in_ok-put_keys.ensures rest
