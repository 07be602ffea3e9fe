-- The units so far were added.
use Rattle.std.proofs.Common.{◌≡◌, pos, map, take}
use Rattle.serde_json.specs.View.{view}
use Rattle.tr_inputs.specs.Values.{integer}
use Rattle.tr_inputs.proofs.tree.text_value.Given as goal

abbrev pub invariant-loop-unit : goal.invariant-loop-unit
invariant-loop-unit l = map view l.values.items ≡ map (λ unit. integer (pos unit)) (take l.unit-index l.units)
