use Rattle.std.proofs.Common.{◌≡◌, take}
use Rattle.std.specs.List.{filter}
use Rattle.cf_code.specs.Kinds.{has}
use Rattle.cf_code.proofs.kind_set.KindSet.to_list.Given as goal

abbrev pub invariant-loop-kind : goal.invariant-loop-kind
invariant-loop-kind l = l.kinds.items ≡ filter (has l.self) (take l.kind-index l.kind-items)
