use Rattle.std.proofs.Common.{◌≡◌, ◌<◌, ℕ, Some}
use Rattle.ck_shapes.specs.declared.shape.ValueType.{ValueType}
use Rattle.ck_shapes.specs.Shape.{local_at}
use Rattle.ck_shapes.proofs.local.is_known_less.Given as goal

abbrev pub invariant-loop-at : goal.invariant-loop-at
invariant-loop-at l = (i : ℕ) (t : ValueType) → i < l.at → local_at l.less i ≡ Some t → local_at l.more i ≡ Some t
