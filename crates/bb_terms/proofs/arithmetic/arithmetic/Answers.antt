use Rattle.std.proofs.Common.{refl}
use Rattle.bb_terms.proofs.arithmetic.arithmetic.Goals as goal

pub on_lists-requires-clause-power : goal.on_lists-requires-clause-power
unfolding lib.Count.ones
on_lists-requires-clause-power c = refl

pub on_lists-requires-in-W16-clause-power : goal.on_lists-requires-in-W16-clause-power
unfolding lib.Count.ones
on_lists-requires-in-W16-clause-power c = refl

pub on_lists-requires-in-W32-clause-power : goal.on_lists-requires-in-W32-clause-power
unfolding lib.Count.ones
on_lists-requires-in-W32-clause-power c = refl

pub on_lists-requires-in-W64-clause-power : goal.on_lists-requires-in-W64-clause-power
unfolding lib.Count.ones
on_lists-requires-in-W64-clause-power c = refl
