use Rattle.std.proofs.Common.{◌++◌, ap}
use Rattle.st_text.specs.Order.{difference_at}
use Rattle.st_text.proofs.OrderLemmas.{first_is, no_first_left, no_first_right}
use Rattle.st_text.proofs.laws.compare_laws.Goals as goal

pub returns-clause-units : goal.returns-clause-units
returns-clause-units c = λ a b k in_a in_b same ne. ap (difference_at a b) (first_is a b k in_a in_b same ne)

pub returns-clause-lengths : goal.returns-clause-lengths
returns-clause-lengths c =
    λ a rest. (
      ap (difference_at a (a ++ rest)) (no_first_left a rest),
      ap (difference_at (a ++ rest) a) (no_first_right a rest),
    )
