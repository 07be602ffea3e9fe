-- The text is that of the name.
use Rattle.std.proofs.Common.{ℕ, List, subst}
use Rattle.jv_base.specs.Front.{StopsAt}
use Rattle.jv_base.specs.Types.{IsFieldText}
use Rattle.jv_base.proofs.types.read_field_type.Goals as goal

pub returns-clause-fault : goal.returns-clause-fault
returns-clause-fault c =
    λ place e.
    subst (λ (t : List ℕ). StopsAt IsFieldText t place) c.as_str-text.ensures (c.or_place.ensures.fault place e)
