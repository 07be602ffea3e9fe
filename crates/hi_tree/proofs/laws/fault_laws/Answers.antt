use Rattle.hi_tree.proofs.FaultLemmas.{resolved_fault, one_resolve_fault, field_fault, one_field_fault}
use Rattle.hi_tree.proofs.SelectFaultLemmas.{selected_fault, one_select_fault}
use Rattle.hi_tree.proofs.SpecialCallLemmas.{special_fault, one_special_fault}
use Rattle.hi_tree.proofs.laws.fault_laws.Goals as goal

pub returns-clause-resolve : goal.returns-clause-resolve
returns-clause-resolve c = λ classes interface at. record {
  none = resolved_fault classes interface at;
  one = one_resolve_fault classes interface at;
}

pub returns-clause-field : goal.returns-clause-field
returns-clause-field c = λ classes at. record { none = field_fault classes at; one = one_field_fault classes at }

pub returns-clause-select : goal.returns-clause-select
returns-clause-select c = λ classes class m. record {
  none = selected_fault classes class m;
  one = one_select_fault classes class m;
}

pub returns-clause-special : goal.returns-clause-special
returns-clause-special c = λ classes caller interface at. record {
  none = special_fault classes caller interface at;
  one = one_special_fault classes caller interface at;
}
