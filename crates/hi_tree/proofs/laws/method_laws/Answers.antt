use Rattle.hi_tree.proofs.MethodLawLemmas.{one_resolved, one_selected, callable, selects_itself}
use Rattle.hi_tree.proofs.FaultLemmas.{one_field}
use Rattle.hi_tree.proofs.SpecialCallLemmas.{one_special}
use Rattle.hi_tree.proofs.laws.method_laws.Goals as goal

pub returns-clause-resolved : goal.returns-clause-resolved
returns-clause-resolved c = λ classes interface at a b. one_resolved classes interface at a b

pub returns-clause-selected : goal.returns-clause-selected
returns-clause-selected c = λ classes class m a b. one_selected classes m class a b

pub returns-clause-callable : goal.returns-clause-callable
returns-clause-callable c = λ classes class m selected. callable classes m class selected

pub returns-clause-itself : goal.returns-clause-itself
returns-clause-itself c = λ classes m selected d decl static body plain.
    selects_itself classes m d decl static body plain selected

pub returns-clause-field : goal.returns-clause-field
returns-clause-field c = λ classes at a b. one_field classes at a b

pub returns-clause-special : goal.returns-clause-special
returns-clause-special c = λ classes caller interface at a b. one_special classes caller interface at a b
