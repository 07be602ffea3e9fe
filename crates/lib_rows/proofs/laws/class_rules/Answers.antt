-- The rules of the table of classes.
use Rattle.lib_rows.proofs.ClassLemmas.{one_class, superclass_rule, superinterface_rule, end_rule}
use Rattle.lib_rows.proofs.laws.class_rules.Goals as goal

pub returns : goal.returns
returns c = record {
  one = one_class;
  superclasses = superclass_rule;
  superinterfaces = superinterface_rule;
  ends = end_rule;
}
