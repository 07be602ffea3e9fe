use Rattle.cf_thin.proofs.UniquenessLemmas.{none_thin}
use Rattle.cf_thin.proofs.thin.read_thin.Goals as goal

pub returns-in-Some-clause-none : goal.returns-in-Some-clause-none
returns-in-Some-clause-none c =
    none_thin c.args.class.now c.args.entry.now c.in-Some.code.now c.thin_method.result c.in-Some.ensures
    c.thin_method.ensures.none

pub returns-in-None-clause-none : goal.returns-in-None-clause-none
returns-in-None-clause-none c = λ m thin. c.in-None.ensures thin.code thin.code_of_entry
