-- There is one, or none.
use Rattle.std.proofs.Common.{◌≡◌, ap, rules}
use Rattle.bd_core.specs.declared.member.Member.TheVariants.{Method}
use Rattle.bd_core.specs.Given.{HasInitialiser, initialiser}
use Rattle.bd_core.specs.Loads.{given}
use Rattle.bd_core.specs.Calls.Adds.{Is}
use Rattle.bd_core.proofs.AddsLemmas.{adds_is, adds_where, adds_unless}
use Rattle.bd_core.proofs.by_member.put_initialiser.Goals as goal

pub returns-in_ok-put : goal.returns-in_ok-put
returns-in_ok-put c =
    let same : c.in_ok-method.method ≡ initialiser c.args.class.now = search rules in
    let has : HasInitialiser (given c.args.loaded.now).classes c.args.class.now = search rules in
    adds_where (HasInitialiser (given c.args.loaded.now).classes c.args.class.now)
    (Is (Method (initialiser c.args.class.now))) _ _ has
    (adds_is (Method c.in_ok-method.method) (Method (initialiser c.args.class.now)) _ _ (ap Method same) (search rules))

pub returns-else-has_initialiser : goal.returns-else-has_initialiser
returns-else-has_initialiser c =
    adds_unless (HasInitialiser (given c.args.loaded.now).classes c.args.class.now)
    (Is (Method (initialiser c.args.class.now))) _ (search rules)
