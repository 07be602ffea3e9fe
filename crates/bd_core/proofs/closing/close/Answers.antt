-- Each member is followed, and then all are.
use Rattle.std.proofs.Common.{sym, subst, rules}
use Rattle.std.proofs.lemmas.Result.{IfOk-weaker}
use Rattle.bd_core.specs.Loads.{given}
use Rattle.bd_core.specs.Least.{IsLeast}
use Rattle.bd_core.proofs.GroupLemmas.{grouped_start}
use Rattle.bd_core.proofs.StepLemmas.{closing_start, closing_step}
use Rattle.bd_core.proofs.ClosingLemmas.{least}
use Rattle.bd_core.proofs.closing.close.Goals as goal

pub places-init : goal.places-init
places-init c = (
  closing_start (given c.args.loaded.now) c.args.start _ (search rules),
  grouped_start _ (search rules) (search rules),
)

pub places-preserved : goal.places-preserved
places-preserved c = (
  closing_step (given c.args.loaded.now) c.args.start c.places.found.keys _ c.places.place c.places.invariant.0
      (search rules) (search rules),
  search rules,
)

pub returns : goal.returns
returns c = λ j entry.
    IfOk-weaker c.list_of.result _ (IsLeast j (given c.args.loaded.now))
    (λ list e. subst (IsLeast j (given c.args.loaded.now)) (sym e)
    (least j (given c.args.loaded.now) c.args.start c.places.found.keys c.places.place c.places.invariant.0
    (search rules) entry))
    c.list_of.ensures
