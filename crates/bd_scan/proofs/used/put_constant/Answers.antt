-- Past the end of the pool there is nothing to push.
use Rattle.std.proofs.Common.{◌≡◌, None, slice_get, sym}
use Rattle.std.proofs.lemmas.List.{append-nil}
use Rattle.std.proofs.lemmas.Option.{slice_get_past}
use Rattle.bd_scan.proofs.used.put_constant.Goals as goal

pub returns-in-None : goal.returns-in-None
returns-in-None c =
    let past = slice_get_past c.args.pool.now c.from.result c.in-None.ensures.lookup.3 in
    let none : slice_get c.args.pool.now c.args.index ≡ None = rw c.from.ensures at past in
    rw none (sym (append-nil c.args.facts.now))
