use Rattle.std.proofs.Common.{refl}
use Rattle.std.proofs.lemmas.Result.{on_ok_weaker}
use Rattle.sa_core.proofs.StoreLemmas.{stored_more, pairs_more}
use Rattle.sa_core.proofs.search.Search.store_clause.Goals as goal

pub returns : goal.returns
returns c =
    let old = c.args.self.now in
    on_ok_weaker c.push.result
    (λ e.
    record {
      stored =
          stored_more old.trail.variables old.store c.push.new.self old.watchers c.add.new.self _
          c.in_ok-add.ensures.ok refl c.args.lits.now e c.requires;
      clauses = e;
      pairs = pairs_more old.watchers.pairs c.add.new.self _ c.in_ok-add.ensures.ok;
      trail = refl;
    })
    c.push.ensures
