use Rattle.std.proofs.Common.{◌+◌, take, drop, refl, sym, ◌∙◌}
use Rattle.std.proofs.lemmas.Bool.{false≢true}
use Rattle.jv_list.proofs.PlaceLemmas.{split_with}
use Rattle.cf_bodies.proofs.code.first_unmet.Goals as goal

pub returns-then-not-is_met : goal.returns-then-not-is_met
returns-then-not-is_met c =
    let xs = c.args.code.now in
    let i = c.loop-placed.placed-index in
    record {
      before = take i xs;
      placed = c.placed-item.result;
      after = drop (i + 1) xs;
      parts = split_with xs i c.placed-item.result c.loop-placed-test.true c.placed-item.is;
      met = c.loop-placed.invariant;
      unmet = λ is. false≢true (sym c.if-not-is_met.true ∙ c.is_met.ensures.1 (rw c.need_of.ensures is));
      pc_is = refl;
    }
