use Rattle.std.proofs.Common.{◌*◌, ◌<◌, None, length, ap, arith, ◌∙◌}
use Rattle.std.proofs.lemmas.List.{length-replicate}
use Rattle.jv_list.proofs.ElementLemmas.{some_iff, filled_up}
use Rattle.sa_core.proofs.TrailLemmas.{placed_none}
use Rattle.sa_core.proofs.trail.Trail.new.Goals as goal

pub invariant_of-result : goal.invariant_of-result
invariant_of-result c =
    let size = c.in_ok-size.size in
    let fits =
    some_iff c.checked_mul.result (c.args.variables * 2 < 18446744073709551616) (c.args.variables * 2) size
    c.checked_mul.ensures c.in_ok-size.ensures.ok_part in
    let places =
    c.from_vec.ensures
    ∙ filled_up size _ None _ c.resize.new.self.items c.new-places.ensures.items c.new-places.ensures.len
    c.in_ok-resize.ensures.items in
    record {
      few = let few = fits.0 in omega (arith, few);
      size =
          let is = fits.1 in
          ap length places ∙ length-replicate size None ∙ omega (arith, is);
      placed = placed_none size c.new.result c.from_vec.result c.new.ensures places;
    }
