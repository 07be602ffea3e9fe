use Rattle.std.proofs.Common.{◌≡◌, ℕ, List, length, replicate, subst, sym, arith}
use Rattle.std.proofs.lemmas.Grind.{common_steps}
use Rattle.uw_keys.specs.Keys.{IsKeyOf, AreWithin}
use Rattle.uw_keys.proofs.RiseLemmas.{start_is_key, start_within}
use Rattle.uw_keys.proofs.key.Key.start.Goals as goal

pub returns-clause-of : goal.returns-clause-of
returns-clause-of c =
    let e : c.from_vec.result ≡ replicate (length c.args.intervals.now) 0 = grind (arith, common_steps) in
    subst (λ (cs : List ℕ). IsKeyOf c.args.intervals.now record { pc = 0; counters = cs }) (sym e)
    (start_is_key c.args.intervals.now)

pub returns-clause-within : goal.returns-clause-within
returns-clause-within c limit =
    let e : c.from_vec.result ≡ replicate (length c.args.intervals.now) 0 = grind (arith, common_steps) in
    subst (λ (cs : List ℕ). AreWithin limit c.args.intervals.now cs) (sym e)
    (start_within c.args.intervals.now limit)
