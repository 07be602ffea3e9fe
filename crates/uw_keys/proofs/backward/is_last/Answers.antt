use Rattle.std.proofs.Common.{◌≡◌, ◌↔◌, ℕ, ◌-◌, List, [], reverse, length, Some, sym, subst}
use Rattle.std.proofs.Common.{eqb-true, eq-eqb, IsTrue, false}
use Rattle.std.specs.Prelude.{slice_get, nat_eq}
use Rattle.uw_keys.specs.declared.interval.Interval.{Interval}
use Rattle.uw_keys.specs.Calls.Backward.{BeginsAt}
use Rattle.jv_list.proofs.LastLemmas.{last_split, last_none, reverse_last}
use Rattle.uw_keys.proofs.backward.is_last.Goals as goal

begins_at_last : (found : List Interval) (i : Interval) (t : ℕ) → slice_get found (length found - 1) ≡ Some i
    → IsTrue (nat_eq i.target t) ↔ BeginsAt (reverse found) t
begins_at_last found i t last =
    let s = last_split found i last in
    subst (λ (is : List Interval). IsTrue (nat_eq i.target t) ↔ BeginsAt is t) (sym (reverse_last found s.0 i s.1))
    (λ h. eqb-true i.target t h, λ h. eq-eqb i.target t h)

pub returns-in-Some : goal.returns-in-Some
returns-in-Some c = begins_at_last c.args.found.now c.in-Some.last.now c.args.target (sym c.in-Some.ensures)

pub returns-in-None : goal.returns-in-None
returns-in-None c =
    let none : c.args.found.now ≡ [] = last_none c.args.found.now (sym c.in-None.ensures) in
    subst (λ (is : List Interval). IsTrue false ↔ BeginsAt (reverse is) c.args.target) (sym none)
    (λ h. cc, λ h. absurd h)
