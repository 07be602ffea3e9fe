-- Propagation: a clause is watched by another literal than the one that is false.
use Rattle.std.proofs.Common.{◌≡◌, ℕ, ◌+◌, ◌<◌, ◌≤◌, List, length, set, Some, slice_get}
use Rattle.std.proofs.Common.{refl, sym, ap, ◌∙◌, subst, inl, inr, arith, length-set}
use Rattle.std.proofs.lemmas.Option.{slice_get_within}
use Rattle.std.proofs.lemmas.Bool.{cases_eq}
use Rattle.jv_list.proofs.ElementLemmas.{one_at}
use Rattle.cn_clauses.specs.declared.lit.Lit.{Lit}
use Rattle.cn_clauses.specs.Literals.{opposite_of}
use Rattle.cn_clauses.specs.Laws.{OppositeTwice}
use Rattle.sa_core.specs.declared.step.Step.{Step}
use Rattle.sa_core.specs.declared.watches.Watchers.{Watchers}
use Rattle.sa_core.specs.declared.pair.Pair.{Pair}
use Rattle.sa_core.specs.TrailView.{lits_of}
use Rattle.sa_core.specs.Watching.{IsListed, IsPairListed, AreListed, Guards, IsGuarded, Drops, Lists, IsKept}
use Rattle.sa_core.specs.Calls.Propagate.{TurnsTo, ArePassed, IsTurning}
use Rattle.sa_core.proofs.LitLemmas.{same_lit}
use Rattle.sa_core.proofs.TrailLemmas.{lits_length}
use Rattle.sa_core.proofs.GuardLemmas.{guarded_set, pair_here, pair_there}
use Rattle.sa_core.proofs.WatchLemmas.{lists_length, lists_other, listed_kept, listed_now, drops_length, drops_here}
use Rattle.sa_core.proofs.WatchLemmas.{listed_but}
use Rattle.sa_core.proofs.PropagateLemmas.{other_listed, turned, guards_next, awaited_less, guarded_here, head_within}

module _ (twice : OppositeTwice) (variables : ℕ) (clauses : List (List Lit)) (watchers : Watchers) (steps : List Step)
    (head : ℕ) (lit : Lit) (index : ℕ) (turning : IsTurning variables clauses watchers steps head lit (index + 1))
    (place : ℕ) (at : slice_get turning.list index ≡ Some place) (pair : Pair)
    (paired : slice_get watchers.pairs place ≡ Some pair) (mine : List Lit)
    (held : slice_get clauses place ≡ Some mine) (new : Pair)
    (turns : TurnsTo (lits_of steps) mine pair lit new) where
  not_lit : new.first ≡ lit → ⊥
  not_lit same =
      turns.spare.left
      (record {
        place = head;
        before = slice_get_within (lits_of steps) head (opposite_of lit) turning.falsified;
        is = turning.falsified ∙ ap (λ (l : Lit). Some (opposite_of l)) (sym same);
      })

  place_within : place < length watchers.pairs
  place_within = slice_get_within watchers.pairs place pair paired

  guards_new : (from : ℕ) → from ≤ length (lits_of steps) → Guards (lits_of steps) from mine pair
      → Guards (lits_of steps) from mine new
  guards_new from le h =
      turned pair lit new.second turns.is (lits_of steps) from mine new le refl turns.spare.within turns.spare.apart
      turns.spare.left h

  guarded_new : (from limit : ℕ) → from ≤ length (lits_of steps)
      → IsGuarded (lits_of steps) from limit mine pair → IsGuarded (lits_of steps) from limit mine new
  guarded_new from limit le (inl h) = inl h
  guarded_new from limit le (inr h) = inr (guards_new from le h)

  -- by the new pair it is guarded from the next place on
  guarded_next : IsGuarded (lits_of steps) (head + 1) (length (lits_of steps)) mine new
  guarded_next =
      let le = head_within twice variables clauses watchers steps head lit index turning place at in
      elim (guarded_new head (length (lits_of steps)) (omega (arith, le, lits_length steps))
      (guarded_here twice variables clauses watchers steps head lit index turning place at mine pair held paired)) [
        | inl h ↦ inl h
        | inr h ↦
            inr
            (guards_next twice (lits_of steps) head lit turning.falsified mine new not_lit
            (λ same. turns.is.apart (sym same)) h)
      ]

  module _ (dropped : Watchers) (drops : Drops watchers.lists.items dropped.lists.items lit.0 index)
      (same : dropped.pairs ≡ watchers.pairs) (after : Watchers)
      (lists : Lists dropped.lists.items after.lists.items new.first.0 place)
      (pairs : after.pairs ≡ set dropped.pairs place new) where
    set_pairs : after.pairs ≡ set watchers.pairs place new
    set_pairs = pairs ∙ ap (λ (l : List Pair). set l place new) same

    one_list : drops.list ≡ turning.list
    one_list = one_at watchers.lists.items lit.0 drops.list turning.list drops.is turning.is

    taken_at : slice_get drops.list index ≡ Some place
    taken_at = ap (λ (l : List ℕ). slice_get l index) one_list ∙ at

    still_listed : (n p : ℕ) → (n ≡ lit.0 → p ≡ place → ⊥) → IsListed watchers.lists.items n p
        → IsListed after.lists.items n p
    still_listed n p ne was =
        listed_kept dropped.lists.items after.lists.items new.first.0 place lists n p
        (listed_but watchers.lists.items dropped.lists.items lit.0 index place drops taken_at n p ne was)

    listed_after : AreListed after.pairs after.lists.items
    listed_after p other has apart =
        elim (cases_eq p place) [
          | inl here ↦
              let one : new ≡ other =
              pair_here clauses watchers.pairs after.pairs place new set_pairs place_within other
              (ap (slice_get after.pairs) (sym here) ∙ has) in
              let both : IsPairListed after.lists.items new place =
              record {
                first = listed_now dropped.lists.items after.lists.items new.first.0 place lists;
                second =
                    still_listed new.second.0 place
                    (λ number p_same. turns.is.apart (sym (same_lit new.second lit number)))
                    (other_listed pair lit new.second turns.is watchers.pairs watchers.lists.items place
                    turning.kept.stored.listed paired);
              } in
              subst (λ (n : ℕ). IsPairListed after.lists.items other n) (sym here)
              (subst (λ (q : Pair). IsPairListed after.lists.items q place) one both)
          | inr ne ↦
              let was =
              turning.kept.stored.listed p other
              (sym (pair_there clauses watchers.pairs after.pairs place new set_pairs place_within p ne) ∙ has)
              apart in
              record {
                first = still_listed other.first.0 p (λ number e. ne e) was.first;
                second = still_listed other.second.0 p (λ number e. ne e) was.second;
              }
        ]

    kept_after : IsKept variables clauses after steps
    kept_after =
        record {
          stored =
              record {
                size =
                    lists_length dropped.lists.items after.lists.items new.first.0 place lists
                    ∙ drops_length watchers.lists.items dropped.lists.items lit.0 index place drops taken_at
                    ∙ turning.kept.stored.size;
                count =
                    ap length set_pairs ∙ length-set watchers.pairs place new ∙ turning.kept.stored.count;
                listed = listed_after;
                within = turning.kept.stored.within;
              };
          justified = turning.kept.justified;
          guarded = λ n step e none.
              let before : n < length steps = slice_get_within steps n step e in
              guarded_set clauses watchers.pairs after.pairs place new set_pairs place_within (lits_of steps) n n
              (turning.kept.guarded n step e none)
              (λ lits f.
              subst (λ (l : List Lit). IsGuarded (lits_of steps) n n l new) (one_at clauses place mine lits held f)
              (guarded_new n n (omega (arith, before, lits_length steps))
              (turning.kept.guarded n step e none place mine pair held paired)));
        }

    passed_after : ArePassed clauses after.pairs (lits_of steps) head drops.rest index
    passed_after p lits one is has =
        elim (cases_eq p place) [
          | inl here ↦
              inl
              (subst (λ (l : List Lit). IsGuarded (lits_of steps) (head + 1) (length (lits_of steps)) l one)
              (one_at clauses place mine lits held (ap (slice_get clauses) (sym here) ∙ is))
              (subst (IsGuarded (lits_of steps) (head + 1) (length (lits_of steps)) mine)
              (pair_here clauses watchers.pairs after.pairs place new set_pairs place_within one
              (ap (slice_get after.pairs) (sym here) ∙ has))
              guarded_next))
          | inr ne ↦
              elim (turning.passed p lits one is
              (sym (pair_there clauses watchers.pairs after.pairs place new set_pairs place_within p ne) ∙ has)) [
                | inl done ↦ inl done
                | inr w ↦
                    let a =
                    awaited_less twice variables clauses watchers steps head lit index turning place at p ne w.1 in
                    inr (
                      w.0,
                      record {
                        at = a.at;
                        before = a.before;
                        is =
                            drops.dropped.front a.at p a.before
                            (ap (λ (l : List ℕ). slice_get l a.at) one_list ∙ a.is);
                      },
                    )
              ]
        ]

    pub visit_turn : IsTurning variables clauses after steps head lit index
    visit_turn =
        let room : index + 1 ≤ length turning.list = turning.room in
        let shorter : length drops.list ≡ length drops.rest + 1 = drops.dropped.shorter in
        let length_same : length drops.list ≡ length turning.list = ap length one_list in
        record {
          kept = kept_after;
          falsified = turning.falsified;
          list = drops.rest;
          is =
              lists_other dropped.lists.items after.lists.items new.first.0 place lists lit.0
              (λ number. not_lit (sym (same_lit lit new.first number)))
              ∙ drops_here watchers.lists.items dropped.lists.items lit.0 index place drops taken_at;
          room = omega (arith, room, shorter, length_same);
          passed = passed_after;
        }
