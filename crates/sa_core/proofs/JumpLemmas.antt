-- A learned clause as a search takes it in: the trail is cut, and its first literal is forced.
use Rattle.std.proofs.Common.{◌≡◌, ℕ, ◌-◌, ◌*◌, ◌<◌, ◌≤◌, List, [], ◌∷◌, ◌++◌, length, set, take, drop, slice_index_or}
use Rattle.std.proofs.Common.{Option, Some, Contains, slice_get, sym, ap, ◌∙◌, subst, inl, inr, arith}
use Rattle.std.proofs.Common.{take_all}
use Rattle.jv_list.proofs.MemberLemmas.{first_member}
use Rattle.jv_list.proofs.PlaceLemmas.{slice_get-push_cases}
use Rattle.std.proofs.lemmas.Option.{slice_get_within, none-some}
use Rattle.std.proofs.lemmas.List.Elements.{Contains-append_right}
use Rattle.cn_clauses.specs.declared.lit.Lit.{Lit}
use Rattle.cn_clauses.specs.Literals.{opposite_of, variable_of}
use Rattle.cn_clauses.specs.Laws.{OppositeTwice, OppositeVariable}
use Rattle.sa_core.specs.declared.step.Step.{Step}
use Rattle.sa_core.specs.TrailView.{lits_of, IsOpen, IsPlaced, code}
use Rattle.sa_core.specs.SolverView.{AreSettled, IsJustifiedBy, AreJustified, IsWithin, IsLastDecision}
use Rattle.sa_core.specs.declared.pair.Pair.{Pair}
use Rattle.sa_core.specs.Watching.{IsTrueBefore, Guards, AreGuarded, WereGuarded}
use Rattle.sa_core.specs.Analysis.{IsLearnedClause, IsHeight, IsHighest, NoHighest, IsPairOf, IsFirstDecision}
use Rattle.sa_core.specs.Analysis.{AreFalseBefore}
use Rattle.sa_core.proofs.LitLemmas.{within_size}
use Rattle.sa_core.proofs.LearnLemmas.{learned_below}
use Rattle.sa_core.proofs.SearchLemmas.{limit_low, length_cut, open_cut, learned_guards, learn_justified, learn_rises}
use Rattle.sa_core.proofs.SearchLemmas.{trail_fits}
use Rattle.sa_core.proofs.TrailLemmas.{lits_length}
use Rattle.sa_core.proofs.GrowLemmas.{grows_cut, grows_push, pushed_stands}
use Rattle.sa_core.proofs.GuardLemmas.{were_push, were_cut, guarded_kept, was_guarded, pair_here, pair_there}

abbrev first_lit : Lit
first_lit = record { 0 = 0 }

-- the pairs of clauses stay, and one more clause has this pair
pub record IsKeptButLast (clauses : List (List Lit)) (pairs new : List Pair) (pair : Pair) : Type 0 where
  pub others : (place : ℕ) (one : Pair) → (place ≡ length clauses → ⊥) → slice_get new place ≡ Some one
      → slice_get pairs place ≡ Some one
  pub last : (one : Pair) → slice_get new (length clauses) ≡ Some one → pair ≡ one

pub kept_but_last : (clauses : List (List Lit)) (pairs middle new : List Pair) (pair : Pair) (place : ℕ)
    → length pairs ≡ length clauses → place ≡ length clauses
    → ((at : ℕ) (one : Pair) → (at ≡ length pairs → ⊥) → slice_get middle at ≡ Some one → slice_get pairs at ≡ Some one)
    → new ≡ set middle place pair → place < length middle → IsKeptButLast clauses pairs new pair
kept_but_last clauses pairs middle new pair place count end more changed within =
    record {
      others = λ at one ne is.
          more at one (λ same. ne (same ∙ count))
          (sym (pair_there clauses middle new place pair changed within at (λ same. ne (same ∙ end))) ∙ is);
      last = λ one is. pair_here clauses middle new place pair changed within one (ap (slice_get new) end ∙ is);
    }

-- the clauses were settled where the last decision was made
pub settled_at : (clauses : List (List Lit)) (steps : List Step) (mark : ℕ) → AreJustified clauses steps
    → IsLastDecision steps mark → AreSettled clauses (lits_of steps) mark
settled_at clauses steps mark justified last =
    subst (IsJustifiedBy clauses (lits_of steps) mark last.step.lit) last.decided (justified mark last.step last.is)

pub trail_within : (steps : List Step) (places : List (Option ℕ)) (variables : ℕ) → IsPlaced steps places
    → length places ≡ 2 * variables → (place : ℕ) (lit : Lit) → slice_get (lits_of steps) place ≡ Some lit
    → variable_of lit < variables
trail_within steps places variables was size place lit e =
    within_size lit variables (length places) (slice_get_within places lit.0 (Some place) (was.placed place lit e)) size

module _ (twice : OppositeTwice) (same : OppositeVariable) (clauses : List (List Lit)) (steps : List Step)
    (places : List (Option ℕ)) (variables mark : ℕ) (lits : List Lit) (was : IsPlaced steps places)
    (size : length places ≡ 2 * variables) (justified : AreJustified clauses steps) (last : IsLastDecision steps mark)
    (learned : IsLearnedClause clauses (lits_of steps) mark lits) where
  -- its literals are of the trail's variables
  pub learned_within : IsWithin variables lits
  learned_within lit has =
      learned_below twice clauses (lits_of steps) mark learned.lit learned.lower was.apart
      (settled_at clauses steps mark justified last) learned.learned variables same
      (trail_within steps places variables was size) lit (subst (λ (l : List Lit). Contains l lit) learned.is has)

  -- and those behind the first are false
  rest_is : take (length lits - 1) (drop 1 lits) ≡ learned.lower
  rest_is =
      ap (λ (l : List Lit). take (length l - 1) (drop 1 l)) learned.is
      ∙ take_all (length (learned.lit ∷ learned.lower) - 1) learned.lower (omega arith)

  in_rest : (lit : Lit) → Contains (take (length lits - 1) (drop 1 lits)) lit → Contains learned.lower lit
  in_rest lit has = subst (λ (l : List Lit). Contains l lit) rest_is has

  pub rest_within : IsWithin variables (take (length lits - 1) (drop 1 lits))
  rest_within lit has =
      learned_within lit
      (subst (λ (l : List Lit). Contains l lit) (sym learned.is)
      (Contains-append_right (learned.lit ∷ []) learned.lower lit (in_rest lit has)))

  pub rest_false : AreFalseBefore (lits_of steps) (take (length lits - 1) (drop 1 lits))
  rest_false lit has =
      let s = learned.learned.opposed lit (in_rest lit has) in
      record {
        place = s.place;
        before = slice_get_within (lits_of steps) s.place (opposite_of lit) s.is;
        is = s.is;
      }

  module _ (limit : ℕ) (high : IsHeight (lits_of steps) (take (length lits - 1) (drop 1 lits)) limit) where
    lower_high : IsHeight (lits_of steps) learned.lower limit
    lower_high = subst (λ (l : List Lit). IsHeight (lits_of steps) l limit) rest_is high

    pub limit_fits : limit ≤ mark
    limit_fits =
        limit_low twice clauses steps places mark limit limit learned.lit learned.lower was justified last
        learned.learned
        lower_high

    module _ (from : ℕ) (first : IsFirstDecision steps limit from) (cut : List Step) (is_cut : cut ≡ take from steps)
      where
        first_is : slice_index_or lits 0 first_lit ≡ learned.lit
        first_is = ap (λ (l : List Lit). slice_index_or l 0 first_lit) learned.is

        -- the first literal is open where the trail is cut
        pub jump_open : IsOpen (lits_of cut) (length (lits_of cut)) (slice_index_or lits 0 first_lit)
        jump_open =
            subst (IsOpen (lits_of cut) (length (lits_of cut))) (sym first_is)
            (open_cut twice clauses steps places mark limit from learned.lit learned.lower was justified last
            learned.learned lower_high first cut is_cut)

        module _ (new : List (List Lit)) (more : new ≡ clauses ++ lits ∷ []) (step : Step)
            (by : step.lit ≡ slice_index_or lits 0 first_lit) (reason : ℕ) (some : step.reason ≡ Some reason)
            (end : reason ≡ length clauses) (pushed : List Step) (is_pushed : pushed ≡ cut ++ step ∷ []) where
          parts : new ≡ clauses ++ (learned.lit ∷ learned.lower) ∷ []
          parts = more ∙ ap (λ (l : List Lit). clauses ++ l ∷ []) learned.is

          -- and then forced
          pub jump_justified : AreJustified new pushed
          jump_justified =
              learn_justified twice clauses steps places mark limit from learned.lit learned.lower was justified last
              learned.learned lower_high first cut is_cut new parts step (by ∙ first_is) reason some end pushed
              is_pushed

          -- the clauses were guarded before each decision, this one by its pair
          pub jump_were : (pairs more_pairs : List Pair) (pair : Pair) → IsPairOf (lits_of steps) lits limit pair
              → WereGuarded clauses pairs steps → IsKeptButLast clauses pairs more_pairs pair
              → WereGuarded new more_pairs pushed
          jump_were pairs more_pairs pair chosen were still =
              were_push new more_pairs cut pushed step is_pushed
              (λ n s e none at others one is has.
              elim (slice_get-push_cases clauses lits others at
              (ap (λ (l : List (List Lit)). slice_get l at) (sym more) ∙ is)) [
                | inl old ↦
                    were_cut cut steps (grows_cut from steps cut is_cut) clauses pairs were n s e none at others one old
                    (still.others at one
                    (let lt : at < length clauses = slice_get_within clauses at others old in
                    λ same. omega (arith, lt, same))
                    has)
                | inr ends ↦
                    inr
                    (subst (λ (p : Pair). Guards (lits_of cut) n others p)
                    (still.last one (ap (slice_get more_pairs) (sym ends.0) ∙ has))
                    (subst (λ (l : List Lit). Guards (lits_of cut) n l pair) (sym learned.is ∙ ends.1)
                    (subst
                    (λ (l : Lit). Guards (lits_of cut) n (learned.lit ∷ learned.lower)
                    (record { first = l; second = pair.second; hint = pair.hint }))
                    (sym (chosen.first ∙ first_is))
                    (learned_guards twice clauses steps places mark limit from learned.lit learned.lower was justified
                    last learned.learned lower_high first cut is_cut pair.second pair.hint
                    (elim chosen.highest [
                      | inl none_high ↦
                          inl
                          (subst (λ (l : List Lit). NoHighest (lits_of steps) l limit) rest_is none_high)
                      | inr found ↦
                          inr
                          (subst (λ (l : List Lit). IsHighest (lits_of steps) l limit pair.second) rest_is found)
                    ])
                    n s e none))))
              ])
              (λ none. absurd (none-some reason (sym none ∙ some)))

          -- and all are from the end of the trail that was left on
          pub jump_guarded : (pairs more_pairs : List Pair) (pair : Pair) → WereGuarded clauses pairs steps
              → IsKeptButLast clauses pairs more_pairs pair
              → AreGuarded new more_pairs (lits_of pushed) from (length (lits_of pushed))
          jump_guarded pairs more_pairs pair were still at others one is has =
              let cut_is =
              length_cut twice clauses steps places mark limit from learned.lit learned.lower was justified last
              learned.learned lower_high first cut is_cut in
              let cut_grows = grows_cut from steps cut is_cut in
              let push_grows = grows_push cut pushed step is_pushed in
              let longer : length cut ≤ length pushed = push_grows.longer in
              elim (slice_get-push_cases clauses lits others at
              (ap (λ (l : List (List Lit)). slice_get l at) (sym more) ∙ is)) [
                | inl old ↦
                    let lt : at < length clauses = slice_get_within clauses at others old in
                    guarded_kept cut pushed push_grows from from (length (lits_of pushed)) others one
                    (omega (arith, cut_is)) (omega (arith, cut_is, longer, lits_length pushed))
                    (was_guarded cut steps cut_grows from from others one (omega (arith, cut_is))
                    (were from first.step first.is first.decided at others one old
                    (still.others at one (λ same. omega (arith, lt, same)) has)))
                | inr end_is ↦
                    inl
                    (subst (IsTrueBefore (lits_of pushed) (length (lits_of pushed))) end_is.1
                    (record {
                      lit = learned.lit;
                      within =
                          subst (λ (l : List Lit). Contains l learned.lit) (sym learned.is)
                          (first_member learned.lit learned.lower);
                      stands = pushed_stands cut pushed step learned.lit is_pushed (by ∙ first_is);
                    }))
              ]

          pub jump_rises : code (2 * variables) steps < code (2 * variables) pushed
          jump_rises =
              learn_rises twice clauses steps places mark limit from learned.lit learned.lower was justified last
              learned.learned lower_high first cut is_cut new parts step (by ∙ first_is) reason some end pushed
              is_pushed
              (2 * variables) (subst (λ (n : ℕ). length steps ≤ n) size (trail_fits steps places was))
