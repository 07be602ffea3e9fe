-- A trail that is cut where the first decision was made.
use Rattle.std.proofs.Common.{◌≡◌, ◌<◌, ℕ, List, length, take, slice_get, Some, sym, subst, ap, ◌∙◌, arith}
use Rattle.std.proofs.lemmas.Option.{slice_get_within}
use Rattle.jv_list.proofs.ElementLemmas.{from_take}
use Rattle.cn_clauses.specs.declared.lit.Lit.{Lit}
use Rattle.sa_core.specs.declared.step.Step.{Step}
use Rattle.sa_core.specs.declared.watches.Watchers.{Watchers}
use Rattle.sa_core.specs.TrailView.{lits_of}
use Rattle.sa_core.specs.Watching.{IsGuarded, AreGuarded, IsKept}
use Rattle.sa_core.specs.SolverView.{NoDecision}
use Rattle.sa_core.specs.Analysis.{IsFirstDecision}
use Rattle.sa_core.proofs.TrailLemmas.{lits_length}
use Rattle.sa_core.proofs.GrowLemmas.{grows_cut, cut_justified}
use Rattle.sa_core.proofs.GuardLemmas.{were_cut, was_guarded}
use Rattle.sa_core.proofs.SearchLemmas.{cut_length}

module _ (variables : ℕ) (clauses : List (List Lit)) (watchers : Watchers) (steps cut : List Step) (from : ℕ)
    (kept : IsKept variables clauses watchers steps) (is_cut : cut ≡ take from steps) where
  pub kept_cut : IsKept variables clauses watchers cut
  kept_cut =
      let grows = grows_cut from steps cut is_cut in
      record {
        stored = kept.stored;
        justified = cut_justified cut steps grows clauses kept.justified;
        guarded = were_cut cut steps grows clauses watchers.pairs kept.guarded;
      }

  -- where a decision was made, all clauses were guarded
  pub ended_before : (limit : ℕ) → IsFirstDecision steps limit from
      → AreGuarded clauses watchers.pairs (lits_of cut) (length (lits_of cut)) (length (lits_of cut))
  ended_before limit first at lits pair is has =
      let lt : from < length steps = slice_get_within steps from first.step first.is in
      let e : length cut ≡ from = ap length is_cut ∙ cut_length from steps (omega (arith, lt)) in
      subst (λ (n : ℕ). IsGuarded (lits_of cut) n n lits pair) (sym (lits_length cut ∙ e))
      (was_guarded cut steps (grows_cut from steps cut is_cut) from from lits pair (omega (arith, e))
      (kept.guarded from first.step first.is first.decided at lits pair is has))

-- before the first decision there is none
pub none_before : (steps cut : List Step) (from : ℕ) → cut ≡ take from steps → IsFirstDecision steps 0 from
    → NoDecision cut
none_before steps cut from is first place step at none =
    let both =
    from_take from steps place step (subst (λ (l : List Step). slice_get l place ≡ Some step) is at) in
    first.first place step (omega arith) both.0 both.1 none
