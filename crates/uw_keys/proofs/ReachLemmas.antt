-- How far an end reaches while intervals are taken out.
use Rattle.std.proofs.Common.{◌≡◌, ◌⊎◌, ℕ, ◌≤◌, List, [], ◌∷◌, ◌++◌, Contains, refl, sym, ap, subst, inl, inr, ◌∙◌}
use Rattle.std.proofs.Common.{append_assoc, arith}
use Rattle.std.proofs.lemmas.List.Elements.{Contains-push_cases, Contains-append_right}
use Rattle.jv_list.proofs.MemberLemmas.{none_member, first_member}
use Rattle.uw_keys.specs.declared.interval.Interval.{Interval}
use Rattle.uw_keys.specs.Calls.Backward.{Reaches, BeginsBehind}

-- what `Reaches` says, before it is known whether the next one is met
pub record IsReaching (outer : List Interval) (source end : ℕ) (kept : List Interval) : Type 0 where
  pub taken : List Interval
  pub split : outer ≡ taken ++ kept
  pub not_before : source ≤ end
  pub inside : (i : Interval) → Contains taken i → i.end ≤ end
  pub least : (bound : ℕ) → source ≤ bound
      → ((i : Interval) → Contains outer i → i.target ≤ bound → i.end ≤ bound) → end ≤ bound

pub reach_start : (outer : List Interval) (source : ℕ) → IsReaching outer source source outer
reach_start outer source = record {
  taken = [];
  split = refl;
  not_before = omega arith;
  inside = λ i h. absurd (none_member i h);
  least = λ bound h all. h;
}

module _ (outer : List Interval) (source end : ℕ) (kept : List Interval) (r : IsReaching outer source end kept) where
  pub reach_end : BeginsBehind kept end → Reaches outer source end kept
  reach_end behind = record {
    taken = r.taken;
    split = r.split;
    not_before = r.not_before;
    inside = r.inside;
    behind = behind;
    least = r.least;
  }

  -- the first is met, and its end may be farther
  pub reach_more : (i : Interval) (rest : List Interval) (end' : ℕ) → kept ≡ i ∷ rest → i.target ≤ end → end ≤ end'
      → i.end ≤ end' → (end' ≡ end) ⊎ (end' ≡ i.end) → IsReaching outer source end' rest
  reach_more i rest end' is met grows holds from = record {
    taken = r.taken ++ i ∷ [];
    split =
        r.split ∙ ap (λ (ks : List Interval). r.taken ++ ks) is ∙ sym (append_assoc r.taken (i ∷ []) rest);
    not_before = omega (arith, r.not_before);
    inside = λ j h.
        elim (Contains-push_cases r.taken i j h) [
          | inl before ↦ omega (arith, r.inside j before)
          | inr e ↦ subst (λ (k : Interval). k.end ≤ end') e holds
        ];
    least = λ bound h all.
        let old = r.least bound h all in
        let among : Contains outer i =
        subst (λ (os : List Interval). Contains os i) (sym (r.split ∙ ap (λ (ks : List Interval). r.taken ++ ks) is))
        (Contains-append_right r.taken (i ∷ rest) i (first_member i rest)) in
        let last = all i among (omega arith) in
        elim from [ inl e ↦ omega arith | inr e ↦ omega arith ];
  }
