-- Places that are marked, one after the other.
use Rattle.std.proofs.Common.{◌≡◌, ◌<◌, ◌≤◌, ◌+◌, ◌⊎◌, ◌==◌, ℕ, Bool, true, false, true≢false, zero, suc, List, []}
use Rattle.std.proofs.Common.{◌∷◌, ◌++◌, length, set, slice_get, Option, Some}
use Rattle.std.proofs.Common.{refl, sym, ap, ◌∙◌, subst, arith, inl, inr}
use Rattle.std.proofs.lemmas.Bool.{cases_Bool, cases_lt, eqb-true, eq-eqb}
use Rattle.bb_terms.specs.Calls.Terms.{AreReady, IsReadyAt}
use Rattle.std.proofs.lemmas.Option.{same_Some, none-some}
use Rattle.std.proofs.lemmas.List.{length-set}
use Rattle.jv_list.proofs.PlaceLemmas.{slice_get-set_same, slice_get-set_other}
use Rattle.cn_clauses.specs.declared.lit.Lit.{Lit}
use Rattle.tm_terms.specs.declared.op.Op.{Op}
use Rattle.tm_terms.specs.declared.op.Operands.{Operands}
use Rattle.tm_terms.specs.declared.op.Operands.TheVariants.{Nothing, One, Two, Three}
use Rattle.tm_terms.specs.Operations.{operands_of, AreBelow}
use Rattle.tm_terms.specs.Terms.{AreTerms}
use Rattle.tm_terms.specs.Laws.{FitsStands}
use Rattle.bb_terms.specs.Tables.{HasWord, HasSome}
use Rattle.bb_terms.specs.Cones.{IsOperand, InCone, Top, Operand}
use Rattle.bb_terms.specs.Calls.Marks.{IsMarked, AreMarked, Marks, IsClosedFrom}

pub marks_one : (old new : List Bool) (k : ℕ) → k < length old → new ≡ set old k true → Marks old new (λ j. j ≡ k)
marks_one old new k lt is =
    subst (λ (marks : List Bool). Marks old marks (λ j. j ≡ k)) (sym is)
    record {
      even = length-set old k true;
      kept = λ j here.
          elim (cases_Bool (j == k)) [
            | inl test ↦
                ap (slice_get (set old k true)) (eqb-true j k test) ∙ slice_get-set_same old k true lt
            | inr other ↦
                slice_get-set_other old k j true (λ same. true≢false (sym (eq-eqb j k same) ∙ other)) ∙ here
          ];
      all = λ j same. ap (slice_get (set old k true)) same ∙ slice_get-set_same old k true lt;
      only = λ j here.
          elim (cases_Bool (j == k)) [
            | inl test ↦ inr (eqb-true j k test)
            | inr other ↦
                inl (sym (slice_get-set_other old k j true
                (λ same. true≢false (sym (eq-eqb j k same) ∙ other))) ∙ here)
          ];
    }

pub marks_none : (old : List Bool) → Marks old old (λ j. ⊥)
marks_none old = record { even = refl; kept = λ j here. here; all = λ j none. absurd none; only = λ j here. inl here }

-- one rule after another
pub marks_through : (old mid new : List Bool) (P Q : ℕ → Type 0) → Marks old mid P → Marks mid new Q
    → Marks old new (λ j. P j ⊎ Q j)
marks_through old mid new P Q first second = record {
  even = second.even ∙ first.even;
  kept = λ j here. second.kept j (first.kept j here);
  all = λ j is. elim is [ inl p ↦ second.kept j (first.all j p) | inr q ↦ second.all j q ];
  only = λ j here.
      elim (second.only j here) [
        | inl before ↦ elim (first.only j before) [ inl there ↦ inl there | inr p ↦ inr (inl p) ]
        | inr q ↦ inr (inr q)
      ];
}

-- an operand stands below what all stand below
pub operand_below : (n j : ℕ) (operands : Operands) → AreBelow n operands → IsOperand j operands → j < n
operand_below n j Nothing below is = absurd is
operand_below n j (One a) below is = omega (arith, below, is)
operand_below n j (Two a b) below is =
    let p = below.0 in
    let q = below.1 in
    elim is [ inl e ↦ omega (arith, p, e) | inr e ↦ omega (arith, q, e) ]
operand_below n j (Three a b c) below is =
    let p = below.0 in
    let q = below.1 in
    let r = below.2 in
    elim is [
      | inl e ↦ omega (arith, p, e)
      | inr rest ↦ elim rest [ inl e ↦ omega (arith, q, e) | inr e ↦ omega (arith, r, e) ]
    ]

pub not_marked : (marks : List Bool) (new : List Bool) → ((j : ℕ) → IsMarked marks j → ⊥) → new ≡ marks ++ false ∷ []
    → (j : ℕ) → IsMarked new j → ⊥
not_marked marks new none is = subst (λ (m : List Bool). (j : ℕ) → IsMarked m j → ⊥) (sym is) (one_more marks none)
  where
    one_more : (marks : List Bool) → ((j : ℕ) → IsMarked marks j → ⊥) → (j : ℕ) → IsMarked (marks ++ false ∷ []) j → ⊥
    one_more [] none zero here = true≢false (sym (same_Some false true here))
    one_more [] none (suc j) here = none-some true here
    one_more (mark ∷ marks) none zero here = none zero here
    one_more (mark ∷ marks) none (suc j) here = one_more marks (λ i is. none (suc i) is) j here

-- the table has each operand where it has what stands at their places
pub ready_by : (words : List (Option (List Lit))) (operands : Operands)
    → ((j : ℕ) → IsOperand j operands → HasSome words j) → AreReady words operands
ready_by words Nothing has = tt
ready_by words (One a) has = has a.0 refl
ready_by words (Two a b) has = (has a.0 (inl refl), has b.0 (inr refl))
ready_by words (Three a b c) has = (has a.0 (inl refl), has b.0 (inr (inl refl)), has c.0 (inr (inr refl)))

-- what stands after the operands of a place are marked
module _ (ops : List Op) (words : List (Option (List Lit))) (id from : ℕ) (old new : List Bool)
    (so_far : IsClosedFrom ops words id (from + 1) old) where
  here_or_later : (k : ℕ) → from ≤ k → (from + 1 ≤ k) ⊎ (k ≡ from)
  here_or_later k le =
      elim (cases_lt from k) [ inl lt ↦ inl (omega (arith, lt)) | inr ge ↦ inr (omega (arith, le, ge)) ]

  -- the place is not marked, or has a word
  pub closed_skipped : (IsMarked old from → (HasSome words from → ⊥) → ⊥) → IsClosedFrom ops words id from old
  closed_skipped none = record {
    even = so_far.even;
    top = so_far.top;
    closed = λ k op le here free at.
        elim (here_or_later k le) [
          | inl later ↦ so_far.closed k op later here free at
          | inr same ↦
              absurd (none (subst (IsMarked old) same here)
              (λ some. free (subst (HasSome words) (sym same) some)))
        ];
    cone = so_far.cone;
  }

  -- its operands are marked
  pub closed_visited : (op : Op) → slice_get ops from ≡ Some op → IsMarked old from → AreBelow from (operands_of op)
      → Marks old new (λ j. IsOperand j (operands_of op)) → IsClosedFrom ops words id from new
  closed_visited op stands marked below marks = record {
    even = marks.even ∙ so_far.even;
    top = marks.kept id so_far.top;
    closed = λ k other le here free at.
        elim (here_or_later k le) [
          | inl later ↦
              elim (marks.only k here) [
                | inl before ↦ λ j is. marks.kept j (so_far.closed k other later before free at j is)
                | inr is ↦
                    let lt = operand_below from k (operands_of op) below is in
                    absurd (omega (arith, lt, le))
              ]
          | inr same ↦
              let one : op ≡ other =
              same_Some op other (sym stands ∙ ap (slice_get ops) (sym same) ∙ at) in
              subst (λ (o : Op). AreMarked new (operands_of o)) one marks.all
        ];
    cone = λ k here.
        elim (marks.only k here) [
          | inl before ↦ so_far.cone k before
          | inr is ↦ Operand from k op (so_far.cone from marked) stands is
        ];
  }

-- no more than the top is marked
pub closed_start : (ops : List Op) (words : List (Option (List Lit))) (id : ℕ) (old new : List Bool) → length old
    ≡ id + 1
    → ((j : ℕ) → IsMarked old j → ⊥) → Marks old new (λ j. j ≡ id) → IsClosedFrom ops words id (id + 1) new
closed_start ops words id old new even none marks = record {
  even = marks.even ∙ even;
  top = marks.all id refl;
  closed = λ k op le here free at.
      elim (marks.only k here) [ inl before ↦ absurd (none k before) | inr same ↦ absurd (omega (arith, le, same)) ];
  cone = λ k here.
      elim (marks.only k here) [
        | inl before ↦ absurd (none k before)
        | inr same ↦ subst (InCone ops id) (sym same) Top
      ];
}

pub below_more : (n m : ℕ) (operands : Operands) → n ≤ m → AreBelow n operands → AreBelow m operands
below_more n m Nothing le below = tt
below_more n m (One a) le below = omega (arith, le, below)
below_more n m (Two a b) le below =
    let p = below.0 in
    let q = below.1 in
    (omega (arith, le, p), omega (arith, le, q))
below_more n m (Three a b c) le below =
    let p = below.0 in
    let q = below.1 in
    let r = below.2 in
    (omega (arith, le, p), omega (arith, le, q), omega (arith, le, r))

-- the operands of a marked place without a word have words, where all marked places below it have
pub ready_at : FitsStands → (ops : List Op) (from to : List (Option (List Lit))) (id k : ℕ) (marks : List Bool)
    → AreTerms ops → IsClosedFrom ops from id 0 marks → ((lits : List Lit) → HasWord from k lits → HasWord to k lits)
    → ((j : ℕ) → j < k → IsMarked marks j → HasSome to j) → IsMarked marks k → IsReadyAt ops to k
ready_at fits ops from to id k marks terms closed kept done here = λ op free at.
    let below = (fits ops k op terms at).1 in
    let stands = closed.closed k op (omega arith) here (λ some. free (some.0, kept some.0 some.1)) at in
    ready_by to (operands_of op) (λ j is. done j (operand_below k j (operands_of op) below is) (stands j is))
