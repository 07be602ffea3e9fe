-- What a clause asks: its literals, one after another.
use Rattle.std.proofs.Common.{◌≡◌, ℕ, ◌<◌, ◌+◌, ◌-◌, ◌*◌, Bool, false, not, List, [], ◌∷◌, ◌++◌, length, is_some}
use Rattle.std.proofs.Common.{Option, Some, None, Contains, slice_get, take, drop, take_all, length-drop}
use Rattle.std.proofs.Common.{sym, ap, ◌∙◌, subst, inl, inr, arith}
use Rattle.std.specs.Option.{MatchOption}
use Rattle.std.proofs.lemmas.Option.{slice_get_within, slice_get-get_or, get_or_from_slice_get}
use Rattle.std.proofs.lemmas.List.{get_or-drop, take-append-drop}
use Rattle.std.proofs.lemmas.List.Elements.{Contains-push_cases, Contains-append_cases}
use Rattle.jv_list.proofs.ElementLemmas.{one_at, at_contains, from_take}
use Rattle.cn_clauses.specs.declared.lit.Lit.{Lit}
use Rattle.cn_clauses.specs.Literals.{opposite_of, variable_of}
use Rattle.sa_core.specs.declared.step.Step.{Step}
use Rattle.sa_core.specs.declared.pair.Pair.{Pair}
use Rattle.sa_core.specs.TrailView.{lits_of, Stands, IsPlaced}
use Rattle.sa_core.specs.SolverView.{IsFalse, AreWithin}
use Rattle.sa_core.specs.Watching.{AreListed, IsPairWithin}
use Rattle.sa_core.specs.Calls.Propagate.{AreFalseBut, IsSpareAt}
use Rattle.sa_core.proofs.LitLemmas.{cases_lit, within_size}
use Rattle.sa_core.proofs.TrailLemmas.{placed_stands}

module _ (trail lits : List Lit) (other lit : Lit) (was : AreFalseBut trail lits other) where
  pub false_more : Stands trail (length trail) (opposite_of lit) → AreFalseBut trail (lits ++ lit ∷ []) other
  false_more given one has ne =
      elim (Contains-push_cases lits lit one has) [
        | inl before ↦ was one before ne
        | inr same ↦ subst (λ (l : Lit). Stands trail (length trail) (opposite_of l)) same given
      ]

  pub false_same : lit ≡ other → AreFalseBut trail (lits ++ lit ∷ []) other
  false_same is one has ne =
      elim (Contains-push_cases lits lit one has) [
        | inl before ↦ was one before ne
        | inr same ↦ absurd (ne (sym same ∙ is))
      ]

module _ (trail lits : List Lit) (other : Lit) (n : ℕ) where
  -- what the slices from an index on and before it have is what the list has
  rest_is : take (length lits - n) (drop n lits) ≡ drop n lits
  rest_is = let rest = length-drop n lits in take_all (length lits - n) (drop n lits) (omega (arith, rest))

  spare_within : (part : List Lit) (i j : ℕ) (at : IsSpareAt trail part other i) → slice_get lits j ≡ Some at.lit
      → IsSpareAt trail lits other j
  spare_within part i j at is = record {
    lit = at.lit;
    is = is;
    spare = record { within = at_contains lits j at.lit is; apart = at.spare.apart; left = at.spare.left };
  }

  spare_in_rest : (i : ℕ) → IsSpareAt trail (drop n lits) other i → IsSpareAt trail lits other (n + i)
  spare_in_rest i at =
      let lt = slice_get_within (drop n lits) i at.lit at.is in
      let rest = length-drop n lits in
      spare_within (drop n lits) i (n + i) at
      (slice_get-get_or lits (n + i) at.lit (omega (arith, lt, rest))
      ∙ ap (λ (l : Lit). Some l)
      (sym (get_or-drop n lits i at.lit) ∙ get_or_from_slice_get (drop n lits) i at.lit at.lit at.is))

  pub spare_behind : (i : ℕ) → IsSpareAt trail (take (length lits - n) (drop n lits)) other i
      → IsSpareAt trail lits other (n + i)
  spare_behind i at = spare_in_rest i (subst (λ (l : List Lit). IsSpareAt trail l other i) rest_is at)

  -- a literal before the index, or all are false
  pub spare_before : (o : Option ℕ) → AreFalseBut trail (take (length lits - n) (drop n lits)) other
      → MatchOption o (AreFalseBut trail (take n lits) other) (λ i. IsSpareAt trail (take n lits) other i)
      → MatchOption o (AreFalseBut trail lits other) (λ i. IsSpareAt trail lits other i)
  spare_before (Some i) behind at = spare_within (take n lits) i i at (from_take n lits i at.lit at.is).1
  spare_before None behind front = λ lit has ne.
      elim (Contains-append_cases (take n lits) (drop n lits) lit
      (subst (λ (l : List Lit). Contains l lit) (sym (take-append-drop n lits)) has)) [
        | inl before ↦ front lit before ne
        | inr after ↦ behind lit (subst (λ (l : List Lit). Contains l lit) (sym rest_is) after) ne
      ]

-- a literal whose opposite has a place is false
pub taken_stands : (steps : List Step) (places : List (Option ℕ)) (lit q : Lit) → IsPlaced steps places
    → q ≡ opposite_of lit → (o : Option ℕ) → slice_get places q.0 ≡ Some o → (b : Bool) → is_some o ≡ not b → b ≡ false
    → Stands (lits_of steps) (length (lits_of steps)) (opposite_of lit)
taken_stands steps places lit q was e o at b test none =
    subst (λ (l : Lit). Stands (lits_of steps) (length (lits_of steps)) l) e
    (placed_stands steps places q o was at (test ∙ ap not none))

-- the other literal is false, too
pub all_false : (clauses : List (List Lit)) (trail : List Lit) (place : ℕ) (mine : List Lit) (other : Lit)
    → slice_get clauses place ≡ Some mine → AreFalseBut trail mine other
    → Stands trail (length trail) (opposite_of other) → (lits : List Lit) → slice_get clauses place ≡ Some lits
    → IsFalse trail (length trail) lits
all_false clauses trail place mine other is but given lits e lit has =
    elim (cases_lit lit other) [
      | inl same ↦ subst (λ (l : Lit). Stands trail (length trail) (opposite_of l)) (sym same) given
      | inr ne ↦ but lit (subst (λ (l : List Lit). Contains l lit) (one_at clauses place lits mine e is) has) ne
    ]

-- the literals of a pair are of the variables of the lists
pub pair_within : (variables : ℕ) (pairs : List Pair) (lists : List (List ℕ)) (place : ℕ) (pair : Pair)
    → length lists ≡ 2 * variables → AreListed pairs lists → slice_get pairs place ≡ Some pair
    → IsPairWithin variables pair
pair_within variables pairs lists place pair size listed is apart =
    let both = listed place pair is apart in (
      within_size pair.first variables (length lists)
          (slice_get_within lists pair.first.0 both.first.list both.first.is) size,
      within_size pair.second variables (length lists)
          (slice_get_within lists pair.second.0 both.second.list both.second.is) size,
    )

-- and those of a clause are of its variables
pub clause_within : (variables : ℕ) (clauses : List (List Lit)) (place : ℕ) (lits : List Lit) (lit : Lit)
    → AreWithin variables clauses → slice_get clauses place ≡ Some lits → Contains lits lit
    → variable_of lit < variables
clause_within variables clauses place lits lit within is has =
    within lits (at_contains clauses place lits is) lit has
