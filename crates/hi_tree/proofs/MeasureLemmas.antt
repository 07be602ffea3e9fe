-- A walk ends: how much of it is left.
use Rattle.std.proofs.Common.{◌≡◌, ℕ, zero, suc, ◌<◌, ◌≤◌, ◌+◌, ◌-◌, Bool, true, false, List, [], ◌∷◌, inl}
use Rattle.std.proofs.Common.{inr, Some, None, Option, length, sym, ◌∙◌, ap, arith}
use Rattle.std.specs.Prelude.{slice_get}
use Rattle.std.proofs.lemmas.Option.{same_Some, none-some}
use Rattle.hi_tree.specs.Calls.Steps.{Step, Marks, IsMarked, climbed}
use Rattle.jv_list.proofs.DecidedLemmas.{lists}

-- what a class that was not met can take
abbrev pub weight_of : Option Bool → ℕ → ℕ
weight_of None count = count + 2
weight_of (Some mark) count = 0

unfoldable pub unmet : (List ℕ → List (List ℕ)) → Marks → List (List ℕ) → ℕ
unmet supers marks [] = 0
unmet supers marks (n ∷ ns) = weight_of (marks n) (length (supers n)) + unmet supers marks ns

-- what the classes that are being climbed from can take
unfoldable pub open_count : List Step → ℕ
open_count [] = 0
open_count (s ∷ ss) = (length s.above - s.next) + 1 + open_count ss

unfoldable pub left : (List ℕ → List (List ℕ)) → List (List ℕ) → Marks → List Step → ℕ
left supers all marks steps = unmet supers marks all + open_count steps

module _ (supers : List ℕ → List (List ℕ)) (old new : Marks) (a : List ℕ) (mark : Bool)
    (set : IsMarked old a mark new) where
  weight_falls : (q : List ℕ) (count : ℕ) → weight_of (new q) count ≤ weight_of (old q) count
  weight_falls q count = elim (lists a q) [
    | inl same ↦
        let e : weight_of (new q) count ≡ 0 = ap (λ (x : List ℕ). weight_of (new x) count) (sym same)
        ∙ ap (λ (o : Option Bool). weight_of o count) set.same in
        omega arith
    | inr differs ↦ let e : weight_of (new q) count ≡ weight_of (old q) count = ap (λ
        (o : Option Bool). weight_of o count) (set.other q differs) in omega arith
  ]

  pub unmet_falls : (ns : List (List ℕ)) → unmet supers new ns ≤ unmet supers old ns
  unfolding unmet
  unmet_falls [] = omega arith
  unmet_falls (n ∷ ns) =
      let h : unmet supers new ns ≤ unmet supers old ns = unmet_falls ns in
      let k : weight_of (new n) (length (supers n)) ≤ weight_of (old n) (length (supers n)) = weight_falls n
      (length (supers n)) in
      omega arith

  pub unmet_less : (ns : List (List ℕ)) (i : ℕ) → slice_get ns i ≡ Some a → old a ≡ None
      → unmet supers new ns + length (supers a) + 2 ≤ unmet supers old ns
  unfolding unmet
  unmet_less [] i e unmarked = absurd (none-some a e)
  unmet_less (n ∷ ns) zero e unmarked =
      let same : n ≡ a = same_Some n a e in
      let h : unmet supers new ns ≤ unmet supers old ns = unmet_falls ns in
      let was : weight_of (old n) (length (supers n)) ≡ length (supers a) + 2 =
      ap (λ (x : List ℕ). weight_of (old x) (length (supers x))) same
      ∙ ap (λ (o : Option Bool). weight_of o (length (supers a))) unmarked in
      let now : weight_of (new n) (length (supers n)) ≡ 0 =
      ap (λ (x : List ℕ). weight_of (new x) (length (supers x))) same
      ∙ ap (λ (o : Option Bool). weight_of o (length (supers a))) set.same in
      omega arith
  unmet_less (n ∷ ns) (suc i) e unmarked =
      let h : unmet supers new ns + length (supers a) + 2 ≤ unmet supers old ns = unmet_less ns i e unmarked in
      let k : weight_of (new n) (length (supers n)) ≤ weight_of (old n) (length (supers n)) = weight_falls n
      (length (supers n)) in
      omega arith

module _ (supers : List ℕ → List (List ℕ)) (all : List (List ℕ)) (marks new : Marks) (s : Step) (ss : List Step) where
  pub skip_less : s.next < length s.above → left supers all marks (climbed s ∷ ss) < left supers all marks (s ∷ ss)
  unfolding left open_count
  skip_less below = omega arith

  pub push_less : (a : List ℕ) (i : ℕ) → s.next < length s.above → slice_get all i ≡ Some a → marks a ≡ None
      → IsMarked marks a true new
      → left supers all new
      (record { name = a; above = supers a; next = 0 } ∷ climbed s ∷ ss) < left supers all marks (s ∷ ss)
  unfolding left open_count
  push_less a i below at unmarked set =
      let h : unmet supers new all + length
      (supers a) + 2 ≤ unmet supers marks all = unmet_less supers marks new a true set all i at unmarked in
      omega arith

  pub pop_less : IsMarked marks s.name false new → left supers all new ss < left supers all marks (s ∷ ss)
  unfolding left open_count
  pop_less set =
      let h : unmet supers new all ≤ unmet supers marks all = unmet_falls supers marks new s.name false set all in
      omega arith
