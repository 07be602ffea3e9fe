-- What follows from the definitions of walks.
use Rattle.std.proofs.Common.{◌≡◌, ℕ, zero, suc, true, false, List, [], ◌∷◌, ◌⊎◌}
use Rattle.std.proofs.Common.{inl, inr, Contains, Some, sym, ◌∙◌, ap, subst, refl, arith, true≢false}
use Rattle.std.specs.Prelude.{slice_get}
use Rattle.std.proofs.lemmas.Bool.{cases_lt}
use Rattle.std.proofs.lemmas.Option.{same_Some}
use Rattle.hi_tree.specs.Walks.{Climb, IsAbove, direct, further, IsClean, clean, Stop}
use Rattle.hi_tree.specs.Walks.{StopsAt, again, missing, here, higher}

-- what is in a list is its first element, or in the rest
pub Contains_cases : (x : List ℕ) (xs : List (List ℕ)) (y : List ℕ) → Contains (x ∷ xs) y → (x ≡ y) ⊎ Contains xs y
Contains_cases x xs y (zero, below, e) = inl e
Contains_cases x xs y (suc k, below, e) = inr (k, omega arith, e)

module _ (w : Climb) where
  pub clean-known : {name : List ℕ} → IsClean w name → w.known name ≡ true
  clean-known (clean name known free above) = known

  pub clean-free : {name : List ℕ} → IsClean w name → w.sought name ≡ false
  clean-free (clean name known free above) = free

  pub clean-above : {name : List ℕ} → IsClean w name → (place : ℕ) (above : List ℕ)
      → slice_get (w.supers name) place ≡ Some above
      → IsClean w above
  clean-above (clean name known free above) = above

  -- what is above what is above is above
  pub above_above : {a b c : List ℕ} → IsAbove w.supers a b → IsAbove w.supers b c → IsAbove w.supers a c
  above_above (direct name above place e) h = further name above _ place e h
  above_above (further name above top place e r) h = further name above _ place e (above_above r h)

  -- a clean walk has clean walks above it
  pub clean-all : {a b : List ℕ} → IsClean w a → IsAbove w.supers a b → IsClean w b
  clean-all (clean name known free above) (direct n b place e) = above place b e
  clean-all (clean name known free above) (further n b top place e r) = clean-all (above place b e) r

  -- no class of a clean walk is above itself
  pub clean-acyclic : {a : List ℕ} → IsClean w a → IsAbove w.supers a a → ⊥
  clean-acyclic (clean name known free above) (direct n b place e) = clean-acyclic (above place b e)
      (direct n b place e)
  clean-acyclic (clean name known free above) (further n b top place e r) =
      clean-acyclic (above place b e) (above_above r (direct n b place e))

  -- each class of a path is below the class that it leads to
  abbrev pub IsPath : List (List ℕ) → List ℕ → Type 0
  IsPath path name = (p : List ℕ) → Contains path p → IsAbove w.supers p name

  path_more : (path : List (List ℕ)) (name above : List ℕ) (place : ℕ)
      → slice_get (w.supers name) place ≡ Some above → IsPath path name
      → IsPath (name ∷ path) above
  path_more path name above place e is p there = elim (Contains_cases name path p there) [
    | inl same ↦ subst (λ (x : List ℕ). IsAbove w.supers x above) same (direct name above place e)
    | inr old ↦ above_above (is p old) (direct name above place e)
  ]

  -- a clean walk stops nowhere
  pub clean_no_stop : {path : List (List ℕ)} {name : List ℕ} {stop : Stop} → IsClean w name → IsPath path name
      → StopsAt w path name stop → ⊥
  clean_no_stop is path (again p name there) = clean-acyclic is (path name there)
  clean_no_stop is path (missing p name fresh off) = true≢false (sym (clean-known is) ∙ off)
  clean_no_stop is path (here p name fresh known sought) = true≢false (sym sought ∙ clean-free is)
  clean_no_stop is path (higher p name place above stop fresh known free e before r) =
      clean_no_stop (clean-above is place above e) (path_more p name above place e path) r

  -- a walk stops at one place
  pub one_stop : {path : List (List ℕ)} {name : List ℕ} {s t : Stop} → IsPath path name → StopsAt w path name s
      → StopsAt w path name t → s ≡ t
  one_stop path (again p name there) (again q n there2) = refl
  one_stop path (again p name there) (missing q n fresh off) = absurd (fresh there)
  one_stop path (again p name there) (here q n fresh known sought) = absurd (fresh there)
  one_stop path (again p name there) (higher q n place above stop fresh known free e before r) = absurd (fresh there)
  one_stop path (missing p name fresh off) (again q n there) = absurd (fresh there)
  one_stop path (missing p name fresh off) (missing q n fresh2 off2) = refl
  one_stop path (missing p name fresh off) (here q n fresh2 known sought) = absurd (true≢false (sym known ∙ off))
  one_stop path (missing p name fresh off) (higher q n place above stop fresh2 known free e before r) =
      absurd (true≢false (sym known ∙ off))
  one_stop path (here p name fresh known sought) (again q n there) = absurd (fresh there)
  one_stop path (here p name fresh known sought) (missing q n fresh2 off) = absurd (true≢false (sym known ∙ off))
  one_stop path (here p name fresh known sought) (here q n fresh2 known2 sought2) = refl
  one_stop path (here p name fresh known sought) (higher q n place above stop fresh2 known2 free e before r) =
      absurd (true≢false (sym sought ∙ free))
  one_stop path (higher p name place above stop fresh known free e before r) (again q n there) = absurd (fresh there)
  one_stop path (higher p name place above stop fresh known free e before r) (missing q n fresh2 off) =
      absurd (true≢false (sym known ∙ off))
  one_stop path (higher p name place above stop fresh known free e before r) (here q n fresh2 known2 sought2) =
      absurd (true≢false (sym sought2 ∙ free))
  one_stop path (higher p name i a s fresh known free ei beforei r)
      (higher q n j b t fresh2 known2 free2 ej beforej u) =
      elim (cases_lt i j) [
        | inl lt ↦ absurd (clean_no_stop (beforej i a lt ei) (path_more p name a i ei path) r)
        | inr ge ↦ elim (cases_lt j i) [
          | inl lt ↦ absurd (clean_no_stop (beforei j b lt ej) (path_more p name b j ej path) u)
          | inr le ↦
              let same : i ≡ j = omega arith in
              let names : a ≡ b = same_Some a b (sym ei ∙ ap (λ (k : ℕ). slice_get (w.supers name) k) same ∙ ej) in
              one_stop (path_more p name a i ei path) r (subst (λ (x : List ℕ). StopsAt w (name ∷ p) x t)
              (sym names) u)
        ]
      ]

  pub no_path : (name : List ℕ) → IsPath [] name
  no_path name p there = absurd (omega (arith, there.1))
