-- Runs of locals: where a local is, what a store changes, and what is common.
use Rattle.std.proofs.Common.{◌≡◌, ℕ, zero, suc, ◌+◌, ◌-◌, ◌≤◌, ◌<◌, List, [], ◌∷◌, ◌++◌, length, Option, Some, None}
use Rattle.std.proofs.Common.{refl, sym, ap, ◌∙◌, arith, inl, inr, ◌⊎◌, Bool, true, false, subst, append_assoc}
use Rattle.std.specs.Prelude.{◌==◌, ◌&&◌, if◌then◌else◌}
use Rattle.std.proofs.lemmas.Bool.Decides.{nat_tests}
use Rattle.std.proofs.lemmas.List.{length-append, append-nil}
use Rattle.ck_shapes.specs.declared.shape.ValueType.{ValueType}
use Rattle.ck_shapes.specs.declared.shape.ValueType.TheVariants.{Int, Long, Reference}
use Rattle.ck_shapes.specs.Shape.{is_long, local_at, stored, IsKnownLess}
use Rattle.ck_shapes.specs.Calls.Joins.{common, AreCommon, IsKnownOnlyHere}
use Rattle.ck_shapes.specs.Calls.Runs.{joined, stored_near, stored_from}
use Rattle.ck_shapes.proofs.LocalLemmas.{Locals, at_front, local_past}

-- ---- where a local is

pub at_behind : (xs ys : Locals) (i : ℕ) → length xs ≤ i → local_at (xs ++ ys) i ≡ local_at ys (i - length xs)
at_behind [] ys i le = let e : i ≡ (i - 0) = omega arith in ap (local_at ys) e
at_behind (x ∷ xs) ys zero le = absurd (omega (arith, le))
at_behind (x ∷ xs) ys (suc i) le =
    let e : (i - length xs) ≡ (suc i - length (x ∷ xs)) = omega arith in
    at_behind xs ys i (omega (arith, le)) ∙ ap (local_at ys) e

pub joined_push : {A : Type 0} (runs : List (List A)) (run : List A) → joined (runs ++ run ∷ []) ≡ joined runs ++ run
joined_push [] run = append-nil run
joined_push (r ∷ rs) run = ap (λ l. r ++ l) (joined_push rs run) ∙ sym (append_assoc r (joined rs) run)

pub joined_behind : (runs new : List Locals) (run rest : Locals) → new ≡ runs ++ run ∷ []
    → joined new ++ rest ≡ joined runs ++ (run ++ rest)
joined_behind runs new run rest e =
    ap (λ (rs : List Locals). joined rs ++ rest) e ∙ ap (λ (ls : Locals). ls ++ rest) (joined_push runs run)
    ∙ append_assoc (joined runs) run rest

-- ---- stores

-- far from the store nothing changes
near_none : (l : Option ValueType) (t : ValueType) (r : ℕ) → (r ≡ 0) ⊎ (3 < r) → stored_near l t r ≡ l
near_none l t r (inl e) = rw e refl
near_none l t r (inr lt) =
    let a : (r == 2) ≡ false = grind (arith, nat_tests) in
    let b : (r == 3) ≡ false = grind (arith, nat_tests) in
    let d : (r == 1) ≡ false = grind (arith, nat_tests) in
    rw (a, b, d) refl

pub stored_far : (ls : Locals) (t : ValueType) (r : ℕ) → (r ≡ 0) ⊎ (length ls + 2 < r) → stored_from ls t r ≡ ls
stored_far [] t r far = refl
stored_far (l ∷ ls) t r (inl e) =
    let here : stored_near l t r ≡ l = near_none l t r (inl e) in
    let less : (r - 1) ≡ 0 = omega (arith, e) in
    rw here (ap (λ (xs : Locals). l ∷ xs) (stored_far ls t (r - 1) (inl less)))
stored_far (l ∷ ls) t r (inr lt) =
    let here : stored_near l t r ≡ l = near_none l t r (inr (omega (arith, lt))) in
    let less : length ls + 2 < (r - 1) = omega (arith, lt) in
    rw here (ap (λ (xs : Locals). l ∷ xs) (stored_far ls t (r - 1) (inr less)))

pub stored_append : (xs ys : Locals) (t : ValueType) (r : ℕ)
    → stored_from (xs ++ ys) t r ≡ stored_from xs t r ++ stored_from ys t (r - length xs)
stored_append [] ys t r = let e : r ≡ (r - 0) = omega arith in ap (stored_from ys t) e
stored_append (x ∷ xs) ys t r =
    let e : ((r - 1) - length xs) ≡ (r - length (x ∷ xs)) = omega arith in
    ap (λ (ls : Locals). stored_near x t r ∷ ls)
    (stored_append xs ys t (r - 1) ∙ ap (λ (n : ℕ). stored_from xs t (r - 1) ++ stored_from ys t n) e)

pub stored_long : (xs : Locals) (t : ValueType) (r : ℕ) → length (stored_from xs t r) ≡ length xs
stored_long [] t r = refl
stored_long (x ∷ xs) t r = ap suc (stored_long xs t (r - 1))

stored_at : (xs : Locals) (t : ValueType) (r i : ℕ) → i < length xs
    → local_at (stored_from xs t r) i ≡ stored_near (local_at xs i) t (r - i)
stored_at [] t r i lt = absurd (omega (arith, lt))
stored_at (x ∷ xs) t r zero lt = let e : r ≡ (r - 0) = omega arith in ap (stored_near x t) e
stored_at (x ∷ xs) t r (suc i) lt =
    let e : ((r - 1) - i) ≡ (r - suc i) = omega arith in
    stored_at xs t (r - 1) i (omega (arith, lt)) ∙ ap (stored_near (local_at xs i) t) e

-- the distance tells which local it is
near_is : (xs : Locals) (t : ValueType) (n i : ℕ) → stored_near (local_at xs i) t (n + 2 - i) ≡ stored xs t n i
near_is xs t n i =
    let a : (n + 2 - i == 2) ≡ (i == n) = grind (arith, nat_tests) in
    let b : (n + 2 - i == 3) ≡ (i + 1 == n) = grind (arith, nat_tests) in
    let d : (n + 2 - i == 1) ≡ (i == n + 1) = grind (arith, nat_tests) in
    rw (a, b, d) refl

-- behind the last local there is none
same_none : (b : Bool) (o : Option ValueType) → o ≡ None → (if b then None else o) ≡ None
same_none true o e = refl
same_none false o e = e

stored_none : (xs : Locals) (t : ValueType) (n i : ℕ) → n < length xs → length xs ≤ i → stored xs t n i ≡ None
stored_none xs t n i lt le =
    let none = local_past xs i le in
    let a : (i == n) ≡ false = grind (arith, nat_tests) in
    let b : (i + 1 == n) ≡ false = grind (arith, nat_tests) in
    rw (a, b) (same_none ((i == n + 1) && is_long (Some t)) (local_at xs i) none)

pub stored_is : (xs : Locals) (t : ValueType) (n : ℕ) → n < length xs → (i : ℕ)
    → local_at (stored_from xs t (n + 2)) i ≡ stored xs t n i
stored_is xs t n lt i =
    let c : (i < length xs) ⊎ (length xs ≤ i) = grind arith in
    elim c [
      | inl lt2 ↦ stored_at xs t (n + 2) i lt2 ∙ near_is xs t n i
      | inr le ↦ local_past (stored_from xs t (n + 2)) i (omega (arith, le, stored_long xs t (n + 2)))
          ∙ sym (stored_none xs t n i lt le)
    ]

-- one run more is written
pub stored_step : (all : Locals) (old new rest after : List Locals) (run one : Locals) (t : ValueType) (left less : ℕ)
    → rest ≡ run ∷ after → new ≡ old ++ one ∷ [] → one ≡ stored_from run t left → less ≡ left - length run
    → joined old ++ stored_from (joined rest) t left ≡ all → joined new ++ stored_from (joined after) t less ≡ all
stored_step all old new rest after run one t left less parts put is fewer whole =
    joined_behind old new one (stored_from (joined after) t less) put
    ∙ ap (λ (ls : Locals). joined old ++ ls)
    (ap (λ (ls : Locals). ls ++ stored_from (joined after) t less) is
    ∙ ap (λ (n : ℕ). stored_from run t left ++ stored_from (joined after) t n) fewer
    ∙ sym (stored_append run (joined after) t left))
    ∙ ap (λ (rs : List Locals). joined old ++ stored_from (joined rs) t left) (sym parts) ∙ whole

-- ---- what is common

common_none : (o : Option ValueType) → common o None ≡ None
common_none None = refl
common_none (Some Int) = refl
common_none (Some Long) = refl
common_none (Some Reference) = refl

-- where all that one knows is known elsewhere, this is what is common
common_less : (l r : Option ValueType) → ((t : ValueType) → l ≡ Some t → r ≡ Some t) → common l r ≡ l
common_less None r h = refl
common_less (Some Int) r h = ap (common (Some Int)) (h Int refl)
common_less (Some Long) r h = ap (common (Some Long)) (h Long refl)
common_less (Some Reference) r h = ap (common (Some Reference)) (h Reference refl)

common_more : (l r : Option ValueType) → ((t : ValueType) → r ≡ Some t → l ≡ Some t) → common l r ≡ r
common_more l None h = common_none l
common_more l (Some Int) h = ap (λ (o : Option ValueType). common o (Some Int)) (h Int refl)
common_more l (Some Long) h = ap (λ (o : Option ValueType). common o (Some Long)) (h Long refl)
common_more l (Some Reference) h = ap (λ (o : Option ValueType). common o (Some Reference)) (h Reference refl)

pub less_common : (left right : Locals) → IsKnownLess left right → AreCommon left right left
less_common left right less i = sym (common_less (local_at left i) (local_at right i) (less i))

pub more_common : (left right : Locals) → IsKnownLess right left → AreCommon left right right
more_common left right less i = sym (common_more (local_at left i) (local_at right i) (less i))

module _ (l r ls rs : Locals) (long : length l ≡ length r) where
  pub common_append : (b bs : Locals) → length b ≡ length l → AreCommon l r b → AreCommon ls rs bs
      → AreCommon (l ++ ls) (r ++ rs) (b ++ bs)
  common_append b bs same here there i =
      let c : (i < length l) ⊎ (length l ≤ i) = grind arith in
      elim c [
        | inl lt ↦ at_front b bs i (omega (arith, lt, same)) ∙ here i
            ∙ ap (λ (o : Option ValueType). common o (local_at r i)) (sym (at_front l ls i lt))
            ∙ ap (common (local_at (l ++ ls) i)) (sym (at_front r rs i (omega (arith, lt, long))))
        | inr le ↦ at_behind b bs i (omega (arith, le, same))
            ∙ ap (λ (k : ℕ). local_at bs (i - k)) same ∙ there (i - length l)
            ∙ ap (λ (o : Option ValueType). common o (local_at rs (i - length l))) (sym (at_behind l ls i le))
            ∙ ap (common (local_at (l ++ ls) i))
            (sym (at_behind r rs i (omega (arith, le, long)) ∙ ap (λ (k : ℕ). local_at rs (i - k)) (sym long)))
      ]

  pub less_append : IsKnownLess l r → IsKnownLess ls rs → IsKnownLess (l ++ ls) (r ++ rs)
  less_append here there i t e =
      let c : (i < length l) ⊎ (length l ≤ i) = grind arith in
      elim c [
        | inl lt ↦ at_front r rs i (omega (arith, lt, long)) ∙ here i t (sym (at_front l ls i lt) ∙ e)
        | inr le ↦ at_behind r rs i (omega (arith, le, long)) ∙ ap (λ (k : ℕ). local_at rs (i - k)) (sym long)
            ∙ there (i - length l) t (sym (at_behind l ls i le) ∙ e)
      ]

  known_within : (l : Locals) (i : ℕ) (t : ValueType) → local_at l i ≡ Some t → i < length l
  known_within [] i t e = absurd cc
  known_within (x ∷ xs) zero t e = omega arith
  known_within (x ∷ xs) (suc i) t e = omega (arith, known_within xs i t e)

  pub only_front : IsKnownOnlyHere l r → IsKnownOnlyHere (l ++ ls) (r ++ rs)
  only_front only =
      let lt : only.at < length l = known_within l only.at only.type only.known in
      record {
        at = only.at;
        type = only.type;
        known = at_front l ls only.at lt ∙ only.known;
        other = λ e. only.other (sym (at_front r rs only.at (omega (arith, lt, long))) ∙ e);
      }

  pub only_behind : IsKnownOnlyHere ls rs → IsKnownOnlyHere (l ++ ls) (r ++ rs)
  only_behind only =
      let e : (length l + only.at) - length l ≡ only.at = omega arith in
      let f : (length l + only.at) - length r ≡ only.at = omega (arith, long) in
      record {
        at = length l + only.at;
        type = only.type;
        known = at_behind l ls (length l + only.at) (omega arith) ∙ ap (local_at ls) e ∙ only.known;
        other = λ is. only.other
            (sym (at_behind r rs (length l + only.at) (omega (arith, long)) ∙ ap (local_at rs) f) ∙ is);
      }

-- what is common to what is left, behind what is written, is common to all
pub record Completes (left right lefts rights both : Locals) : Type 0 where
  pub common : (rest : Locals) → AreCommon lefts rights rest → AreCommon left right (both ++ rest)
  pub long : length both + length lefts ≡ length left

-- what is known of what is left tells what is known of all
pub record Remains (less more lefts rights : Locals) : Type 0 where
  pub yes : IsKnownLess lefts rights → IsKnownLess less more
  pub no : IsKnownOnlyHere lefts rights → IsKnownOnlyHere less more

module _ (left right : Locals) (lefts rights afters behinds old new : List Locals) (l r b : Locals) where
  -- one run more
  pub complete_step : lefts ≡ l ∷ afters → rights ≡ r ∷ behinds → length l ≡ length r → new ≡ old ++ b ∷ []
      → length b ≡ length l → AreCommon l r b → Completes left right (joined lefts) (joined rights) (joined old)
      → Completes left right (joined afters) (joined behinds) (joined new)
  complete_step parts others long put same here c =
      let ls : joined lefts ≡ l ++ joined afters = ap joined parts in
      let rs : joined rights ≡ r ++ joined behinds = ap joined others in
      record {
        common = λ rest there.
            subst (λ (xs : Locals). AreCommon left right xs) (sym (joined_behind old new b rest put))
            (c.common (b ++ rest)
            (subst (λ (xs : Locals). AreCommon xs (joined rights) (b ++ rest)) (sym ls)
            (subst (λ (xs : Locals). AreCommon (l ++ joined afters) xs (b ++ rest)) (sym rs)
            (common_append l r (joined afters) (joined behinds) long b rest same here there))));
        long =
            omega (
              arith,
              c.long,
              same,
              ap length ls,
              length-append l (joined afters),
              ap length (ap joined put ∙ joined_push old b),
              length-append (joined old) b,
            );
      }

pub complete_start : (left right : Locals) → Completes left right left right []
complete_start left right = record { common = λ rest h. h; long = omega arith }

pub complete_end : (left right lefts rights both : Locals) → lefts ≡ [] → Completes left right lefts rights both
    → AreCommon left right both × (length both ≡ length left)
complete_end left right lefts rights both none c =
    let done : AreCommon lefts rights [] =
    subst (λ (xs : Locals). AreCommon xs rights []) (sym none) (λ i. refl) in (
      subst (λ (xs : Locals). AreCommon left right xs) (append-nil both) (c.common [] done),
      omega (arith, c.long, ap length none),
    )

module _ (less more : Locals) (lefts rights afters behinds : List Locals) (l r : Locals) where
  pub remain_step : lefts ≡ l ∷ afters → rights ≡ r ∷ behinds → length l ≡ length r → IsKnownLess l r
      → Remains less more (joined lefts) (joined rights) → Remains less more (joined afters) (joined behinds)
  remain_step parts others long here m =
      let ls : joined lefts ≡ l ++ joined afters = ap joined parts in
      let rs : joined rights ≡ r ++ joined behinds = ap joined others in
      record {
        yes = λ there. m.yes
            (subst (λ (xs : Locals). IsKnownLess xs (joined rights)) (sym ls)
            (subst (λ (xs : Locals). IsKnownLess (l ++ joined afters) xs) (sym rs)
            (less_append l r (joined afters) (joined behinds) long here there)));
        no = λ only. m.no
            (subst (λ (xs : Locals). IsKnownOnlyHere xs (joined rights)) (sym ls)
            (subst (λ (xs : Locals). IsKnownOnlyHere (l ++ joined afters) xs) (sym rs)
            (only_behind l r (joined afters) (joined behinds) long only)));
      }

  pub remain_no : lefts ≡ l ∷ afters → rights ≡ r ∷ behinds → length l ≡ length r → IsKnownOnlyHere l r
      → Remains less more (joined lefts) (joined rights) → IsKnownOnlyHere less more
  remain_no parts others long only m =
      let ls : joined lefts ≡ l ++ joined afters = ap joined parts in
      let rs : joined rights ≡ r ++ joined behinds = ap joined others in
      m.no
      (subst (λ (xs : Locals). IsKnownOnlyHere xs (joined rights)) (sym ls)
      (subst (λ (xs : Locals). IsKnownOnlyHere (l ++ joined afters) xs) (sym rs)
      (only_front l r (joined afters) (joined behinds) long only)))

pub remain_start : (less more : Locals) → Remains less more less more
remain_start less more = record { yes = λ h. h; no = λ h. h }

pub remain_yes : (less more lefts rights : Locals) → lefts ≡ [] → Remains less more lefts rights → IsKnownLess less more
remain_yes less more lefts rights none m =
    m.yes (subst (λ (xs : Locals). IsKnownLess xs rights) (sym none) (λ i t e. absurd cc))

pub none_left : (runs : List Locals) → length runs ≡ 0 → runs ≡ []
none_left [] e = refl
none_left (r ∷ rs) e = absurd (omega (arith, e))
