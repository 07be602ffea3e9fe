-- The pairs with handlers: a range of sorted pcs, and rows that are gone over one by one.
use Rattle.std.proofs.Common.{◌≡◌, ◌⊎◌, ℕ, ◌+◌, ◌-◌, ◌≤◌, ◌<◌, List, [], ◌∷◌, ◌++◌, length, take, drop, get_or, map}
use Rattle.std.proofs.Common.{Option, Some, None, Contains, IsPermutation, inl, inr, sym, ◌∙◌, ap, subst, arith}
use Rattle.std.proofs.lemmas.Bool.{cases_lt}
use Rattle.std.proofs.lemmas.List.{get_or-drop, get_or-take, length-drop, length-take}
use Rattle.std.proofs.lemmas.List.Elements.{Contains-append_left, Contains-append_right, Contains-append_cases}
use Rattle.std.proofs.lemmas.List.Elements.{Contains-push, Contains-push_cases}
use Rattle.std.proofs.lemmas.List.Sorted.{Contains-permutation, IsPermutation-sym}
use Rattle.cf_code.specs.declared.transfer.Row.{Row}
use Rattle.cf_code.specs.Transfers.{HoldsPc}
use Rattle.cf_code.specs.Steps.Ways.{Adds, IsInRange, IsHandled, IsHeldToo, IsCountBelow}
use Rattle.jv_list.proofs.MemberLemmas.{in_map, from_map}
use Rattle.jv_list.proofs.TestLemmas.{pair_parts}

-- ---- the pcs from one on and below another

module _ (starts : List ℕ) (from end first low high : ℕ) (below : IsCountBelow starts from low)
    (above : IsCountBelow starts end high) (first_low : first ≤ low) (low_first : low ≤ first ⊎ high ≤ first) where
  abbrev range : List ℕ
  range = drop first (take high starts)

  in_range : (a : ℕ) → Contains range a → Contains starts a × (from ≤ a) × (a < end)
  in_range a (i, lt, is) =
      let short : first + i < length (take high starts) = omega (arith, length-drop first (take high starts)) in
      let few : first + i < high = omega (arith, length-take high starts) in
      let inside : first + i < length starts = omega (arith, length-take high starts) in
      let same : get_or starts (first + i) a ≡ a =
      sym (get_or-take high starts (first + i) a few) ∙ sym (get_or-drop first (take high starts) i a) ∙ is in
      let past : low ≤ first + i = elim low_first [
        | inl le ↦ omega arith
        | inr le ↦ absurd (omega arith)
      ] in (
        (first + i, inside, same),
        subst (λ (n : ℕ). from ≤ n) same (below.1 (first + i) a past inside),
        subst (λ (n : ℕ). n < end) same (above.0 (first + i) a (omega arith) few),
      )

  from_range : (a : ℕ) → Contains starts a → from ≤ a → a < end → Contains range a
  from_range a (k, inside, is) ge lt =
      let past : low ≤ k = elim (cases_lt k low) [
        | inl less ↦ absurd (omega (arith, below.0 k a (omega arith) less, is))
        | inr le ↦ le
      ] in
      let few : k < high = elim (cases_lt k high) [
        | inl less ↦ less
        | inr le ↦ absurd (omega (arith, above.1 k a le inside, is))
      ] in
      let at : first + (k - first) ≡ k = omega arith in
      let same : get_or (drop first (take high starts)) (k - first) a ≡ a =
      get_or-drop first (take high starts) (k - first) a ∙ ap (λ (n : ℕ). get_or (take high starts) n a) at
      ∙ get_or-take high starts k a few ∙ is in
      (k - first, omega (arith, length-drop first (take high starts), length-take high starts), same)

  -- their pairs with a handler come to those that were there
  pub range_adds : (old new : List (ℕ × ℕ)) (handler : ℕ) → new ≡ old ++ map (λ start. (start, handler)) range
      → Adds old new (IsInRange starts from end handler)
  range_adds old new handler is a b =
      let pair : ℕ → ℕ × ℕ = λ start. (start, handler) in (
        λ h. elim (Contains-append_cases old (map pair range) (a, b)
            (subst (λ (ps : List (ℕ × ℕ)). Contains ps (a, b)) is h)) [
              | inl there ↦ inl there
              | inr made ↦
                  let m = from_map pair range (a, b) made in
                  let parts = pair_parts m.0 a handler b m.2 in
                  let found = in_range a (subst (λ (n : ℕ). Contains range n) parts.0 m.1) in
                  inr (found.0, found.1, found.2, sym parts.1)
            ],
        λ h. subst (λ (ps : List (ℕ × ℕ)). Contains ps (a, b)) (sym is) (elim h [
          | inl there ↦ Contains-append_left old (map pair range) (a, b) there
          | inr r ↦ Contains-append_right old (map pair range) (a, b)
              (subst (λ (n : ℕ). Contains (map pair range) (a, n)) (sym r.3)
              (in_map pair range a (from_range a r.0 r.1 r.2)))
        ]),
      )

-- ---- the rows one by one

module _ (starts : List ℕ) (old : List (ℕ × ℕ)) where
  -- what the rows so far made is there, and the row before is one of them
  pub record IsDone (rows : List Row) (out : List (ℕ × ℕ)) (last : Option Row) : Type 0 where
    pub adds : Adds old out (IsHandled starts rows)
    pub known : (other : Row) → last ≡ Some other → Contains rows other

  pub none_done : IsDone [] old None
  none_done = record {
    adds = λ a b. (
      λ h. inl h,
      λ h. elim h [
        | inl there ↦ there
        | inr r ↦ absurd (omega (arith, r.1.1.1))
      ],
    );
    known = λ other e. absurd cc;
  }

  module _ (rows : List Row) (out new : List (ℕ × ℕ)) (last : Option Row) (row : Row) (from : ℕ)
      (done : IsDone rows out last) (later : row.start ≤ from)
      (held : (pc : ℕ) → row.start ≤ pc → pc < from → IsHeldToo last row pc)
      (added : Adds out new (IsInRange starts from row.end row.handler)) where
    -- what one more row makes
    adds_more : Adds old new (IsHandled starts (rows ++ row ∷ []))
    adds_more a b = (
      λ h. elim ((added a b).0 h) [
        | inl there ↦ elim ((done.adds a b).0 there) [
          | inl first ↦ inl first
          | inr r ↦ inr (r.0, (r.1.0, Contains-append_left rows (row ∷ []) r.1.0 r.1.1, r.1.2, r.1.3))
        ]
        | inr r ↦ inr (r.0, (row, Contains-push rows row, (omega (arith, r.1), r.2), r.3))
      ],
      λ h. elim h [
        | inl first ↦ (added a b).1 (inl ((done.adds a b).1 (inl first)))
        | inr r ↦ elim (Contains-push_cases rows row r.1.0 r.1.1) [
          | inl before ↦ (added a b).1 (inl ((done.adds a b).1 (inr (r.0, (r.1.0, before, r.1.2, r.1.3)))))
          | inr same ↦
              let holds : HoldsPc row a = subst (λ (x : Row). HoldsPc x a) (sym same) r.1.2 in
              let handler : b ≡ row.handler = r.1.3 ∙ ap (λ (x : Row). x.handler) (sym same) in
              elim (cases_lt a from) [
                | inl less ↦
                    let other = held a holds.0 less in
                    (added a b).1 (inl ((done.adds a b).1
                    (inr (r.0, (other.0, done.known other.0 other.1, other.2, handler ∙ sym other.3)))))
                | inr le ↦ (added a b).1 (inr (r.0, le, holds.1, handler))
              ]
        ]
      ],
    )

    pub more_done : (next : Row) → (last ≡ Some next) ⊎ (next ≡ row)
        → IsDone (rows ++ row ∷ []) new (Some next)
    more_done next one = record {
      adds = adds_more;
      known = λ other e. elim one [
        | inl before ↦ Contains-append_left rows (row ∷ []) other (done.known other (before ∙ e))
        | inr same ↦
            let is : row ≡ other = sym same ∙ cc in
            subst (λ (x : Row). Contains (rows ++ row ∷ []) x) is (Contains-push rows row)
      ];
    }

-- rows in another order make the same pairs
pub same_handled : (starts : List ℕ) (rows sorted : List Row) (old new : List (ℕ × ℕ)) → IsPermutation rows sorted
    → Adds old new (IsHandled starts sorted) → Adds old new (IsHandled starts rows)
same_handled starts rows sorted old new moved adds a b = (
  λ h. elim ((adds a b).0 h) [
    | inl there ↦ inl there
    | inr r ↦ inr (
      r.0,
      (
        r.1.0,
        Contains-permutation sorted rows r.1.0 (IsPermutation-sym rows sorted moved) r.1.1,
        r.1.2,
        r.1.3,
      ),
    )
  ],
  λ h. elim h [
    | inl there ↦ (adds a b).1 (inl there)
    | inr r ↦ (adds a b).1 (inr (r.0, (r.1.0, Contains-permutation rows sorted r.1.0 moved r.1.1, r.1.2, r.1.3)))
  ],
)
