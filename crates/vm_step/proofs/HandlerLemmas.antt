-- Which row of an exception table is found.
use Rattle.std.proofs.Common.{◌≡◌, ◌⊎◌, inl, inr, ℕ, suc, Bool, true, false, List, [], ◌∷◌, Contains, All}
use Rattle.std.proofs.Common.{Some, None, if◌then◌else◌, refl, sym, ap, arith}
use Rattle.std.specs.Prelude.{◌&&◌, ◌||◌, ◌==◌, nat_le, nat_lt}
use Rattle.std.specs.List.{find, list_any}
use Rattle.std.specs.Option.{option_map}
use Rattle.std.proofs.lemmas.Bool.{leb-true, le-leb, eqb-true, eq-eqb}
use Rattle.std.proofs.lemmas.List.Elements.{All-cons, All-nil, Contains-append_right}
use Rattle.std.proofs.lemmas.Option.{same_Some}
use Rattle.jv_list.proofs.MemberLemmas.{none_member, first_member, member_cases}
use Rattle.cf_code.specs.declared.transfer.Row.{Row}
use Rattle.vm_step.specs.Handlers.{holds, suits, catches, handler_at, Catches, IsFirstHandler}

both_true : (x y : Bool) → (x && y) ≡ true → (x ≡ true) × (y ≡ true)
both_true true true e = (refl, refl)
both_true true false e = absurd cc
both_true false y e = absurd cc

one_true : (x y : Bool) → (x || y) ≡ true → (x ≡ true) ⊎ (y ≡ true)
one_true true y e = inl refl
one_true false y e = inr e

true_both : (x y : Bool) → x ≡ true → y ≡ true → (x && y) ≡ true
true_both true true d e = refl
true_both true false d e = absurd cc
true_both false y d e = absurd cc

true_left : (x y : Bool) → x ≡ true → (x || y) ≡ true
true_left true y e = refl
true_left false y e = absurd cc

true_right : (x y : Bool) → y ≡ true → (x || y) ≡ true
true_right true y e = refl
true_right false y e = e

-- a catch type is found among those that suit where it is one of them
is_among : (type : ℕ) (suiting : List ℕ) → list_any (λ t. t == type) suiting ≡ true → Contains suiting type
is_among type [] e = absurd cc
is_among type (x ∷ xs) e = elim (one_true (x == type) (list_any (λ t. t == type) xs) e) [
  | inl here ↦ let same : x ≡ type = eqb-true x type here in rw (sym same) (first_member x xs)
  | inr there ↦ Contains-append_right (x ∷ []) xs type (is_among type xs there)
]

among : (type : ℕ) (suiting : List ℕ) → Contains suiting type → list_any (λ t. t == type) suiting ≡ true
among type [] h = absurd (none_member type h)
among type (x ∷ xs) h = elim (member_cases x xs type h) [
  | inl same ↦ true_left (x == type) (list_any (λ t. t == type) xs) (eq-eqb x type same)
  | inr more ↦ true_right (x == type) (list_any (λ t. t == type) xs) (among type xs more)
]

module _ (pc : ℕ) (suiting : List ℕ) where
  fact_of : (row : Row) → catches pc suiting row ≡ true → Catches pc suiting row
  fact_of row e =
      let parts = both_true (holds row pc) (suits row suiting) e in
      let range = both_true (nat_le row.start pc) (nat_lt pc row.end) parts.0 in (
        (leb-true row.start pc range.0, omega (arith, leb-true (suc pc) row.end range.1)),
        elim (one_true (row.catch_type == 0) (list_any (λ t. t == row.catch_type) suiting) parts.1) [
          | inl any ↦ inl (eqb-true row.catch_type 0 any)
          | inr one ↦ inr (is_among row.catch_type suiting one)
        ],
      )

  test_of : (row : Row) → Catches pc suiting row → catches pc suiting row ≡ true
  test_of row h =
      true_both (holds row pc) (suits row suiting)
      (true_both (nat_le row.start pc) (nat_lt pc row.end) (le-leb row.start pc h.0.0)
      (le-leb (suc pc) row.end (omega (arith, h.0.1))))
      (elim h.1 [
        | inl any ↦
            true_left (row.catch_type == 0) (list_any (λ t. t == row.catch_type) suiting) (eq-eqb row.catch_type 0 any)
        | inr one ↦
            true_right (row.catch_type == 0) (list_any (λ t. t == row.catch_type) suiting)
            (among row.catch_type suiting one)
      ])

  not_caught : (row : Row) → catches pc suiting row ≡ false → Catches pc suiting row → ⊥
  not_caught row off h = let on = test_of row h in cc

  pub first_found : (rows : List Row) (handler : ℕ) → handler_at rows pc suiting ≡ Some handler
      → IsFirstHandler rows pc suiting handler
  first_found [] handler e = absurd cc
  first_found (row ∷ rows) handler e = by_test (catches pc suiting row) refl e (first_found rows handler)
    where
      by_test : (b : Bool) → catches pc suiting row ≡ b
          → option_map (λ (r : Row). r.handler) (if b then Some row else find (catches pc suiting) rows) ≡ Some handler
          → (handler_at rows pc suiting ≡ Some handler → IsFirstHandler rows pc suiting handler)
          → IsFirstHandler (row ∷ rows) pc suiting handler
      by_test true is h later = record {
        before = [];
        row = row;
        behind = rows;
        table = refl;
        caught = fact_of row is;
        its = same_Some row.handler handler h;
        earlier = All-nil (λ r. Catches pc suiting r → ⊥);
      }
      by_test false is h later = let rest = later h in record {
        before = row ∷ rest.before;
        row = rest.row;
        behind = rest.behind;
        table = ap (λ (l : List Row). row ∷ l) rest.table;
        caught = rest.caught;
        its = rest.its;
        earlier = All-cons (λ r. Catches pc suiting r → ⊥) row rest.before (not_caught row is) rest.earlier;
      }

  pub none_catches : (rows : List Row) → handler_at rows pc suiting ≡ None
      → All (λ row. Catches pc suiting row → ⊥) rows
  none_catches [] e = All-nil (λ r. Catches pc suiting r → ⊥)
  none_catches (row ∷ rows) e = by_test (catches pc suiting row) refl e (none_catches rows)
    where
      by_test : (b : Bool) → catches pc suiting row ≡ b
          → option_map (λ (r : Row). r.handler) (if b then Some row else find (catches pc suiting) rows) ≡ None
          → (handler_at rows pc suiting ≡ None → All (λ r. Catches pc suiting r → ⊥) rows)
          → All (λ r. Catches pc suiting r → ⊥) (row ∷ rows)
      by_test true is h later = absurd cc
      by_test false is h later =
          All-cons (λ r. Catches pc suiting r → ⊥) row rows (not_caught row is) (later h)
