-- What an effect does to shapes of which more is known.
use Rattle.std.proofs.Common.{◌≡◌, ℕ, zero, suc, ◌+◌, Bool, true, false, List, [], ◌∷◌, ◌++◌, length, Option}
use Rattle.std.proofs.Common.{Some, None, refl, sym, ap, subst, ◌∙◌, arith}
use Rattle.std.specs.Prelude.{◌==◌, ◌&&◌, if◌then◌else◌}
use Rattle.std.proofs.lemmas.Option.{none-some}
use Rattle.std.proofs.lemmas.List.{append_cancel_right}
use Rattle.ck_shapes.specs.declared.shape.ValueType.{ValueType}
use Rattle.ck_shapes.specs.declared.shape.ValueType.TheVariants.{Int}
use Rattle.ck_shapes.specs.declared.shape.Shape.{Shape}
use Rattle.ck_shapes.specs.declared.shape.Limits.{Limits}
use Rattle.ck_shapes.specs.declared.effect.Effect.{Effect}
use Rattle.ck_shapes.specs.declared.effect.Effect.TheVariants.{Moves, Loads, Stores, Increments, Replaces}
use Rattle.ck_shapes.specs.Shape.{is_long, local_at, stored, HaveSame, AreStored, IsKnownLess, IsWeaker, Applies}
use Rattle.ck_shapes.specs.Shape.{IsMoved, IsReplaced}
use Rattle.ck_shapes.proofs.LocalLemmas.{Locals, IsTable, table_none, table_push, table_whole, stored_past}
use Rattle.ck_shapes.proofs.StackLemmas.{one_moved, one_replaced}

-- ---- stores

stored_step : (a b c : Bool) (t u : ValueType) (x y : Option ValueType) → ((v : ValueType) → x ≡ Some v → y ≡ Some v)
    → (if a then Some t else (if b && is_long x then None else (if c then None else x))) ≡ Some u
    → (if a then Some t else (if b && is_long y then None else (if c then None else y))) ≡ Some u
stored_step true b c t u x y h e = e
stored_step false true true t u None y h e = absurd (none-some u e)
stored_step false true false t u None y h e = absurd (none-some u e)
stored_step false false true t u None y h e = absurd (none-some u e)
stored_step false false false t u None y h e = absurd (none-some u e)
stored_step false b c t u (Some v) y h e =
    subst (λ (o : Option ValueType).
    (if b && is_long o then None else (if c then None else o)) ≡ Some u) (sym (h v refl)) e

stored_more : (w s : Locals) (t : ValueType) (n i : ℕ) (u : ValueType) → IsKnownLess w s → stored w t n i ≡ Some u
    → stored s t n i ≡ Some u
stored_more w s t n i u less e =
    stored_step (i == n) (i + 1 == n) ((i == n + 1) && is_long (Some t)) t u (local_at w i) (local_at s i) (less i) e

-- a list with these locals
build : (ℕ → Option ValueType) → ℕ → Locals
build f zero = []
build f (suc n) = build f n ++ f n ∷ []

build_table : (f : ℕ → Option ValueType) (n : ℕ) → IsTable f n (build f n)
unfolding build
build_table f zero = table_none f [] refl
build_table f (suc n) =
    let e : n + 1 ≡ suc n = omega arith in
    subst (λ (k : ℕ). IsTable f k (build f n ++ f n ∷ [])) e
    (table_push f n (build f n) (build f n ++ f n ∷ []) (f n) (build_table f n) refl refl)

-- there are locals after a store
store_exists : (old : Locals) (t : ValueType) (n : ℕ) → (new : Locals) × AreStored old t n new
store_exists old t n =
    let count : ℕ = length old + suc n in (
      build (stored old t n) count,
      λ i. table_whole (stored old t n) count (build (stored old t n) count) (build_table (stored old t n) count)
          (λ j le. stored_past old t n j (omega arith) (omega arith)) i,
    )

-- ---- effects

same_less : (w s a b : Locals) → IsKnownLess w s → HaveSame w a → HaveSame s b → IsKnownLess a b
same_less w s a b less p q i t e = q i ∙ less i t (sym (p i) ∙ e)

stored_less : (w s a b : Locals) (t : ValueType) (n : ℕ) → IsKnownLess w s → AreStored w t n a → AreStored s t n b
    → IsKnownLess a b
stored_less w s a b t n less p q i u e = q i ∙ stored_more w s t n i u less (sym (p i) ∙ e)

-- where more is known before, more is known after
pub applies_weaker : (limits : Limits) (e : Effect) (w s a b : Shape) → IsWeaker w s → Applies limits e w a
    → Applies limits e s b → IsWeaker a b
applies_weaker limits (Moves how) w s a b less p q = record {
  stack = one_moved how s.stack a.stack b.stack
      (subst (λ (l : List ValueType). IsMoved how l a.stack) less.stack p.1) q.1;
  locals = same_less w.locals s.locals a.locals b.locals less.locals p.0 q.0;
}
applies_weaker limits (Loads t n) w s a b less p q = record {
  stack = p.2 ∙ ap (λ (l : List ValueType). l ++ t ∷ []) less.stack ∙ sym q.2;
  locals = same_less w.locals s.locals a.locals b.locals less.locals p.1 q.1;
}
applies_weaker limits (Stores t n) w s a b less p q = record {
  stack = append_cancel_right a.stack b.stack (t ∷ []) (sym p.2 ∙ less.stack ∙ q.2);
  locals = stored_less w.locals s.locals a.locals b.locals t n less.locals p.1 q.1;
}
applies_weaker limits (Increments n) w s a b less p q = record {
  stack = p.2 ∙ less.stack ∙ sym q.2;
  locals = same_less w.locals s.locals a.locals b.locals less.locals p.1 q.1;
}
applies_weaker limits (Replaces takes leaves) w s a b less p q = record {
  stack = one_replaced takes leaves s.stack a.stack b.stack
      (subst (λ (l : List ValueType). IsReplaced takes leaves l a.stack) less.stack p.1) q.1;
  locals = same_less w.locals s.locals a.locals b.locals less.locals p.0 q.0;
}

-- and what could be done can be done
pub applies_more : (limits : Limits) (e : Effect) (w s a : Shape) → IsWeaker w s → Applies limits e w a
    → (b : Shape) × Applies limits e s b
applies_more limits (Moves how) w s a less p = (
  record { locals = s.locals; stack = a.stack },
  (λ i. refl, subst (λ (l : List ValueType). IsMoved how l a.stack) less.stack p.1),
)
applies_more limits (Loads t n) w s a less p = (
  record { locals = s.locals; stack = a.stack },
  ((p.0.0, less.locals n t p.0.1), λ i. refl, p.2 ∙ ap (λ (l : List ValueType). l ++ t ∷ []) less.stack),
)
applies_more limits (Stores t n) w s a less p =
    let new = store_exists s.locals t n in
    (record { locals = new.0; stack = a.stack }, (p.0, new.1, sym less.stack ∙ p.2))
applies_more limits (Increments n) w s a less p = (
  record { locals = s.locals; stack = a.stack },
  ((p.0.0, less.locals n Int p.0.1), λ i. refl, p.2 ∙ less.stack),
)
applies_more limits (Replaces takes leaves) w s a less p = (
  record { locals = s.locals; stack = a.stack },
  (λ i. refl, subst (λ (l : List ValueType). IsReplaced takes leaves l a.stack) less.stack p.1),
)
