-- The shape after an instruction, from the stack after it.
use Rattle.std.proofs.Common.{◌≡◌, ℕ, List, [], ◌∷◌, ◌++◌, Option, Some, None, Result, Ok, Err, refl, sym, ap, subst}
use Rattle.std.specs.Prelude.{IfOk, MatchOption}
use Rattle.ck_shapes.specs.declared.shape.ValueType.{ValueType}
use Rattle.ck_shapes.specs.declared.shape.Shape.{Shape}
use Rattle.ck_shapes.specs.declared.shape.Limits.{Limits}
use Rattle.ck_shapes.specs.declared.effect.Move.{Move}
use Rattle.ck_shapes.specs.declared.effect.Effect.{Effect}
use Rattle.ck_shapes.specs.declared.effect.Effect.TheVariants.{Moves, Stores, Replaces}
use Rattle.ck_shapes.specs.Shape.{Applies, HaveSame, IsMoved, IsReplaced, local_at}
use Rattle.ck_shapes.specs.Calls.Joins.{HasStack}

-- an effect gives a shape, or there is none that it gives
abbrev pub Gives : {E : Type 0} → Limits → Effect → Shape → Result (Option Shape) E → Type 0
Gives limits effect old r = IfOk r (λ found. MatchOption found ((new : Shape) → Applies limits effect old new → ⊥)
    (λ new. Applies limits effect old new))

same_locals : (old new : Shape) → new.locals ≡ old.locals → HaveSame old.locals new.locals
same_locals old new e i = ap (λ (l : List (Option ValueType)). local_at l i) e

module _ {E : Type 0} (limits : Limits) (old : Shape) (effect : Effect) where
  pub moved_gives : (how : Move) (stack : Option (List ValueType)) (r : Result (Option Shape) E)
      → effect ≡ Moves how
      → MatchOption stack ((new : List ValueType) → IsMoved how old.stack new → ⊥) (λ new. IsMoved how old.stack new)
      → IfOk r (λ found. MatchOption found (stack ≡ None) (HasStack old stack)) → Gives limits effect old r
  moved_gives how stack (Err e) is m h = tt
  moved_gives how None (Ok None) is m h = λ new a. m new.stack
      (subst (λ (x : Effect). Applies limits x old new) is a).1
  moved_gives how (Some s) (Ok None) is m h = absurd cc
  moved_gives how None (Ok (Some new)) is m h = absurd cc
  moved_gives how (Some s) (Ok (Some new)) is m h =
      let e : s ≡ new.stack = cc in
      subst (λ (x : Effect). Applies limits x old new) (sym is)
      (same_locals old new h.0, subst (λ (l : List ValueType). IsMoved how old.stack l) e m)

  replaced_here : (takes leaves : List ValueType) (stack : Option (List ValueType)) (r : Result (Option Shape) E)
      → effect ≡ Replaces takes leaves
      → MatchOption stack ((new : List ValueType) → IsReplaced takes leaves old.stack new → ⊥)
      (λ new. IsReplaced takes leaves old.stack new)
      → IfOk r (λ found. MatchOption found (stack ≡ None) (HasStack old stack)) → Gives limits effect old r
  replaced_here takes leaves stack (Err e) is m h = tt
  replaced_here takes leaves None (Ok None) is m h = λ new a. m new.stack
      (subst (λ (x : Effect). Applies limits x old new) is a).1
  replaced_here takes leaves (Some s) (Ok None) is m h = absurd cc
  replaced_here takes leaves None (Ok (Some new)) is m h = absurd cc
  replaced_here takes leaves (Some s) (Ok (Some new)) is m h =
      let e : s ≡ new.stack = cc in
      subst (λ (x : Effect). Applies limits x old new) (sym is)
      (same_locals old new h.0, subst (λ (l : List ValueType). IsReplaced takes leaves old.stack l) e m)

  pub replaced_gives : (takes leaves its these : List ValueType) (stack : Option (List ValueType))
      (r : Result (Option Shape) E) → effect ≡ Replaces takes leaves → its ≡ takes → these ≡ leaves
      → MatchOption stack ((new : List ValueType) → IsReplaced its these old.stack new → ⊥)
      (λ new. IsReplaced its these old.stack new)
      → IfOk r (λ found. MatchOption found (stack ≡ None) (HasStack old stack)) → Gives limits effect old r
  replaced_gives takes leaves its these stack r is t l m h =
      replaced_here takes leaves stack r is
      (subst (λ (x : List ValueType). MatchOption stack ((new : List ValueType) → IsReplaced x leaves old.stack new → ⊥)
      (λ new. IsReplaced x leaves old.stack new)) t
      (subst (λ (x : List ValueType). MatchOption stack ((new : List ValueType) → IsReplaced its x old.stack new → ⊥)
      (λ new. IsReplaced its x old.stack new)) l m)) h

-- where no value of the type is on top, nothing is stored
pub store_none : (limits : Limits) (t : ValueType) (n : ℕ) (old : Shape)
    → ((stack : List ValueType) → IsReplaced (t ∷ []) [] old.stack stack → ⊥) → (new : Shape)
    → Applies limits (Stores t n) old new → ⊥
store_none limits t n old none new a = none (new.stack ++ []) (record { rest = new.stack; old_is = a.2; new_is = refl })
