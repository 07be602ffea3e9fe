-- What is known of locals and of shapes, more or less, and how steps keep it.
use Rattle.std.proofs.Common.{◌≡◌, ◌⊎◌, ◌&&◌, ◌++◌, ℕ, zero, suc, Bool, true, false, List, [], ◌∷◌, length, slice_get}
use Rattle.std.proofs.Common.{slice_set, Option, Some, None, refl, sym, ap, subst, ◌∙◌, arith, inl, inr}
use Rattle.std.proofs.lemmas.List.{append_cancel_right, length-set}
use Rattle.cf_thin.specs.declared.instr.ThinInstr.{ThinInstr}
use Rattle.cf_thin.specs.declared.instr.ThinInstr.TheVariants.{Iload, Istore}
use Rattle.cf_thin.specs.declared.shape.OperandType.{OperandType}
use Rattle.cf_thin.specs.declared.shape.Shape.{Shape}
use Rattle.cf_thin.specs.declared.shape.Limits.{Limits}
use Rattle.cf_thin.specs.ThinCode.{takes, leaves, LocalsStep, StackSteps, Steps, IsKnownLess, IsWeaker}
use Rattle.cf_thin.specs.Calls.Passes.{both_known, AreJoined, JoinsFound}

-- one local is known less than another
abbrev Less : Bool → Bool → Type 0
Less x y = (x ≡ y) ⊎ (x ≡ false)

less_trans : (x y z : Bool) → Less x y → Less y z → Less x z
less_trans x y z (inl e) (inl f) = inl (e ∙ f)
less_trans x y z (inl e) (inr f) = inr (e ∙ f)
less_trans x y z (inr e) q = inr e

pub known_refl : (xs : List Bool) → IsKnownLess xs xs
known_refl [] = tt
known_refl (x ∷ xs) = (inl refl, known_refl xs)

pub known_trans : (xs ys zs : List Bool) → IsKnownLess xs ys → IsKnownLess ys zs → IsKnownLess xs zs
known_trans [] [] [] p q = tt
known_trans [] [] (z ∷ zs) p q = absurd q
known_trans [] (y ∷ ys) zs p q = absurd p
known_trans (x ∷ xs) [] zs p q = absurd p
known_trans (x ∷ xs) (y ∷ ys) [] p q = absurd q
known_trans (x ∷ xs) (y ∷ ys) (z ∷ zs) p q = (less_trans x y z p.0 q.0, known_trans xs ys zs p.1 q.1)

pub known_length : (xs ys : List Bool) → IsKnownLess xs ys → length xs ≡ length ys
known_length [] [] p = refl
known_length [] (y ∷ ys) p = absurd p
known_length (x ∷ xs) [] p = absurd p
known_length (x ∷ xs) (y ∷ ys) p = ap suc (known_length xs ys p.1)

pub known_set : (xs ys : List Bool) (i : ℕ) → IsKnownLess xs ys
    → IsKnownLess (slice_set xs i true) (slice_set ys i true)
known_set [] [] i p = tt
known_set [] (y ∷ ys) i p = absurd p
known_set (x ∷ xs) [] i p = absurd p
known_set (x ∷ xs) (y ∷ ys) zero p = (inl refl, p.1)
known_set (x ∷ xs) (y ∷ ys) (suc i) p = (p.0, known_set xs ys i p.1)

less_true : (x y : Bool) → Less x y → Some x ≡ Some true → Some y ≡ Some true
less_true x y (inl e) is = ap Some (sym e) ∙ is
less_true x y (inr e) is = absurd cc

pub known_get : (xs ys : List Bool) (i : ℕ) → IsKnownLess xs ys → slice_get xs i ≡ Some true
    → slice_get ys i ≡ Some true
known_get [] ys i p is = absurd cc
known_get (x ∷ xs) [] i p is = absurd p
known_get (x ∷ xs) (y ∷ ys) zero p is = less_true x y p.0 is
known_get (x ∷ xs) (y ∷ ys) (suc i) p is = known_get xs ys i p.1 is

less_left : (x y : Bool) → Less (x && y) x
less_left true true = inl refl
less_left true false = inr refl
less_left false y = inl refl

less_right : (x y : Bool) → Less (x && y) y
less_right true y = inl refl
less_right false y = inr refl

less_both : (w x y : Bool) → Less w x → Less w y → Less w (x && y)
less_both w true y p q = q
less_both w false y p q = p

pub both_left : (xs ys : List Bool) → length xs ≡ length ys → IsKnownLess (both_known xs ys) xs
both_left [] [] same = tt
both_left [] (y ∷ ys) same = tt
both_left (x ∷ xs) [] same = absurd (omega arith)
both_left (x ∷ xs) (y ∷ ys) same = (less_left x y, both_left xs ys (omega arith))

pub both_right : (xs ys : List Bool) → length xs ≡ length ys → IsKnownLess (both_known xs ys) ys
both_right [] [] same = tt
both_right [] (y ∷ ys) same = absurd (omega arith)
both_right (x ∷ xs) [] same = tt
both_right (x ∷ xs) (y ∷ ys) same = (less_right x y, both_right xs ys (omega arith))

pub both_most : (ws xs ys : List Bool) → IsKnownLess ws xs → IsKnownLess ws ys → IsKnownLess ws (both_known xs ys)
both_most [] [] ys p q = tt
both_most [] (x ∷ xs) ys p q = absurd p
both_most (w ∷ ws) [] ys p q = absurd p
both_most (w ∷ ws) (x ∷ xs) [] p q = absurd q
both_most (w ∷ ws) (x ∷ xs) (y ∷ ys) p q = (less_both w x y p.0 q.0, both_most ws xs ys p.1 q.1)

pub weaker_refl : (s : Shape) → IsWeaker s s
weaker_refl s = record { stack = refl; locals = known_refl s.locals }

pub weaker_trans : (s t u : Shape) → IsWeaker s t → IsWeaker t u → IsWeaker s u
weaker_trans s t u p q =
    record { stack = p.stack ∙ q.stack; locals = known_trans s.locals t.locals u.locals p.locals q.locals }

-- ---- steps

-- the same step from more that is known gives more
locals_more : (instr : ThinInstr) (old new more : List Bool) → LocalsStep instr old new → IsKnownLess old more
    → (after : List Bool) × LocalsStep instr more after × IsKnownLess new after
locals_more (Iload i) old new more step less =
    (more, (known_get old more i less step.0, refl), subst (λ (n : List Bool). IsKnownLess n more) (sym step.1) less)
locals_more (Istore i) old new more step less = (
  slice_set more i true,
  (omega (arith, step.0, known_length old more less), refl),
  subst (λ (n : List Bool). IsKnownLess n (slice_set more i true)) (sym step.1) (known_set old more i less),
)
locals_more instr old new more step less = (more, refl, subst (λ (n : List Bool). IsKnownLess n more) (sym step) less)

-- a step gives one answer
locals_same : (instr : ThinInstr) (old a b : List Bool) → LocalsStep instr old a → LocalsStep instr old b → a ≡ b
locals_same (Iload i) old a b p q = p.1 ∙ sym q.1
locals_same (Istore i) old a b p q = p.1 ∙ sym q.1
locals_same instr old a b p q = p ∙ sym q

locals_length : (instr : ThinInstr) (old new : List Bool) → LocalsStep instr old new → length new ≡ length old
locals_length (Iload i) old new step = ap length step.1
locals_length (Istore i) old new step = ap length step.1 ∙ length-set old i true
locals_length instr old new step = ap length step

stack_same : (instr : ThinInstr) (old a b : List OperandType) → StackSteps instr old a → StackSteps instr old b → a ≡ b
stack_same instr old a b p q =
    let rest : p.0 ≡ q.0 = append_cancel_right p.0 q.0 (takes instr) (sym p.1 ∙ q.1) in
    p.2 ∙ ap (λ r. r ++ leaves instr) rest ∙ sym q.2

-- a shape after a step has as many locals
pub steps_length : (limits : Limits) (instr : ThinInstr) (old new : Shape) → Steps limits instr old new
    → length new.locals ≡ length old.locals
steps_length limits instr old new step = locals_length instr old.locals new.locals step.locals

-- where a weaker shape steps, so does the shape, to one that what the weaker one gives is weaker than
pub steps_more : (limits : Limits) (instr : ThinInstr) (weaker shape new : Shape) → IsWeaker weaker shape
    → Steps limits instr weaker new → (after : Shape) × Steps limits instr shape after × IsWeaker new after
steps_more limits instr weaker shape new less step =
    let more = locals_more instr weaker.locals new.locals shape.locals step.locals less.locals in (
      record { locals = more.0; stack = new.stack },
      record {
        stands = step.stands;
        locals = more.1;
        stack = (step.stack.0, sym less.stack ∙ step.stack.1, step.stack.2);
        room = step.room;
      },
      record { stack = refl; locals = more.2 },
    )

-- a step gives one answer
pub steps_weaker : (limits : Limits) (instr : ThinInstr) (old a b new : Shape) → Steps limits instr old a
    → Steps limits instr old b → IsWeaker new a → IsWeaker new b
steps_weaker limits instr old a b new p q less =
    record {
      stack = less.stack ∙ stack_same instr old.stack a.stack b.stack p.stack q.stack;
      locals = subst (λ (l : List Bool). IsKnownLess new.locals l)
          (locals_same instr old.locals a.locals b.locals p.locals q.locals) less.locals;
    }

-- ---- where shapes meet

pub joins_shape : (found : Option Shape) (shape both : Shape)
    → ((k : Shape) → found ≡ Some k → length k.locals ≡ length shape.locals) → JoinsFound found shape both
    → IsWeaker both shape
joins_shape None shape both same joins = subst (λ (b : Shape). IsWeaker b shape) (sym joins) (weaker_refl shape)
joins_shape (Some k) shape both same joins =
    record {
      stack = joins.stack;
      locals = subst (λ (l : List Bool). IsKnownLess l shape.locals) (sym joins.locals)
          (both_right k.locals shape.locals (same k refl));
    }

joins_left : (k shape both : Shape) → length k.locals ≡ length shape.locals → AreJoined k shape both → IsWeaker both k
joins_left k shape both same joins =
    record {
      stack = joins.stack ∙ sym joins.same;
      locals = subst (λ (l : List Bool). IsKnownLess l k.locals)
          (sym joins.locals) (both_left k.locals shape.locals same);
    }

pub joins_known : (found : Option Shape) (shape both k : Shape) → length k.locals ≡ length shape.locals → found ≡ Some k
    → JoinsFound found shape both → IsWeaker both k
joins_known None shape both k same is joins = absurd cc
joins_known (Some j) shape both k same is joins = let e : j ≡ k = cc in
    subst (λ (x : Shape). IsWeaker both x) e
    (joins_left j shape both (ap (λ (x : Shape). length x.locals) e ∙ same) joins)

pub joins_most : (found : Option Shape) (shape both weaker : Shape) → JoinsFound found shape both
    → IsWeaker weaker shape → ((k : Shape) → found ≡ Some k → IsWeaker weaker k) → IsWeaker weaker both
joins_most None shape both weaker joins less known = subst (λ (b : Shape). IsWeaker weaker b) (sym joins) less
joins_most (Some k) shape both weaker joins less known =
    record {
      stack = less.stack ∙ sym joins.stack;
      locals = subst (λ (l : List Bool). IsKnownLess weaker.locals l)
          (sym joins.locals) (both_most weaker.locals k.locals shape.locals (known k refl).locals less.locals);
    }
