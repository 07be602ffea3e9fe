-- How much is known of locals and of shapes, and where two shapes meet.
use Rattle.std.proofs.Common.{◌≡◌, ℕ, zero, suc, ◌≤◌, ◌<◌, [], ◌∷◌, length, Option, Some, None}
use Rattle.std.proofs.Common.{refl, sym, ap, subst, ◌∙◌, arith}
use Rattle.std.proofs.lemmas.Option.{none-some, same_Some}
use Rattle.ck_shapes.specs.declared.shape.ValueType.{ValueType}
use Rattle.ck_shapes.specs.declared.shape.ValueType.TheVariants.{Int, Long, Reference}
use Rattle.ck_shapes.specs.declared.shape.Shape.{Shape}
use Rattle.ck_shapes.specs.Shape.{local_at, IsKnownLess, IsWeaker}
use Rattle.ck_shapes.specs.Rules.{GivenShapes, IsLed}
use Rattle.ck_shapes.specs.Calls.Joins.{common, AreCommon, IsKnownOnlyHere}
use Rattle.ck_shapes.specs.Calls.Search.{HasOtherStack, JoinsTo, StandsFor, known_locals, rank}
use Rattle.ck_shapes.proofs.LocalLemmas.{Locals}

pub weaker_refl : (s : Shape) → IsWeaker s s
weaker_refl s = record { stack = refl; locals = λ i t e. e }

pub weaker_trans : (s t u : Shape) → IsWeaker s t → IsWeaker t u → IsWeaker s u
weaker_trans s t u p q = record { stack = p.stack ∙ q.stack; locals = λ i v e. q.locals i v (p.locals i v e) }

pub led_weaker : (all : GivenShapes) (weaker shape : Shape) (pc : ℕ) → IsWeaker weaker shape → IsLed all weaker pc
    → IsLed all shape pc
led_weaker all weaker shape pc less led = (led.0, led.1, weaker_trans led.0 weaker shape led.2 less)

-- ---- how many locals are known

rest_less : (z x : Option ValueType) (zs xs : Locals) → IsKnownLess (z ∷ zs) (x ∷ xs) → IsKnownLess zs xs
rest_less z x zs xs h i t e = h (suc i) t e

rest_none : (z : Option ValueType) (zs : Locals) → IsKnownLess (z ∷ zs) [] → IsKnownLess zs []
rest_none z zs h i t e = h (suc i) t e

none_less : (xs : Locals) → IsKnownLess [] xs
none_less xs i t e = absurd (none-some t e)

pub fewer : (zs xs : Locals) → IsKnownLess zs xs → known_locals zs ≤ known_locals xs
fewer [] xs h = omega arith
fewer (None ∷ zs) [] h = fewer zs [] (rest_none None zs h)
fewer (Some t ∷ zs) [] h = absurd (none-some t (h 0 t refl))
fewer (None ∷ zs) (None ∷ xs) h = fewer zs xs (rest_less None None zs xs h)
fewer (None ∷ zs) (Some u ∷ xs) h = omega (arith, fewer zs xs (rest_less None (Some u) zs xs h))
fewer (Some t ∷ zs) (None ∷ xs) h = absurd (none-some t (h 0 t refl))
fewer (Some t ∷ zs) (Some u ∷ xs) h = omega (arith, fewer zs xs (rest_less (Some t) (Some u) zs xs h))

pub lost : (zs xs : Locals) → IsKnownLess zs xs → (i : ℕ) (t : ValueType) → local_at xs i ≡ Some t
    → (local_at zs i ≡ Some t → ⊥) → known_locals zs < known_locals xs
lost zs [] h i t e n = absurd (none-some t e)
lost [] (None ∷ xs) h zero t e n = absurd (none-some t e)
lost [] (None ∷ xs) h (suc i) t e n = lost [] xs (none_less xs) i t e n
lost [] (Some u ∷ xs) h i t e n = omega arith
lost (None ∷ zs) (None ∷ xs) h zero t e n = absurd (none-some t e)
lost (None ∷ zs) (None ∷ xs) h (suc i) t e n = lost zs xs (rest_less None None zs xs h) i t e n
lost (None ∷ zs) (Some u ∷ xs) h i t e n = omega (arith, fewer zs xs (rest_less None (Some u) zs xs h))
lost (Some s ∷ zs) (None ∷ xs) h i t e n = absurd (none-some s (h 0 s refl))
lost (Some s ∷ zs) (Some u ∷ xs) h zero t e n = absurd (n (sym (h 0 s refl) ∙ e))
lost (Some s ∷ zs) (Some u ∷ xs) h (suc i) t e n =
    omega (arith, lost zs xs (rest_less (Some s) (Some u) zs xs h) i t e n)

pub known_length : (xs : Locals) → known_locals xs ≤ length xs
known_length [] = omega arith
known_length (None ∷ xs) = omega (arith, known_length xs)
known_length (Some t ∷ xs) = omega (arith, known_length xs)

-- ---- what two locals have in common

common_left : (x y : Option ValueType) (t : ValueType) → common x y ≡ Some t → x ≡ Some t
common_left None y t e = absurd (none-some t e)
common_left (Some Int) None t e = absurd (none-some t e)
common_left (Some Int) (Some Int) t e = e
common_left (Some Int) (Some Long) t e = absurd (none-some t e)
common_left (Some Int) (Some Reference) t e = absurd (none-some t e)
common_left (Some Long) None t e = absurd (none-some t e)
common_left (Some Long) (Some Int) t e = absurd (none-some t e)
common_left (Some Long) (Some Long) t e = e
common_left (Some Long) (Some Reference) t e = absurd (none-some t e)
common_left (Some Reference) None t e = absurd (none-some t e)
common_left (Some Reference) (Some Int) t e = absurd (none-some t e)
common_left (Some Reference) (Some Long) t e = absurd (none-some t e)
common_left (Some Reference) (Some Reference) t e = e

common_right : (x y : Option ValueType) (t : ValueType) → common x y ≡ Some t → y ≡ Some t
common_right None y t e = absurd (none-some t e)
common_right (Some Int) None t e = absurd (none-some t e)
common_right (Some Int) (Some Int) t e = e
common_right (Some Int) (Some Long) t e = absurd (none-some t e)
common_right (Some Int) (Some Reference) t e = absurd (none-some t e)
common_right (Some Long) None t e = absurd (none-some t e)
common_right (Some Long) (Some Int) t e = absurd (none-some t e)
common_right (Some Long) (Some Long) t e = e
common_right (Some Long) (Some Reference) t e = absurd (none-some t e)
common_right (Some Reference) None t e = absurd (none-some t e)
common_right (Some Reference) (Some Int) t e = absurd (none-some t e)
common_right (Some Reference) (Some Long) t e = absurd (none-some t e)
common_right (Some Reference) (Some Reference) t e = e

common_same : (t : ValueType) → common (Some t) (Some t) ≡ Some t
common_same Int = refl
common_same Long = refl
common_same Reference = refl

common_both : (x y : Option ValueType) (t : ValueType) → x ≡ Some t → y ≡ Some t → common x y ≡ Some t
common_both x y t e f = ap (λ (o : Option ValueType). common o y) e ∙ ap (common (Some t)) f ∙ common_same t

module _ (left right both : Locals) (joined : AreCommon left right both) where
  pub both_left : IsKnownLess both left
  both_left i t e = common_left (local_at left i) (local_at right i) t (sym (joined i) ∙ e)

  pub both_right : IsKnownLess both right
  both_right i t e = common_right (local_at left i) (local_at right i) t (sym (joined i) ∙ e)

  pub both_most : (w : Locals) → IsKnownLess w left → IsKnownLess w right → IsKnownLess w both
  both_most w p q i t e = joined i ∙ common_both (local_at left i) (local_at right i) t (p i t e) (q i t e)

-- ---- where shapes meet

pub joins_shape : (o : Option Shape) (shape both : Shape) → JoinsTo o shape both → IsWeaker both shape
joins_shape None shape both j = subst (λ (b : Shape). IsWeaker b shape) (sym j) (weaker_refl shape)
joins_shape (Some k) shape both j =
    record { stack = j.0.stack; locals = both_right k.locals shape.locals both.locals j.0.locals }

pub joins_known : (o : Option Shape) (shape both k : Shape) → JoinsTo o shape both → o ≡ Some k → IsWeaker both k
joins_known None shape both k j e = absurd (none-some k e)
joins_known (Some n) shape both k j e =
    subst (λ (x : Shape). IsWeaker both x) (same_Some n k e)
    (record {
      stack = j.0.stack ∙ sym j.0.same;
      locals = both_left n.locals shape.locals both.locals j.0.locals;
    })

pub joins_most : (o : Option Shape) (shape both w : Shape) → JoinsTo o shape both → IsWeaker w shape
    → ((k : Shape) → o ≡ Some k → IsWeaker w k) → IsWeaker w both
joins_most None shape both w j less known = subst (λ (b : Shape). IsWeaker w b) (sym j) less
joins_most (Some k) shape both w j less known =
    record {
      stack = less.stack ∙ sym j.0.stack;
      locals = both_most k.locals shape.locals both.locals j.0.locals w.locals (known k refl).locals less.locals;
    }

-- less is known then
pub joins_rank : (max : ℕ) (o : Option Shape) (shape both : Shape) → length shape.locals ≤ max → JoinsTo o shape both
    → rank max (Some both) < rank max o
joins_rank max None shape both le j =
    omega (arith, known_length shape.locals, ap (λ (s : Shape). known_locals s.locals) j)
joins_rank max (Some k) shape both le j =
    lost both.locals k.locals (both_left k.locals shape.locals both.locals j.0.locals) j.1.at j.1.type j.1.known
    (λ e. j.1.other (both_right k.locals shape.locals both.locals j.0.locals j.1.at j.1.type e))

pub joined_long : (max : ℕ) (o : Option Shape) (shape both : Shape) → length shape.locals ≤ max
    → ((k : Shape) → o ≡ Some k → length k.locals ≤ max) → JoinsTo o shape both → length both.locals ≤ max
joined_long max None shape both le known j = omega (arith, le, ap (λ (s : Shape). length s.locals) j)
joined_long max (Some k) shape both le known j = omega (arith, known k refl, j.0.long)

pub stands_weaker : (o : Option Shape) (shape : Shape) → StandsFor o shape
    → (k : Shape) × (o ≡ Some k) × IsWeaker k shape
stands_weaker None shape h = absurd h
stands_weaker (Some k) shape h = (k, refl, h)

module _ (o : Option Shape) (k shape : Shape) (is : o ≡ Some k) where
  pub met_differs : (k.stack ≡ shape.stack → ⊥) → HasOtherStack o shape
  met_differs other = subst (λ (x : Option Shape). HasOtherStack x shape) (sym is) other

  pub met_stays : k.stack ≡ shape.stack → IsKnownLess k.locals shape.locals → StandsFor o shape
  met_stays same less =
      subst (λ (x : Option Shape). StandsFor x shape) (sym is) (record { stack = same; locals = less })

  pub met_becomes : (both : Shape) → k.stack ≡ shape.stack → both.stack ≡ shape.stack
      → IsKnownOnlyHere k.locals shape.locals → AreCommon k.locals shape.locals both.locals
      → length both.locals ≤ length k.locals → JoinsTo o shape both
  met_becomes both same stack only common long =
      subst (λ (x : Option Shape). JoinsTo x shape both) (sym is)
      (record { same = same; stack = stack; locals = common; long = long }, only)
