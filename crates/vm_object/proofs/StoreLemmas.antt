-- What the effect of a store is.
use Rattle.std.proofs.Common.{◌≡◌, ℕ, ℤ, pos, negsuc, Bool, true, false, List, Option, Some, None, refl, sym, ap, ◌∙◌}
use Rattle.std.specs.Prelude.{unsigned_abs}
use Rattle.jv_base.specs.declared.method.Kind.TheVariants.{Store as Stored}
use Rattle.jv_base.specs.declared.value.Value.{Value}
use Rattle.jv_base.specs.declared.value.Value.TheVariants as values
use Rattle.cf_code.specs.declared.array.Array.TheVariants.{Store}
use Rattle.cf_code.specs.declared.array.Element.{Element}
use Rattle.cf_code.specs.declared.array.Element.TheVariants.{Int, Long, Reference, Byte, Char, Short}
use Rattle.cf_code.specs.Kinds.{is_judged, array_raises}
use Rattle.vm_world.specs.declared.object.Object.{Object}
use Rattle.vm_world.specs.Heap.{element_at}
use Rattle.vm_object.specs.declared.element.ElementType.{ElementType}
use Rattle.vm_object.specs.declared.operand.StoreOperands.{StoreOperands}
use Rattle.vm_object.specs.declared.effect.ArrayEffect.{ArrayEffect}
use Rattle.vm_object.specs.declared.effect.ArrayEffect.TheVariants.{Gives, Makes, Puts, Raises, Sticks, Leaves}
use Rattle.vm_object.specs.ElementTypes.{holds, narrowed}
use Rattle.vm_object.specs.Operands.{store_operands}
use Rattle.vm_object.specs.Places.{or_sticks, array_for, taken, element_descriptor, element_in}
use Rattle.vm_object.specs.Stores.{may_stand, stored, stored_over, stored_in, store_given, store_effect}
use Rattle.vm_object.proofs.EffectLemmas.{by_test, judged_kinds}

-- what is stored, and where: what the array keeps of the value on the stack, over an element that was there
pub record Written (e : Element) (stack : List Value) (heap : List Object) (number place : ℕ) (v : Value) : Type 0 where
  pub operands : StoreOperands
  pub held : ElementType
  pub old : Value
  pub judged : is_judged e ≡ true
  pub read : store_operands stack ≡ Some operands
  pub fits : holds e operands.value ≡ true
  pub array : operands.array ≡ Some number
  pub type_is : taken e (element_descriptor heap number) ≡ Some held
  pub index : operands.index ≡ pos place
  pub there : element_at heap number place ≡ Some old
  pub kept : v ≡ narrowed held operands.value

-- the effect stores so, raises a kind of the instruction, or sticks
abbrev pub Writes : Element → List Value → List Object → ArrayEffect → Type 0
Writes e stack heap (Gives n v) = ⊥
Writes e stack heap (Makes descriptor n v) = ⊥
Writes e stack heap (Puts number place v) = Written e stack heap number place v
Writes e stack heap (Raises kind) = array_raises (Store e) kind ≡ true
Writes e stack heap Sticks = Unit {0}
Writes e stack heap Leaves = ⊥

-- only a reference may not stand in an array
refused : (e : Element) (v : Value) (suits : Bool) → holds e v ≡ true → may_stand v suits ≡ false
    → array_raises (Store e) Stored ≡ true
refused Reference v suits fits fails = refl
refused Int (values.Int n) suits fits fails = absurd cc
refused Byte (values.Int n) suits fits fails = absurd cc
refused Char (values.Int n) suits fits fails = absurd cc
refused Short (values.Int n) suits fits fails = absurd cc
refused Long (values.Long n) suits fits fails = absurd cc
refused e v suits fits fails = absurd cc

module _ (e : Element) (suits : Bool) (stack : List Value) (heap : List Object) (operands : StoreOperands)
    (judged : is_judged e ≡ true) (read : store_operands stack ≡ Some operands)
    (fits : holds e operands.value ≡ true) where
  module _ (number : ℕ) (array : operands.array ≡ Some number) (held : ElementType)
      (type_is : taken e (element_descriptor heap number) ≡ Some held) where
    put_writes : (place : ℕ) (old : Value) → operands.index ≡ pos place → element_at heap number place ≡ Some old
        → Writes e stack heap (stored number operands.index held operands.value suits)
    put_writes place old index there =
        let same : unsigned_abs operands.index ≡ place = ap unsigned_abs index in
        let v : Value = narrowed held operands.value in
        let written : Written e stack heap number (unsigned_abs operands.index) v = record {
          operands = operands;
          held = held;
          old = old;
          judged = judged;
          read = read;
          fits = fits;
          array = array;
          type_is = type_is;
          index = index ∙ ap pos (sym same);
          there = ap (element_at heap number) same ∙ there;
          kept = refl;
        } in
        by_test (Writes e stack heap) (may_stand operands.value suits)
        (Puts number (unsigned_abs operands.index) (narrowed held operands.value)) (Raises Stored)
        (λ h. written) (λ fails. refused e operands.value suits fits fails)

    over_writes : (place : ℕ) (o : Option Value) → operands.index ≡ pos place → element_at heap number place ≡ o
        → Writes e stack heap (stored_over number held operands suits o)
    over_writes place None index there = (judged_kinds e judged).3
    over_writes place (Some old) index there = put_writes place old index there

    place_writes : (z : ℤ) → operands.index ≡ z
        → Writes e stack heap (stored_over number held operands suits (element_in heap number z))
    place_writes (pos i) index = over_writes i (element_at heap number i) index refl
    place_writes (negsuc i) index = (judged_kinds e judged).3

  found_writes : (number : ℕ) (t : Option ElementType) → operands.array ≡ Some number
      → taken e (element_descriptor heap number) ≡ t
      → Writes e stack heap (stored_in heap operands suits (or_sticks number t))
  found_writes number None array type_is = tt
  found_writes number (Some held) array type_is = place_writes number array held type_is operands.index refl

  array_writes : (r : Option ℕ) → operands.array ≡ r
      → Writes e stack heap (stored_in heap operands suits (array_for heap e r))
  array_writes None array = (judged_kinds e judged).2
  array_writes (Some number) array = found_writes number (taken e (element_descriptor heap number)) array refl

given_writes : (e : Element) (suits : Bool) (stack : List Value) (heap : List Object) (o : Option StoreOperands)
    → is_judged e ≡ true → store_operands stack ≡ o → Writes e stack heap (store_given e suits heap o)
given_writes e suits stack heap None judged read = tt
given_writes e suits stack heap (Some operands) judged read =
    by_test (Writes e stack heap) (holds e operands.value)
    (stored_in heap operands suits (array_for heap e operands.array)) Sticks
    (λ fits. array_writes e suits stack heap operands judged read fits operands.array refl) (λ h. tt)

pub store_writes : (e : Element) (suits : Bool) (stack : List Value) (heap : List Object)
    → Writes e stack heap (store_effect e suits stack heap)
store_writes e suits stack heap =
    by_test (Writes e stack heap) (is_judged e) (store_given e suits heap (store_operands stack)) Sticks
    (λ judged. given_writes e suits stack heap (store_operands stack) judged refl) (λ h. tt)
