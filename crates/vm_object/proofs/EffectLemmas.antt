-- What the effects of instructions on arrays are: of those that read, and of those that make an array.
use Rattle.std.proofs.lemmas.Bool.{leb-true}
use Rattle.std.proofs.Common.{◌≡◌, ℕ, ◌<◌, ◌≤◌, ℤ, pos, negsuc, Bool, true, false, if◌then◌else◌, List, [], ◌∷◌, length}
use Rattle.std.proofs.Common.{Option, Some, None, refl, arith}
use Rattle.std.specs.Prelude.{nat_le, nat_lt, ◌^◌}
use Rattle.jv_base.specs.declared.method.Kind.TheVariants.{Null, Bounds, NegSize}
use Rattle.jv_base.specs.declared.value.Value.{Value}
use Rattle.jv_base.specs.declared.value.Value.TheVariants as values
use Rattle.cf_code.specs.declared.array.Array.{Array}
use Rattle.cf_code.specs.declared.array.Array.TheVariants.{Load, Store, Length}
use Rattle.cf_code.specs.declared.array.Element.{Element}
use Rattle.cf_code.specs.declared.array.Element.TheVariants.{Int, Long, Float, Double, Reference, Byte, Char, Short}
use Rattle.cf_code.specs.Kinds.{is_judged, array_raises}
use Rattle.vm_world.specs.declared.object.Object.{Object}
use Rattle.vm_world.specs.declared.object.Object.TheVariants as objects
use Rattle.vm_world.specs.Heap.{object_at}
use Rattle.vm_frame.specs.Operands.{top, int_in, reference_in}
use Rattle.vm_object.specs.declared.element.ElementType.{ElementType}
use Rattle.vm_object.specs.declared.effect.ArrayEffect.{ArrayEffect}
use Rattle.vm_object.specs.declared.effect.ArrayEffect.TheVariants.{Gives, Makes, Puts, Raises, Sticks, Leaves}
use Rattle.vm_object.specs.ElementTypes.{element_type, holds, default_value}
use Rattle.vm_object.specs.Operands.{reference_and_int}
use Rattle.vm_object.specs.Places.{or_sticks, array_for, taken, element_descriptor, element_in}
use Rattle.vm_object.specs.Loads.{loaded, loaded_from, load_given, load_effect}
use Rattle.vm_object.specs.Lengths.{counted, length_found, length_given, length_effect}
use Rattle.vm_object.specs.NewArrays.{made, made_given, made_typed, make_effect}

-- what holds of both cases holds of the choice
pub by_test : {A : Type 0} (P : A → Type 0) (b : Bool) (x y : A) → (b ≡ true → P x) → (b ≡ false → P y)
    → P (if b then x else y)
by_test P true x y passes fails = passes refl
by_test P false x y passes fails = fails refl

-- the kinds of loads and stores that are supported
pub judged_kinds : (e : Element) → is_judged e ≡ true
    → (array_raises (Load e) Null ≡ true) × (array_raises (Load e) Bounds ≡ true)
    × (array_raises (Store e) Null ≡ true) × (array_raises (Store e) Bounds ≡ true)
judged_kinds Int judged = (refl, refl, refl, refl)
judged_kinds Long judged = (refl, refl, refl, refl)
judged_kinds Float judged = absurd cc
judged_kinds Double judged = absurd cc
judged_kinds Reference judged = (refl, refl, refl, refl)
judged_kinds Byte judged = (refl, refl, refl, refl)
judged_kinds Char judged = (refl, refl, refl, refl)
judged_kinds Short judged = (refl, refl, refl, refl)

-- ---- reads

-- the effect gives a value, raises a kind of the instruction, or sticks
abbrev pub Reads : Array → ArrayEffect → Type 0
Reads array (Gives n v) = Unit {0}
Reads array (Makes descriptor n v) = ⊥
Reads array (Puts number place v) = ⊥
Reads array (Raises kind) = array_raises array kind ≡ true
Reads array Sticks = Unit {0}
Reads array Leaves = ⊥

module _ (e : Element) (heap : List Object) (judged : is_judged e ≡ true) where
  loaded_reads : (o : Option Value) → Reads (Load e) (loaded e o)
  loaded_reads None = (judged_kinds e judged).1
  loaded_reads (Some v) = by_test (Reads (Load e)) (holds e v) (Gives 2 v) Sticks (λ h. tt) (λ h. tt)

  found_reads : (number : ℕ) (t : Option ElementType) (index : ℤ)
      → Reads (Load e) (loaded_from e heap index (or_sticks number t))
  found_reads number None index = tt
  found_reads number (Some held) index = loaded_reads (element_in heap number index)

  array_reads : (r : Option ℕ) (index : ℤ) → Reads (Load e) (loaded_from e heap index (array_for heap e r))
  array_reads None index = (judged_kinds e judged).0
  array_reads (Some number) index = found_reads number (taken e (element_descriptor heap number)) index

  given_reads : (o : Option (Option ℕ × ℤ)) → Reads (Load e) (load_given e heap o)
  given_reads None = tt
  given_reads (Some (r, index)) = array_reads r index

pub load_reads : (e : Element) (stack : List Value) (heap : List Object) → Reads (Load e) (load_effect e stack heap)
load_reads e stack heap =
    by_test (Reads (Load e)) (is_judged e) (load_given e heap (reference_and_int stack)) Sticks
    (λ judged. given_reads e heap judged (reference_and_int stack)) (λ h. tt)

counted_reads : (n : ℕ) → Reads Length (counted n)
counted_reads n =
    by_test (Reads Length) (nat_lt n (2 ^ 31)) (Gives 1 (values.Int (pos n))) Sticks (λ h. tt) (λ h. tt)

object_reads : (o : Option Object) → Reads Length (length_found o)
object_reads None = tt
object_reads (Some (objects.Instance class fields)) = tt
object_reads (Some (objects.Array descriptor elements)) = counted_reads (length elements)
object_reads (Some (objects.Text kind units)) = tt

reference_reads : (heap : List Object) (o : Option (Option ℕ)) → Reads Length (length_given heap o)
reference_reads heap None = tt
reference_reads heap (Some None) = refl
reference_reads heap (Some (Some number)) = object_reads (object_at heap number)

pub length_reads : (stack : List Value) (heap : List Object) → Reads Length (length_effect stack heap)
length_reads stack heap = reference_reads heap (reference_in (top stack))

-- ---- what makes an array

-- what is made: an array of the named type, with as many default values as the int on the stack says
pub record Made (named : Option (List ℕ)) (bound : ℕ) (stack : List Value) (descriptor : List ℕ) (n : ℕ) (v : Value)
    : Type 0 where
  pub held : ElementType
  pub name : named ≡ Some descriptor
  pub count : int_in (top stack) ≡ Some (pos n)
  pub within : n ≤ bound
  pub type_is : element_type descriptor ≡ Some held
  pub value : v ≡ default_value held

-- the effect makes so, raises negsize, sticks or leaves
abbrev pub MakesNamed : Option (List ℕ) → ℕ → List Value → ArrayEffect → Type 0
MakesNamed named bound stack (Gives n v) = ⊥
MakesNamed named bound stack (Makes descriptor n v) = Made named bound stack descriptor n v
MakesNamed named bound stack (Puts number place v) = ⊥
MakesNamed named bound stack (Raises kind) = kind ≡ NegSize
MakesNamed named bound stack Sticks = Unit {0}
MakesNamed named bound stack Leaves = Unit {0}

pub not_empty : (stack : List Value) (z : ℤ) → int_in (top stack) ≡ Some z → 0 < length stack
not_empty [] z e = absurd cc
not_empty (x ∷ xs) z e = omega arith

module _ (descriptor : List ℕ) (bound : ℕ) (stack : List Value) where
  module _ (held : ElementType) (type_is : element_type descriptor ≡ Some held) where
    sized_makes : (z : ℤ) → int_in (top stack) ≡ Some z
        → MakesNamed (Some descriptor) bound stack (made descriptor bound (default_value held) z)
    sized_makes (pos n) e =
        by_test (MakesNamed (Some descriptor) bound stack) (nat_le n bound)
        (Makes descriptor n (default_value held)) Leaves
        (λ h. record {
          held = held;
          name = refl;
          count = e;
          within = leb-true n bound h;
          type_is = type_is;
          value = refl;
        })
        (λ h. tt)
    sized_makes (negsuc n) e = refl

    given_makes : (o : Option ℤ) → int_in (top stack) ≡ o
        → MakesNamed (Some descriptor) bound stack (made_given descriptor bound (default_value held) o)
    given_makes None e = tt
    given_makes (Some z) e = sized_makes z e

  typed_makes : (t : Option ElementType) → element_type descriptor ≡ t
      → MakesNamed (Some descriptor) bound stack (made_typed descriptor bound stack t)
  typed_makes None type_is = tt
  typed_makes (Some held) type_is = given_makes held type_is (int_in (top stack)) refl

pub make_makes : (named : Option (List ℕ)) (bound : ℕ) (stack : List Value)
    → MakesNamed named bound stack (make_effect named bound stack)
make_makes None bound stack = tt
make_makes (Some descriptor) bound stack = typed_makes descriptor bound stack (element_type descriptor) refl
