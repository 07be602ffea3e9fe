-- A set has each of its elements once, also as what they are seen as.
use Rattle.std.proofs.Common.{◌≡◌, ℕ, zero, suc, Bool, true, false, List, [], ◌∷◌, map, slice_get, Option, Some, None}
use Rattle.std.proofs.Common.{refl, sym, ap, subst, ◌∙◌, true≢false, ◌&&◌, if◌then◌else◌}
use Rattle.std.specs.Prelude.{nat_eq}
use Rattle.std.specs.Option.{option_map}
use Rattle.std.specs.List.{AllByRecursion, IsDistinct}
use Rattle.std.proofs.lemmas.Bool.Decides.{Decides-eqb}
use Rattle.std.proofs.lemmas.Option.{none-some, same_Some, slice_get-map}
use Rattle.std.proofs.lemmas.Slice.Eq.{bytes_eq-Decides}
use Rattle.jv_base.specs.Descriptor.{ElementType, base, object, FieldType}
use Rattle.hi_inputs.specs.Types.{AreOnce}
use Rattle.hi_inputs.specs.Calls.Flat.{element_of, field_of_flat}
use Rattle.hi_inputs.specs.declared.flat.Element.{Element}
use Rattle.hi_inputs.specs.declared.flat.Element.TheVariants as elements
use Rattle.hi_inputs.specs.declared.flat.FlatType.{FlatType}
use Rattle.hi_inputs.specs.contracts.flat.ElementPartialEq.TheImpl as element_eq
use Rattle.hi_inputs.specs.contracts.flat.FlatTypePartialEq.TheImpl as flat_eq

module _ {A : Type 0} where
  at_all : (P : A → Type 0) (xs : List A) (i : ℕ) (x : A) → AllByRecursion P xs → slice_get xs i ≡ Some x → P x
  at_all P [] i x h e = absurd (none-some x e)
  at_all P (y ∷ ys) zero x h e = subst P (same_Some y x e) h.0
  at_all P (y ∷ ys) (suc i) x h e = at_all P ys i x h.1 e

  module _ (eq : A → A → Bool) (alike : (x : A) → eq x x ≡ true) where
    apart : (y x : A) (ys : List A) (j : ℕ) → AllByRecursion (λ z. eq y z ≡ false) ys → y ≡ x
        → slice_get ys j ≡ Some x → ⊥
    apart y x ys j all same e =
        true≢false (sym (alike y) ∙ ap (eq y) same ∙ at_all (λ z. eq y z ≡ false) ys j x all e)

    pub once : (xs : List A) → IsDistinct eq xs → AreOnce xs
    unfolding IsDistinct
    once [] d i j x e f = absurd (none-some x e)
    once (y ∷ ys) d zero zero x e f = refl
    once (y ∷ ys) d zero (suc j) x e f = absurd (apart y x ys j d.0 (same_Some y x e) f)
    once (y ∷ ys) d (suc i) zero x e f = absurd (apart y x ys i d.0 (same_Some y x f) e)
    once (y ∷ ys) d (suc i) (suc j) x e f = ap suc (once ys d.1 i j x e f)

  module _ {B : Type 0} (f : A → B) (apart : (x y : A) → f x ≡ f y → x ≡ y) where
    seen_of : (o : Option A) (t : B) → option_map f o ≡ Some t → (a : A) × (o ≡ Some a) × (f a ≡ t)
    seen_of None t e = absurd (none-some t e)
    seen_of (Some a) t e = (a, refl, same_Some (f a) t e)

    pub once_seen : (xs : List A) → AreOnce xs → AreOnce (map f xs)
    once_seen xs o i j t e g =
        let a = seen_of (slice_get xs i) t (sym (slice_get-map f xs i) ∙ e) in
        let b = seen_of (slice_get xs j) t (sym (slice_get-map f xs j) ∙ g) in
        o i j a.0 a.1 (b.1 ∙ ap (λ (x : A). Some x) (apart b.0 a.0 (b.2 ∙ sym a.2)))

alike_elements : (x : Element) → (element_eq.ghosts).eq x x ≡ true
alike_elements (elements.Class x) = (bytes_eq-Decides x x).1 refl
alike_elements elements.Boolean = refl
alike_elements elements.Byte = refl
alike_elements elements.Char = refl
alike_elements elements.Short = refl
alike_elements elements.Int = refl
alike_elements elements.Long = refl
alike_elements elements.Float = refl
alike_elements elements.Double = refl

alike_types : (x : FlatType) → (flat_eq.ghosts).eq x x ≡ true
alike_types x =
    let number : nat_eq x.dimensions x.dimensions ≡ true = (Decides-eqb x.dimensions x.dimensions).1 refl in
    λ i. number i && alike_elements x.element i

-- the base type of a letter
by_letter : ℕ → Element
by_letter letter =
    if nat_eq letter 90 then elements.Boolean
    else if nat_eq letter 66 then elements.Byte
    else if nat_eq letter 67 then elements.Char
    else if nat_eq letter 83 then elements.Short
    else if nat_eq letter 73 then elements.Int
    else if nat_eq letter 74 then elements.Long
    else if nat_eq letter 70 then elements.Float
    else elements.Double

flat_of : ElementType → Element
flat_of (object name) = elements.Class name
flat_of (base letter) = by_letter letter

back : (e : Element) → flat_of (element_of e) ≡ e
unfolding flat_of by_letter
back (elements.Class x) = refl
back elements.Boolean = refl
back elements.Byte = refl
back elements.Char = refl
back elements.Short = refl
back elements.Int = refl
back elements.Long = refl
back elements.Float = refl
back elements.Double = refl

apart_types : (x y : FlatType) → field_of_flat x ≡ field_of_flat y → x ≡ y
apart_types x y e =
    let element : x.element ≡ y.element =
    sym (back x.element) ∙ ap (λ (t : FieldType). flat_of t.element) e ∙ back y.element in
    λ i. record { dimensions = (e i).dimensions; element = element i }

pub once_types : (keys : List FlatType) → IsDistinct (flat_eq.ghosts).eq keys → AreOnce (map field_of_flat keys)
once_types keys d = once_seen field_of_flat apart_types keys (once (flat_eq.ghosts).eq alike_types keys d)
