-- What instructions on arrays change of the heap.
use Rattle.std.proofs.Common.{◌≡◌, ◌≢◌, ℕ, ◌+◌, ◌-◌, ℤ, pos, List, [], ◌∷◌, ◌++◌, inl, inr}
use Rattle.std.proofs.Common.{length, replicate, Option, Some, None, refl, sym, ap, ◌∙◌, subst, arith, length-append}
use Rattle.std.specs.Option.{option_map}
use Rattle.std.proofs.lemmas.Bool.{cases_eq, cond-true}
use Rattle.std.proofs.lemmas.Option.{same_Some, slice_get_within, slice_get-get_or, slice_get_past}
use Rattle.std.proofs.lemmas.List.{length-replicate, get_or-replicate}
use Rattle.std.specs.Prelude.{unsigned_abs, slice_get, ◌<◌, ◌≤◌}
use Rattle.jv_list.proofs.PlaceLemmas.{slice_get-set_same, slice_get-set_other, slice_get-push_last}
use Rattle.jv_base.specs.declared.value.Value.{Value}
use Rattle.jv_base.specs.declared.value.Value.TheVariants as values
use Rattle.cf_code.specs.declared.array.Array.{Array}
use Rattle.cf_code.specs.declared.array.Array.TheVariants.{Load, Store, New, NewOf, NewMany, Length}
use Rattle.cf_code.specs.declared.array.Element.{Element}
use Rattle.cf_code.specs.declared.array.Element.TheVariants as elements
use Rattle.cf_code.specs.Kinds.{is_judged}
use Rattle.vm_world.specs.declared.frame.Frame.{Frame}
use Rattle.vm_world.specs.declared.object.Object.{Object}
use Rattle.vm_world.specs.declared.object.Object.TheVariants.{Instance, Array as ArrayObject, Text}
use Rattle.vm_world.specs.Heap.{object_at, of_object, element_at, changed}
use Rattle.vm_world.specs.Objects.{element_of, with_element}
use Rattle.vm_world.specs.Laws.{ChangesOne, ChangesNoOther, NewIsLast, NewKeepsOthers}
use Rattle.vm_frame.specs.Operands.{top, without, int_in}
use Rattle.vm_object.specs.declared.element.ElementType.{ElementType}
use Rattle.vm_object.specs.declared.operand.StoreOperands.{StoreOperands}
use Rattle.vm_object.specs.declared.effect.ArrayEffect.{ArrayEffect}
use Rattle.vm_object.specs.declared.effect.ArrayEffect.TheVariants.{Gives, Makes, Puts, Raises, Sticks, Leaves}
use Rattle.vm_object.specs.declared.effect.ArrayWent.TheVariants.{Next}
use Rattle.vm_object.specs.declared.step.Setting.{Setting}
use Rattle.vm_object.specs.ElementTypes.{default_value, element_type, holds, narrowed_int, narrowed, type_text}
use Rattle.vm_object.specs.Operands.{reference_and_int, store_operands}
use Rattle.vm_object.specs.Places.{descriptor_of, element_descriptor, taken, or_sticks, array_for, element_in}
use Rattle.vm_object.specs.Loads.{loaded, loaded_from, load_given, load_effect}
use Rattle.vm_object.specs.NewArrays.{make_effect}
use Rattle.vm_object.specs.Laws.{named}
use Rattle.vm_object.specs.Effects.{done}
use Rattle.vm_object.specs.Steps.{array_effect}
use Rattle.vm_object.proofs.EffectLemmas.{Reads, MakesNamed, make_makes}
use Rattle.vm_object.proofs.StoreLemmas.{Written, Writes}

-- ---- reads

pub read_keeps : (array : Array) (next : ℕ) (frame : Frame) (heap : List Object) (effect : ArrayEffect)
    → Reads array effect → (done next effect frame heap).2 ≡ heap
read_keeps array next frame heap (Gives n v) h = refl
read_keeps array next frame heap (Makes descriptor n v) h = absurd h
read_keeps array next frame heap (Puts number place v) h = absurd h
read_keeps array next frame heap (Raises kind) h = refl
read_keeps array next frame heap Sticks h = refl
read_keeps array next frame heap Leaves h = refl

-- ---- a new array

abbrev pub Added : List ℕ → List Value → List Object → List Object → Type 0
Added descriptor stack heap after =
    (top stack ≡ Some (values.Ref (Some (length heap + 1))))
    × (element_descriptor after (length heap + 1) ≡ Some descriptor)
    × ((number : ℕ) → number ≢ length heap + 1 → object_at after number ≡ object_at heap number)

abbrev pub Filled : ℕ → ElementType → ℕ → ℕ → List Object → List Object → Type 0
Filled bound held n place heap after =
    (n ≤ bound) × (place < n → element_at after (length heap + 1) place ≡ Some (default_value held))
    × (n ≤ place → element_at after (length heap + 1) place ≡ None)

pushed : {X : Type 0} (xs : List X) (x : X) → top (xs ++ x ∷ []) ≡ Some x
pushed xs x = slice_get-push_last xs x (length (xs ++ x ∷ []) - 1) (omega (arith, length-append xs (x ∷ [])))

within_copies : {X : Type 0} (n i : ℕ) (x : X) → i < n → slice_get (replicate n x) i ≡ Some x
within_copies n i x lt =
    slice_get-get_or (replicate n x) i x (omega (arith, lt, length-replicate n x))
    ∙ ap (λ y. Some y) (get_or-replicate n i x x lt)

past_copies : {X : Type 0} (n i : ℕ) (x : X) → n ≤ i → slice_get (replicate n x) i ≡ None
past_copies n i x le = slice_get_past (replicate n x) i (omega (arith, le, length-replicate n x))

module _ (last : NewIsLast) (others : NewKeepsOthers) (next : ℕ) (frame : Frame) (heap : List Object) where
  new_is_next : (wanted : Option (List ℕ)) (bound : ℕ) (descriptor : List ℕ) (effect : ArrayEffect)
      → MakesNamed wanted bound frame.stack effect → wanted ≡ Some descriptor → (done next effect frame heap).0 ≡ Next
      → Added descriptor (done next effect frame heap).1.stack heap (done next effect frame heap).2
  new_is_next wanted bound descriptor (Gives n v) h is e = absurd h
  new_is_next wanted bound descriptor (Makes made n v) h is e =
      let same : made ≡ descriptor = same_Some made descriptor (sym h.name ∙ is) in (
        pushed (without 1 frame.stack) (values.Ref (Some (length heap + 1))),
        ap (of_object descriptor_of) (last heap (ArrayObject made (replicate n v))) ∙ ap (λ (d : List ℕ). Some d) same,
        others heap (ArrayObject made (replicate n v)),
      )
  new_is_next wanted bound descriptor (Puts number place v) h is e = absurd h
  new_is_next wanted bound descriptor (Raises kind) h is e = absurd cc
  new_is_next wanted bound descriptor Sticks h is e = absurd cc
  new_is_next wanted bound descriptor Leaves h is e = absurd cc

  module _ (descriptor : List ℕ) (held : ElementType) (n place : ℕ) (type_is : element_type descriptor ≡ Some held)
      (count : int_in (top frame.stack) ≡ Some (pos n)) where
    new_is_filled : (wanted : Option (List ℕ)) (bound : ℕ) (effect : ArrayEffect)
        → MakesNamed wanted bound frame.stack effect → wanted ≡ Some descriptor
        → (done next effect frame heap).0 ≡ Next → Filled bound held n place heap (done next effect frame heap).2
    new_is_filled wanted bound (Gives k v) h is e = absurd h
    new_is_filled wanted bound (Makes made k v) h is e =
        let name : made ≡ descriptor = same_Some made descriptor (sym h.name ∙ is) in
        let one_type : h.held ≡ held = same_Some h.held held (sym h.type_is ∙ ap element_type name ∙ type_is) in
        let same : k ≡ n = ap unsigned_abs (same_Some (pos k) (pos n) (sym h.count ∙ count)) in
        let value : v ≡ default_value held = h.value ∙ ap default_value one_type in
        let read : element_at (heap ++ ArrayObject made (replicate k v) ∷ []) (length heap + 1) place
        ≡ slice_get (replicate k v) place =
        ap (of_object (λ object. element_of object place)) (last heap (ArrayObject made (replicate k v))) in (
          omega (arith, h.within, same),
          λ lt. read ∙ within_copies k place v (omega (arith, lt, same)) ∙ ap (λ (u : Value). Some u) value,
          λ le. read ∙ past_copies k place v (omega (arith, le, same)),
        )
    new_is_filled wanted bound (Puts number stored v) h is e = absurd h
    new_is_filled wanted bound (Raises kind) h is e = absurd cc
    new_is_filled wanted bound Sticks h is e = absurd cc
    new_is_filled wanted bound Leaves h is e = absurd cc

  -- by the instruction that names the type
  module _ (setting : Setting) (descriptor : List ℕ) where
    pub named_is_next : (array : Array) → named array setting ≡ Some descriptor
        → (done next (array_effect array setting frame.stack heap) frame heap).0 ≡ Next
        → Added descriptor (done next (array_effect array setting frame.stack heap) frame heap).1.stack heap
        (done next (array_effect array setting frame.stack heap) frame heap).2
    named_is_next (Load e) is went = absurd cc
    named_is_next (Store e) is went = absurd cc
    named_is_next (New code) is went =
        new_is_next (type_text code) setting.bound descriptor (make_effect (type_text code) setting.bound frame.stack)
        (make_makes (type_text code) setting.bound frame.stack) is went
    named_is_next (NewOf index) is went =
        new_is_next setting.element setting.bound descriptor (make_effect setting.element setting.bound frame.stack)
        (make_makes setting.element setting.bound frame.stack) is went
    named_is_next (NewMany index dimensions) is went = absurd cc
    named_is_next Length is went = absurd cc

    pub named_is_filled : (held : ElementType) (n place : ℕ) (array : Array) → named array setting ≡ Some descriptor
        → element_type descriptor ≡ Some held → int_in (top frame.stack) ≡ Some (pos n)
        → (done next (array_effect array setting frame.stack heap) frame heap).0 ≡ Next
        → Filled setting.bound held n place heap (done next (array_effect array setting frame.stack heap) frame heap).2
    named_is_filled held n place (Load e) is type_is count went = absurd cc
    named_is_filled held n place (Store e) is type_is count went = absurd cc
    named_is_filled held n place (New code) is type_is count went =
        new_is_filled descriptor held n place type_is count (type_text code) setting.bound
        (make_effect (type_text code) setting.bound frame.stack)
        (make_makes (type_text code) setting.bound frame.stack) is went
    named_is_filled held n place (NewOf index) is type_is count went =
        new_is_filled descriptor held n place type_is count setting.element setting.bound
        (make_effect setting.element setting.bound frame.stack)
        (make_makes setting.element setting.bound frame.stack) is went
    named_is_filled held n place (NewMany index dimensions) is type_is count went = absurd cc
    named_is_filled held n place Length is type_is count went = absurd cc

-- ---- an element that was stored

-- the element at another place, and the element type, stay
other_element : (place stored : ℕ) (v : Value) (o : Option Object) → place ≢ stored
    → of_object (λ object. element_of object place) (option_map (λ object. with_element object stored v) o)
    ≡ of_object (λ object. element_of object place) o
other_element place stored v None ne = refl
other_element place stored v (Some (Instance class fields)) ne = refl
other_element place stored v (Some (ArrayObject descriptor elements)) ne =
    slice_get-set_other elements stored place v ne
other_element place stored v (Some (Text kind units)) ne = refl

same_type : (stored : ℕ) (v : Value) (o : Option Object)
    → of_object descriptor_of (option_map (λ object. with_element object stored v) o) ≡ of_object descriptor_of o
same_type stored v None = refl
same_type stored v (Some (Instance class fields)) = refl
same_type stored v (Some (ArrayObject descriptor elements)) = refl
same_type stored v (Some (Text kind units)) = refl

-- and the element at the place is what was stored
one_element : (place : ℕ) (v old : Value) (o : Option Object)
    → of_object (λ object. element_of object place) o ≡ Some old
    → of_object (λ object. element_of object place) (option_map (λ object. with_element object place v) o) ≡ Some v
one_element place v old None there = absurd cc
one_element place v old (Some (Instance class fields)) there = absurd cc
one_element place v old (Some (ArrayObject descriptor elements)) there =
    slice_get-set_same elements place v (slice_get_within elements place old there)
one_element place v old (Some (Text kind units)) there = absurd cc

-- what is kept of a value has its type
same_int : (e : Element) (m n : ℤ) → holds e (values.Int m) ≡ holds e (values.Int n)
same_int elements.Int m n = refl
same_int elements.Long m n = refl
same_int elements.Float m n = refl
same_int elements.Double m n = refl
same_int elements.Reference m n = refl
same_int elements.Byte m n = refl
same_int elements.Char m n = refl
same_int elements.Short m n = refl

narrowed_holds : (e : Element) (held : ElementType) (v : Value) → holds e (narrowed held v) ≡ holds e v
narrowed_holds e held (values.Int n) = same_int e (narrowed_int held n) n
narrowed_holds e held (values.Long n) = refl
narrowed_holds e held (values.Ref r) = refl

module _ (one : ChangesOne) (no_other : ChangesNoOther) (heap : List Object) (number stored : ℕ) (v : Value) where
  abbrev after : List Object
  after = changed heap number (λ object. with_element object stored v)

  elements_kept : (n place : ℕ) → place ≢ stored → element_at after n place ≡ element_at heap n place
  elements_kept n place ne = elim (cases_eq n number) [
    | inl same ↦
        subst (λ (k : ℕ). element_at after k place ≡ element_at heap k place) (sym same)
        (ap (of_object (λ object. element_of object place)) (one heap number (λ object. with_element object stored v))
        ∙ other_element place stored v (object_at heap number) ne)
    | inr other ↦
        ap (of_object (λ object. element_of object place))
        (no_other heap number n (λ object. with_element object stored v) other)
  ]

  types_kept : (n : ℕ) → element_descriptor after n ≡ element_descriptor heap n
  types_kept n = elim (cases_eq n number) [
    | inl same ↦
        subst (λ (k : ℕ). element_descriptor after k ≡ element_descriptor heap k) (sym same)
        (ap (of_object descriptor_of) (one heap number (λ object. with_element object stored v))
        ∙ same_type stored v (object_at heap number))
    | inr other ↦
        ap (of_object descriptor_of) (no_other heap number n (λ object. with_element object stored v) other)
  ]

  element_kept : (old : Value) → element_at heap number stored ≡ Some old → element_at after number stored ≡ Some v
  element_kept old there =
      ap (of_object (λ object. element_of object stored)) (one heap number (λ object. with_element object stored v))
      ∙ one_element stored v old (object_at heap number) there

  -- ---- what a load gives after a store

  loaded_after : (e : Element) (stack over : List Value) (w : Written e stack heap number stored v)
      → reference_and_int over ≡ Some (w.operands.array, w.operands.index)
      → load_effect e over after ≡ Gives 2 (narrowed w.held w.operands.value)
  loaded_after e stack over w given =
      let kept : Value = narrowed w.held w.operands.value in
      cond-true (is_judged e) (load_given e after (reference_and_int over)) Sticks w.judged
      ∙ ap (load_given e after) given
      ∙ ap (λ (r : Option ℕ). loaded_from e after w.operands.index (array_for after e r)) w.array
      ∙ ap (λ (t : Option ElementType). loaded_from e after w.operands.index (or_sticks number t))
      (ap (taken e) (types_kept number) ∙ w.type_is)
      ∙ ap (λ (z : ℤ). loaded e (element_in after number z)) w.index
      ∙ ap (loaded e) (element_kept w.old w.there)
      ∙ ap (λ (u : Value). loaded e (Some u)) w.kept
      ∙ cond-true (holds e kept) (Gives 2 kept) Sticks (narrowed_holds e w.held w.operands.value ∙ w.fits)

-- ---- the laws of stores

module _ (one : ChangesOne) (no_other : ChangesNoOther) (e : Element) (next : ℕ) (frame : Frame) (heap : List Object)
    (operands : StoreOperands) (read : store_operands frame.stack ≡ Some operands) where
  same_operands : {number place : ℕ} {v : Value} (w : Written e frame.stack heap number place v)
      → w.operands ≡ operands
  same_operands w = same_Some w.operands operands (sym w.read ∙ read)

  pub store_keeps_others : (effect : ArrayEffect) → Writes e frame.stack heap effect → (other : ℕ)
      → operands.array ≢ Some other → object_at (done next effect frame heap).2 other ≡ object_at heap other
  store_keeps_others (Gives n v) w other ne = refl
  store_keeps_others (Makes descriptor n v) w other ne = absurd w
  store_keeps_others (Puts number place v) w other ne =
      no_other heap number other (λ object. with_element object place v)
      (λ (is : other ≡ number).
      ne (ap (λ (o : StoreOperands). o.array) (sym (same_operands w)) ∙ w.array ∙ ap (λ (n : ℕ). Some n) (sym is)))
  store_keeps_others (Raises kind) w other ne = refl
  store_keeps_others Sticks w other ne = refl
  store_keeps_others Leaves w other ne = refl

  pub store_keeps_elements : (effect : ArrayEffect) → Writes e frame.stack heap effect → (number place : ℕ)
      → operands.index ≢ pos place
      → (element_at (done next effect frame heap).2 number place ≡ element_at heap number place)
      × (element_descriptor (done next effect frame heap).2 number ≡ element_descriptor heap number)
  store_keeps_elements (Gives n v) w number place ne = (refl, refl)
  store_keeps_elements (Makes descriptor n v) w number place ne = absurd w
  store_keeps_elements (Puts array stored v) w number place ne = (
    elements_kept one no_other heap array stored v number place
        (λ (is : place ≡ stored).
        ne (ap (λ (o : StoreOperands). o.index) (sym (same_operands w)) ∙ w.index ∙ ap (λ (n : ℕ). pos n) (sym is))),
    types_kept one no_other heap array stored v number,
  )
  store_keeps_elements (Raises kind) w number place ne = (refl, refl)
  store_keeps_elements Sticks w number place ne = (refl, refl)
  store_keeps_elements Leaves w number place ne = (refl, refl)

  module _ (number : ℕ) (held : ElementType) (over : List Value) (array : operands.array ≡ Some number)
      (type_is : taken e (element_descriptor heap number) ≡ Some held)
      (given : reference_and_int over ≡ Some (operands.array, operands.index)) where
    pub store_is_loaded : (effect : ArrayEffect) → Writes e frame.stack heap effect
        → (done next effect frame heap).0 ≡ Next
        → load_effect e over (done next effect frame heap).2 ≡ Gives 2 (narrowed held operands.value)
    store_is_loaded (Gives n v) w went = absurd w
    store_is_loaded (Makes descriptor n v) w went = absurd w
    store_is_loaded (Puts n place v) w went =
        let same : w.operands ≡ operands = same_operands w in
        let one_array : n ≡ number =
        same_Some n number (sym w.array ∙ ap (λ (o : StoreOperands). o.array) same ∙ array) in
        let one_type : w.held ≡ held = same_Some w.held held
        (sym w.type_is ∙ ap (λ (k : ℕ). taken e (element_descriptor heap k)) one_array ∙ type_is) in
        loaded_after one no_other heap n place v e frame.stack over w
        (given ∙ ap (λ (o : StoreOperands). Some (o.array, o.index)) (sym same))
        ∙ ap (λ (h : ElementType). Gives 2 (narrowed h w.operands.value)) one_type
        ∙ ap (λ (o : StoreOperands). Gives 2 (narrowed held o.value)) same
    store_is_loaded (Raises kind) w went = absurd cc
    store_is_loaded Sticks w went = absurd cc
    store_is_loaded Leaves w went = absurd cc
