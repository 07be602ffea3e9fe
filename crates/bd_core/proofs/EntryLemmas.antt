-- What the entry gives, part by part.
use Rattle.std.proofs.Common.{◌≡◌, ℕ, ◌≤◌, List, [], Option, Some, None, ◌⊎◌, inl, inr, refl, sym, ap, subst}
use Rattle.std.proofs.Common.{◌∙◌, ◌↔◌}
use Rattle.std.proofs.lemmas.Option.{none-some, same_Some}
use Rattle.cf_class.specs.declared.class_file.ClassFile.{ClassFile}
use Rattle.jv_base.specs.Descriptor.{ElementType, base, object, FieldType, MethodType, IsMethodType}
use Rattle.jv_base.specs.Descriptor.{IsMethodDescriptor, method_text}
use Rattle.jv_base.specs.Laws.{OneForm}
use Rattle.jv_base.specs.Types.{field_of, method_of, result_of}
use Rattle.jv_base.specs.declared.value.Desc.{Desc}
use Rattle.jv_base.specs.declared.value.Ty.{Ty}
use Rattle.jv_list.proofs.MemberLemmas.{in_map, from_map}
use Rattle.hi_tree.specs.Inputs.{class_type, StandsAt}
use Rattle.hi_inputs.specs.Types.{AreInputTypes}
use Rattle.bd_core.specs.declared.job.Job.{Job}
use Rattle.bd_core.specs.declared.member.Member.{Member}
use Rattle.bd_core.specs.declared.member.Member.TheVariants.{Known, Made, Initialised}
use Rattle.bd_core.specs.Given.{Given, IsOfMethod, IsInputObject}
use Rattle.bd_core.specs.Rules as rules
use Rattle.bd_core.specs.Rules.{FromEntry}
use Rattle.bd_core.specs.Calls.Adds.{Adds, Each, Is, OfSome}
use Rattle.bd_core.specs.Calls.Entry.{array_of, IsRootGift, IsElementGift, IsOfDesc, IsDescribedGift, IsReceiverGift}
use Rattle.bd_core.specs.Calls.Entry.{IsObjectGift, OfInput, IsInputGift}
use Rattle.bd_core.proofs.AddsLemmas.{adds_same, adds_both, adds_nothing}

abbrev pub OfType : Ty → Member → Type 0
OfType ty = IsElementGift (field_of ty)

abbrev name_in : ElementType → List ℕ
name_in (base letter) = []
name_in (object class) = class

-- the class of a type's elements in the end, where it has one
module _ (t : FieldType) where
  pub element_gift : (name : List ℕ) → t.element ≡ object name → (a b : List Member) → Adds (Is (Known name)) a b
      → Adds (IsElementGift t) a b
  element_gift name is a b adds =
      adds_same (Is (Known name)) (IsElementGift t) a b (λ x h. (name, is, h))
      (λ x h. h.2 ∙ ap Known (ap name_in (sym h.1 ∙ is))) adds

  pub no_element : (a : List Member) → ((name : List ℕ) → t.element ≡ object name → ⊥) → Adds (IsElementGift t) a a
  no_element a none = adds_nothing (IsElementGift t) a (λ x h. none h.0 h.1)

-- of an array it is that of the elements, of another type the type itself
module _ (t : FieldType) where
  abbrev pub ElementIs : Option (List ℕ) → Type 0
  ElementIs o = (name : List ℕ) → (o ≡ Some name) ↔ (t.element ≡ object name)

  pub element_below : (below : FieldType) → t ≡ array_of below → (o : Option (List ℕ))
      → ((name : List ℕ) → (o ≡ Some name) ↔ (below.element ≡ object name)) → ElementIs o
  element_below below e o is name =
      let same : t.element ≡ below.element = ap (λ (u : FieldType). u.element) e in
      ((λ f. same ∙ (is name).0 f), (λ f. (is name).1 (sym same ∙ f)))

  pub element_itself : t.dimensions ≡ 0 → (o : Option (List ℕ))
      → ((name : List ℕ) → (o ≡ Some name) ↔ (t ≡ class_type name)) → ElementIs o
  element_itself flat o is name = (
    (λ f. ap (λ (u : FieldType). u.element) ((is name).0 f)),
    (λ f. (is name).1
        (ap (λ (d : ℕ). record { dimensions = d; element = t.element }) flat
        ∙ ap (λ (e : ElementType). record { dimensions = 0; element = e }) f)),
  )

-- ---- the descriptor

module _ (d : Desc) where
  of_result : (o : Option Ty) (t : FieldType) → result_of o ≡ Some t → (ty : Ty) × (o ≡ Some ty) × (field_of ty ≡ t)
  of_result None t e = absurd (none-some t e)
  of_result (Some ty) t e = (ty, refl, same_Some (field_of ty) t e)

  to_desc : (x : Member) → Each d.params OfType x ⊎ OfSome d.result OfType x → IsOfDesc (method_of d) x
  to_desc x (inl (ty, among, gift)) = (field_of ty, inl (in_map field_of d.params ty among), gift)
  to_desc x (inr (ty, is, gift)) = (field_of ty, inr (ap result_of is), gift)

  from_desc : (x : Member) → IsOfDesc (method_of d) x → Each d.params OfType x ⊎ OfSome d.result OfType x
  from_desc x (t, inl among, gift) =
      let m = from_map field_of d.params t among in
      inl (m.0, m.1, subst (λ (u : FieldType). IsElementGift u x) (sym m.2) gift)
  from_desc x (t, inr e, gift) =
      let m = of_result d.result t e in
      inr (m.0, m.1, subst (λ (u : FieldType). IsElementGift u x) (sym m.2) gift)

  pub desc_gift : (a b c : List Member) → Adds (Each d.params OfType) a b → Adds (OfSome d.result OfType) b c
      → Adds (IsOfDesc (method_of d)) a c
  desc_gift a b c first second =
      adds_same (λ x. Each d.params OfType x ⊎ OfSome d.result OfType x) (IsOfDesc (method_of d)) a c to_desc from_desc
      (adds_both (Each d.params OfType) (OfSome d.result OfType) a b c first second)

  module _ (one : OneForm) (desc : List ℕ) (form : IsMethodType (method_of d)) (text : desc ≡ method_text
      (method_of d)) where
    to_described : (x : Member) → IsOfDesc (method_of d) x → IsDescribedGift desc x
    to_described x (t, among, (class, element, is)) = (
      class,
      record { parsed = method_of d; form = form; text = text; type = t; among = among; element = element },
      is,
    )

    from_described : (x : Member) → IsDescribedGift desc x → IsOfDesc (method_of d) x
    from_described x (class, has, is) =
        let same : has.parsed ≡ method_of d =
        one.method has.parsed (method_of d) has.form form (sym has.text ∙ text) in
        (has.type, subst (λ (m : MethodType). IsOfMethod m has.type) same has.among, (class, has.element, is))

    pub described_gift : (a b : List Member) → Adds (IsOfDesc (method_of d)) a b → Adds (IsDescribedGift desc) a b
    described_gift a b adds = adds_same (IsOfDesc (method_of d))
        (IsDescribedGift desc) a b to_described from_described adds

pub nothing_described : (desc : List ℕ) (a : List Member) → (IsMethodDescriptor desc → ⊥)
    → Adds (IsDescribedGift desc) a a
nothing_described desc a none =
    adds_nothing (IsDescribedGift desc) a (λ x h. none (h.1.parsed, h.1.form, h.1.text))

-- ---- the inputs

-- the objects of a type that is a class
module _ (classes : List ClassFile) (t : FieldType) where
  pub object_gift : (name : List ℕ) → t ≡ class_type name → (a b : List Member) → Adds (IsObjectGift classes name) a b
      → Adds (OfInput classes t) a b
  object_gift name is a b adds =
      adds_same (IsObjectGift classes name) (OfInput classes t) a b (λ x h. (name, is, h))
      (λ x h. subst (λ (n : List ℕ). IsObjectGift classes n x)
      (ap (λ (u : FieldType). name_in u.element) (sym h.1 ∙ is)) h.2) adds

  pub no_object : (a : List Member) → ((name : List ℕ) → t ≡ class_type name → ⊥) → Adds (OfInput classes t) a a
  no_object a none = adds_nothing (OfInput classes t) a (λ x h. none h.0 h.1)

abbrev pub OfObject : List ClassFile → Ty → Member → Type 0
OfObject classes ty = OfInput classes (field_of ty)

module _ (classes : List ClassFile) (j : Job) (types : List Ty)
    (are : AreInputTypes classes j.entry j.depth types) where
  abbrev Stands : FieldType → Type 0
  Stands t = (at : ℕ) × (at ≤ j.depth) × StandsAt classes j.entry j.depth at t

  to_input : (x : Member) → Each types OfType x ⊎ Each types (OfObject classes) x → IsInputGift classes j x
  to_input x (inl (ty, among, gift)) =
      (field_of ty, (are (field_of ty)).0 (in_map field_of types ty among), inl gift)
  to_input x (inr (ty, among, gift)) =
      (field_of ty, (are (field_of ty)).0 (in_map field_of types ty among), inr gift)

  from_input : (x : Member) → IsInputGift classes j x → Each types OfType x ⊎ Each types (OfObject classes) x
  from_input x (t, stands, inl gift) =
      let m = from_map field_of types t ((are t).1 stands) in
      inl (m.0, m.1, subst (λ (u : FieldType). IsElementGift u x) (sym m.2) gift)
  from_input x (t, stands, inr gift) =
      let m = from_map field_of types t ((are t).1 stands) in
      inr (m.0, m.1, subst (λ (u : FieldType). OfInput classes u x) (sym m.2) gift)

  pub input_gift : (a b c : List Member) → Adds (Each types OfType) a b → Adds (Each types (OfObject classes)) b c
      → Adds (IsInputGift classes j) a c
  input_gift a b c first second =
      adds_same (λ x. Each types OfType x ⊎ Each types (OfObject classes) x)
      (IsInputGift classes j) a c to_input from_input
      (adds_both (Each types OfType) (Each types (OfObject classes)) a b c first second)

-- ---- all

module _ (g : Given) (j : Job) where
  abbrev Parts : Member → Type 0
  Parts x = ((IsRootGift j.entry x ⊎ IsDescribedGift j.entry.desc x) ⊎ IsReceiverGift g.classes j.entry x)
      ⊎ IsInputGift g.classes j x

  is_input : (x : Member) (t : FieldType) (at : ℕ) → at ≤ j.depth → StandsAt g.classes j.entry j.depth at t
      → IsElementGift t x ⊎ OfInput g.classes t x → FromEntry j g x
  is_input x t at within stands (inl (class, element, is)) =
      subst (FromEntry j g) (sym is)
      (rules.input_type class (record { type = t; at = at; within = within; stands = stands; element = element }))
  is_input x t at within stands (inr (class, same, (can, kind))) =
      let has : IsInputObject g.classes j.entry j.depth class =
      record {
        at = at;
        within = within;
        stands = subst (λ (u : FieldType). StandsAt g.classes j.entry j.depth at u) same stands;
        made = can;
      } in
      elim kind [
        | inl is ↦ subst (FromEntry j g) (sym is) (rules.input_made class has)
        | inr is ↦ subst (FromEntry j g) (sym is) (rules.input_initialised class has)
      ]

  to_entry : (x : Member) → Parts x → FromEntry j g x
  to_entry x (inl (inl (inl (inl is)))) = subst (FromEntry j g) (sym is) rules.entry
  to_entry x (inl (inl (inl (inr is)))) = subst (FromEntry j g) (sym is) rules.initialised
  to_entry x (inl (inl (inr (class, has, is)))) = subst (FromEntry j g) (sym is) (rules.described class has)
  to_entry x (inl (inr (has, is))) = subst (FromEntry j g) (sym is) (rules.receiver has)
  to_entry x (inr (t, (at, within, stands), gift)) = is_input x t at within stands gift

  object_part : (class : List ℕ) (x : Member) → IsInputObject g.classes j.entry j.depth class
      → (x ≡ Made class) ⊎ (x ≡ Initialised class) → Parts x
  object_part class x has kind =
      inr (class_type class, (has.at, has.within, has.stands), inr (class, refl, (has.made, kind)))

  from_entry : (x : Member) → FromEntry j g x → Parts x
  from_entry x rules.entry = inl (inl (inl (inl refl)))
  from_entry x rules.initialised = inl (inl (inl (inr refl)))
  from_entry x (rules.described class has) = inl (inl (inr (class, has, refl)))
  from_entry x (rules.receiver has) = inl (inr (has, refl))
  from_entry x (rules.input_type class has) =
      inr (has.type, (has.at, has.within, has.stands), inl (class, has.element, refl))
  from_entry x (rules.input_made class has) = object_part class x has (inl refl)
  from_entry x (rules.input_initialised class has) = object_part class x has (inr refl)

  pub entry_gift : (a b c d e : List Member) → Adds (IsRootGift j.entry) a b
      → Adds (IsDescribedGift j.entry.desc) b c → Adds (IsReceiverGift g.classes j.entry) c d
      → Adds (IsInputGift g.classes j) d e → Adds (FromEntry j g) a e
  entry_gift a b c d e root described receiver input =
      adds_same Parts (FromEntry j g) a e to_entry from_entry
      (adds_both (λ x. (IsRootGift j.entry x ⊎ IsDescribedGift j.entry.desc x) ⊎ IsReceiverGift g.classes j.entry x)
      (IsInputGift g.classes j) a d e
      (adds_both (λ x. IsRootGift j.entry x ⊎ IsDescribedGift j.entry.desc x) (IsReceiverGift g.classes j.entry) a c d
      (adds_both (IsRootGift j.entry) (IsDescribedGift j.entry.desc) a b c root described) receiver) input)
