-- What a fact of a method gives, rule by rule.
use Rattle.std.proofs.Common.{◌≡◌, ◌⊎◌, ℕ, Bool, List, Contains, Option, Some}
use Rattle.std.proofs.Common.{refl, sym, ap, subst, ◌∙◌, inl, inr}
use Rattle.jv_base.specs.declared.method.MethodId.{MethodId}
use Rattle.jv_base.specs.declared.method.FieldId.{FieldId}
use Rattle.cf_code.specs.declared.field.FieldUse.{FieldUse}
use Rattle.cf_code.specs.declared.field.FieldUse.TheVariants.{GetStatic}
use Rattle.lib_rows.specs.Classes.{class_name}
use Rattle.lib_rows.specs.declared.class.Builtin.TheVariants as builtins
use Rattle.std.proofs.lemmas.Option.{same_Some}
use Rattle.bd_scan.specs.declared.fact.Fact.{Fact}
use Rattle.bd_scan.specs.declared.fact.Why.{Why}
use Rattle.bd_scan.specs.declared.fact.Fact.TheVariants.{New, Names, Special, Static, Virtual, Init, Raises, Literal}
use Rattle.bd_scan.specs.declared.fact.Fact.TheVariants.{Reads, Refuse}
use Rattle.hi_tree.specs.Fields.{IsField}
use Rattle.hi_tree.specs.Resolution.{IsResolved}
use Rattle.hi_tree.specs.Special.{IsSpecial}
use Rattle.bd_core.specs.declared.member.Member.{Member}
use Rattle.bd_core.specs.declared.member.Member.TheVariants.{Known, Method, Made, Called, Initialised}
use Rattle.bd_core.specs.Given.{Given}
use Rattle.bd_core.specs.Rules.{FromFact, new, literal, constant, stream, static_call, special_call, virtual_call}
use Rattle.bd_core.specs.Rules.{initialises, static_initialises, field_initialises, named, raised, special_declared}
use Rattle.bd_core.specs.Rules.{virtual_declared, field_declared}
use Rattle.bd_core.specs.Calls.Adds.{Adds, Each, Is, OfSome, Tells}
use Rattle.bd_core.specs.Calls.Gives.{IsReadGift, IsFieldGift, IsReachedGift, FromFacts, OfMethod}
use Rattle.bd_core.proofs.AddsLemmas.{adds_nothing, adds_both, adds_same}
use Rattle.bd_core.proofs.ToldLemmas.{OfTold, adds_told}

-- ---- facts that give one member

module _ (g : Given) (m : MethodId) (class : List ℕ) (old after : List Member) where
  is_new : (pc : ℕ) (x : Member) → FromFact g m (New pc class) x → x ≡ Made class
  is_new pc x (new _ _) = refl

  pub new_gift : (pc : ℕ) → Adds (Is (Made class)) old after → Adds (FromFact g m (New pc class)) old after
  new_gift pc adds =
      adds_same (Is (Made class)) (FromFact g m (New pc class)) old after
      (λ x e. subst (FromFact g m (New pc class)) (sym e) (new pc class)) (is_new pc) adds

  is_raised : (x : Member) → FromFact g m (Raises class) x → x ≡ Made class
  is_raised x (raised _) = refl

  pub raised_gift : Adds (Is (Made class)) old after → Adds (FromFact g m (Raises class)) old after
  raised_gift adds =
      adds_same (Is (Made class)) (FromFact g m (Raises class)) old after
      (λ x e. subst (FromFact g m (Raises class)) (sym e) (raised class)) is_raised adds

  is_literal : (x : Member) → FromFact g m (Literal class) x → x ≡ Made class
  is_literal x (literal _) = refl

  pub literal_gift : Adds (Is (Made class)) old after → Adds (FromFact g m (Literal class)) old after
  literal_gift adds =
      adds_same (Is (Made class)) (FromFact g m (Literal class)) old after
      (λ x e. subst (FromFact g m (Literal class)) (sym e) (literal class)) is_literal adds

  is_named : (x : Member) → FromFact g m (Names class) x → x ≡ Known class
  is_named x (named _) = refl

  pub named_gift : Adds (Is (Known class)) old after → Adds (FromFact g m (Names class)) old after
  named_gift adds =
      adds_same (Is (Known class)) (FromFact g m (Names class)) old after
      (λ x e. subst (FromFact g m (Names class)) (sym e) (named class)) is_named adds

  is_initialised : (x : Member) → FromFact g m (Init class) x → x ≡ Initialised class
  is_initialised x (initialises _) = refl

  pub initialised_gift : Adds (Is (Initialised class)) old after → Adds (FromFact g m (Init class)) old after
  initialised_gift adds =
      adds_same (Is (Initialised class)) (FromFact g m (Init class)) old after
      (λ x e. subst (FromFact g m (Init class)) (sym e) (initialises class)) is_initialised adds

is_refused : (g : Given) (m : MethodId) (pc : ℕ) (why : Why) (x : Member) → FromFact g m (Refuse pc why) x → ⊥
is_refused g m pc why x h = elim h [ ]

pub refused_gift : (g : Given) (m : MethodId) (pc : ℕ) (why : Why) (old : List Member)
    → Adds (FromFact g m (Refuse pc why)) old old
refused_gift g m pc why old = adds_nothing (FromFact g m (Refuse pc why)) old (is_refused g m pc why)

-- ---- calls

module _ (g : Given) (m at : MethodId) (interface : Bool) (old mid after : List Member) where
  -- the resolved method's class is known
  abbrev Declarer : Member → Type 0
  Declarer = OfTold (IsResolved g.classes interface at) (λ t. Is (Known t.class))

  abbrev Target : Member → Type 0
  Target = OfTold (IsSpecial g.classes m.class interface at) (λ t. Is (Method t))

  is_special : (pc : ℕ) (x : Member) → FromFact g m (Special pc at interface) x → Target x ⊎ Declarer x
  is_special pc x (special_call _ _ target _ is) = inl (target, is, refl)
  is_special pc x (special_declared _ _ resolved _ is) = inr (resolved, is, refl)

  pub special_gift : (pc : ℕ) (t r : Option MethodId) → Tells t (IsSpecial g.classes m.class interface at)
      → Tells r (IsResolved g.classes interface at) → Adds (OfSome t (λ s. Is (Method s))) old mid
      → Adds (OfSome r (λ s. Is (Known s.class))) mid after → Adds (FromFact g m (Special pc at interface)) old after
  special_gift pc t r target resolved first second =
      let gift : Member → Type 0 = FromFact g m (Special pc at interface) in
      adds_same (λ x. Target x ⊎ Declarer x) gift old after
      (λ x h. elim h [
        | inl s ↦ subst gift (sym s.2) (special_call pc at s.0 interface s.1)
        | inr d ↦ subst gift (sym d.2) (special_declared pc at d.0 interface d.1)
      ])
      (is_special pc)
      (adds_both Target Declarer old mid after
      (adds_told (IsSpecial g.classes m.class interface at) (λ s. Is (Method s)) t old mid target first)
      (adds_told (IsResolved g.classes interface at) (λ s. Is (Known s.class)) r mid after resolved second))

  is_virtual : (pc : ℕ) (x : Member) → FromFact g m (Virtual pc at interface) x
      → Is (Called at interface) x ⊎ Declarer x
  is_virtual pc x (virtual_call _ _ _) = inl refl
  is_virtual pc x (virtual_declared _ _ resolved _ is) = inr (resolved, is, refl)

  pub virtual_gift : (pc : ℕ) (r : Option MethodId) → Tells r (IsResolved g.classes interface at)
      → Adds (Is (Called at interface)) old mid → Adds (OfSome r (λ s. Is (Known s.class))) mid after
      → Adds (FromFact g m (Virtual pc at interface)) old after
  virtual_gift pc r resolved first second =
      let gift : Member → Type 0 = FromFact g m (Virtual pc at interface) in
      adds_same (λ x. Is (Called at interface) x ⊎ Declarer x) gift old after
      (λ x h. elim h [
        | inl e ↦ subst gift (sym e) (virtual_call pc at interface)
        | inr d ↦ subst gift (sym d.2) (virtual_declared pc at d.0 interface d.1)
      ])
      (is_virtual pc)
      (adds_both (Is (Called at interface)) Declarer old mid after first
      (adds_told (IsResolved g.classes interface at) (λ s. Is (Known s.class)) r mid after resolved second))

  -- a static call initialises the class that declares its method
  is_static : (pc : ℕ) (x : Member) → FromFact g m (Static pc at interface) x
      → OfTold (IsResolved g.classes interface at) IsReachedGift x
  is_static pc x (static_call _ _ target _ is) = (target, is, inr refl)
  is_static pc x (static_initialises _ _ target _ is) = (target, is, inl refl)

  to_static : (pc : ℕ) (x : Member) → OfTold (IsResolved g.classes interface at) IsReachedGift x
      → FromFact g m (Static pc at interface) x
  to_static pc x (target, is, inl e) =
      subst (FromFact g m (Static pc at interface)) (sym e) (static_initialises pc at target interface is)
  to_static pc x (target, is, inr e) =
      subst (FromFact g m (Static pc at interface)) (sym e) (static_call pc at target interface is)

  pub static_gift : (pc : ℕ) (t : Option MethodId) → Tells t (IsResolved g.classes interface at)
      → Adds (OfSome t IsReachedGift) old after → Adds (FromFact g m (Static pc at interface)) old after
  static_gift pc t tells adds =
      adds_same (OfTold (IsResolved g.classes interface at) IsReachedGift) (FromFact g m (Static pc at interface))
      old after
      (to_static pc) (is_static pc) (adds_told (IsResolved g.classes interface at) IsReachedGift t old after tells adds)

-- ---- fields

module _ (g : Given) (m : MethodId) (at : FieldId) where
  is_field : (access : FieldUse) (pc : ℕ) (x : Member) → FromFact g m (Reads pc at access) x
      → OfTold (IsField g.classes at) (IsFieldGift g access) x
  is_field access pc x (field_declared _ _ f _ is) = (f, is, inr refl)
  is_field access pc x (field_initialises _ _ f _ static is) = (f, is, inl (inl (static, refl)))
  is_field access pc x (constant _ _ f is text) = (f, is, inl (inr (refl, inl (text, refl))))
  is_field access pc x (stream _ _ f is system) = (f, is, inl (inr (refl, inr (system, refl))))

  from_read : (access : FieldUse) (pc : ℕ) (x : Member) (f : FieldId) → IsField g.classes at f → access ≡ GetStatic
      → IsReadGift g f x → FromFact g m (Reads pc at access) x
  from_read access pc x f is e (inl text) =
      subst (FromFact g m (Reads pc at access)) (sym text.1)
      (subst (λ a. FromFact g m (Reads pc at a) (Made (class_name builtins.String))) (sym e)
      (constant pc at f is text.0))
  from_read access pc x f is e (inr system) =
      subst (FromFact g m (Reads pc at access)) (sym system.1)
      (subst (λ a. FromFact g m (Reads pc at a) (Made (class_name builtins.PrintStream))) (sym e)
      (stream pc at f is system.0))

  to_field : (access : FieldUse) (pc : ℕ) (x : Member) → OfTold (IsField g.classes at) (IsFieldGift g access) x
      → FromFact g m (Reads pc at access) x
  to_field access pc x (f, is, inl (inl used)) =
      subst (FromFact g m (Reads pc at access)) (sym used.1) (field_initialises pc at f access used.0 is)
  to_field access pc x (f, is, inl (inr (e, gift))) = from_read access pc x f is e gift
  to_field access pc x (f, is, inr e) =
      subst (FromFact g m (Reads pc at access)) (sym e) (field_declared pc at f access is)

  pub field_gift : (access : FieldUse) (pc : ℕ) (f : Option FieldId) (old after : List Member)
      → Tells f (IsField g.classes at) → Adds (OfSome f (IsFieldGift g access)) old after
      → Adds (FromFact g m (Reads pc at access)) old after
  field_gift access pc f old after tells adds =
      adds_same (OfTold (IsField g.classes at) (IsFieldGift g access)) (FromFact g m (Reads pc at access)) old after
      (to_field access pc) (is_field access pc)
      (adds_told (IsField g.classes at) (IsFieldGift g access) f old after tells adds)

-- ---- all facts

module _ (g : Given) (old after : List Member) where
  pub facts_gift : (m : MethodId) (facts : List Fact) → g.facts m ≡ Some facts
      → Adds (Each facts (FromFact g m)) old after → Adds (FromFacts g m) old after
  facts_gift m facts e adds =
      adds_same (Each facts (FromFact g m)) (FromFacts g m) old after
      (λ x h. (facts, e, h.0, h.1, h.2))
      (λ x h. (h.2, subst (λ l. Contains l h.2) (same_Some h.0 facts (sym h.1 ∙ e)) h.3, h.4)) adds

  pub of_method : (m : MethodId) (p : Member) → p ≡ Method m → Adds (FromFacts g m) old after
      → Adds (OfMethod g p) old after
  of_method m p e adds =
      adds_same (FromFacts g m) (OfMethod g p) old after (λ x h. (m, e, h))
      (λ x h. subst (λ k. FromFacts g k x) (method_in (sym h.1 ∙ e)) h.2) adds
    where
      id_of : Member → MethodId
      id_of (Method k) = k
      id_of other = m

      method_in : {k : MethodId} → Method k ≡ Method m → k ≡ m
      method_in f = ap id_of f
