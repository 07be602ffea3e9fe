-- What holds of resolution and selection.
use Rattle.std.proofs.Common.{◌≡◌, ℕ, Bool, true, false, not, ◌&&◌, List, [], inl, inr}
use Rattle.std.proofs.Common.{Option}
use Rattle.std.proofs.Common.{Some, None, is_some, sym, ◌∙◌, ap, subst, refl, arith, true≢false}
use Rattle.std.specs.Str.{bytes_eq}
use Rattle.std.specs.Ordering.{is_eq, is_gt, ordering_reverse, nat_cmp}
use Rattle.std.specs.declared.cmp.Ordering.{Ordering}
use Rattle.std.specs.declared.cmp.Ordering.TheVariants.{Less, Equal, Greater}
use Rattle.std.specs.Cmp.Lexicographic.{slice_cmp}
use Rattle.std.proofs.lemmas.Bool.{and_parts}
use Rattle.std.proofs.lemmas.Cmp.{nat_list_cmp_total}
use Rattle.std.proofs.lemmas.Map.Text.{is_eq-slice_cmp}
use Rattle.std.proofs.lemmas.Option.{same_Some, none-some}
use Rattle.std.proofs.lemmas.Slice.Eq.{bytes_eq-Decides}
use Rattle.cf_class.specs.declared.class_file.ClassFile.{ClassFile}
use Rattle.jv_base.specs.declared.method.MethodId.{MethodId}
use Rattle.hi_tree.specs.declared.declared.Access.{Access}
use Rattle.hi_tree.specs.declared.declared.Access.TheVariants.{Private, Package, Wide}
use Rattle.hi_tree.specs.declared.declared.Declared.{Declared}
use Rattle.hi_tree.specs.Classes.{Known, known_class}
use Rattle.hi_tree.specs.Supers.{sought_some}
use Rattle.hi_tree.specs.Sought.{override_sought, can_override}
use Rattle.hi_tree.specs.Methods.{declared, declared_some, is_virtual, is_virtual_at, is_virtual_some, has_body_some}
use Rattle.hi_tree.specs.Methods.{is_interface_class}
use Rattle.hi_tree.specs.Superinterfaces.{offers}
use Rattle.hi_tree.specs.Resolution.{holder, own_climb, IsDeclaredBy, own, default, any, IsResolved}
use Rattle.hi_tree.specs.Selection.{IsDeclared, HasBody, override_climb, IsSelectedIn, IsSelected}
use Rattle.hi_tree.specs.Selection as selection
use Rattle.hi_tree.specs.Walks.{Climb, Stop, found, Stops, here}
use Rattle.hi_tree.specs.Laws.{IsCallable}
use Rattle.hi_tree.proofs.OfferLemmas.{or_cases, or_first}
use Rattle.hi_tree.proofs.WalkLemmas.{one_stop, clean_no_stop, no_path}
use Rattle.hi_tree.proofs.SubtypeLemmas.{found_above}

pub same_method : (a b : MethodId) → a.class ≡ b.class → a.name ≡ b.name → a.desc ≡ b.desc → a ≡ b
same_method a b class name desc = λ i. record { class = class i; name = name i; desc = desc i }

stop_name : Stop → List ℕ
stop_name (found name) = name
stop_name other = []

pub one_found : (w : Climb) (name a b : List ℕ) → Stops w name (found a) → Stops w name (found b) → a ≡ b
unfolding stop_name
one_found w name a b s t = ap stop_name (one_stop w (no_path w name) s t)

-- a name that is at most another, and the other way round, is the same
same_least : (a b : List ℕ) → is_gt (slice_cmp nat_cmp a b) ≡ false → is_gt (slice_cmp nat_cmp b a) ≡ false → a ≡ b
same_least a b ab ba = by (slice_cmp nat_cmp a b) refl
  where
    back : (o : Ordering) → slice_cmp nat_cmp a b ≡ o → slice_cmp nat_cmp b a ≡ ordering_reverse o
    back o e = nat_list_cmp_total.antisymm b a ∙ ap ordering_reverse e

    by : (o : Ordering) → slice_cmp nat_cmp a b ≡ o → a ≡ b
    by Less e = absurd (true≢false (sym (ap is_gt (back Less e)) ∙ ba))
    by Equal e = (bytes_eq-Decides a b).0 (sym (is_eq-slice_cmp a b) ∙ ap is_eq e)
    by Greater e = absurd (true≢false (sym (ap is_gt e) ∙ ab))

module _ (classes : List ClassFile) (interface : Bool) (at : MethodId) where
  abbrev w : Climb
  w = own_climb classes interface at

  one_declared : (a b : List ℕ) → IsDeclaredBy classes interface at a → IsDeclaredBy classes interface at b → a ≡ b
  one_declared a b (own x s) (own y t) = one_found w (holder at.class) a b s t
  one_declared a b (own x s) (default y inherited only) =
      absurd (clean_no_stop w inherited.own (no_path w (holder at.class)) s)
  one_declared a b (own x s) (any y inherited never least) =
      absurd (clean_no_stop w inherited.own (no_path w (holder at.class)) s)
  one_declared a b (default x inherited only) (own y t) =
      absurd (clean_no_stop w inherited.own (no_path w (holder at.class)) t)
  one_declared a b (default x inherited only) (default y inherited2 only2) = only2.only a only.default
  one_declared a b (default x inherited only) (any y inherited2 never least) = absurd (never a only)
  one_declared a b (any x inherited never least) (own y t) =
      absurd (clean_no_stop w inherited.own (no_path w (holder at.class)) t)
  one_declared a b (any x inherited never least) (default y inherited2 only) = absurd (never b only)
  one_declared a b (any x inherited never least) (any y inherited2 no2 least2) =
      same_least a b (least.least b least2.offered) (least2.least a least.offered)

  pub one_resolved : (a b : MethodId) → IsResolved classes interface at a → IsResolved classes interface at b → a ≡ b
  one_resolved a b is at_b =
      same_method a b (one_declared a.class b.class is.declared at_b.declared) (is.name ∙ sym at_b.name)
      (is.desc ∙ sym at_b.desc)

-- a method that is neither private nor static
pub virtual_parts : (d : Declared) → is_virtual d ≡ true → (d.is_static ≡ false) × (d.access ≡ Private → ⊥)
virtual_parts d is = by d.access d.is_static is
  where
    by : (a : Access) (s : Bool) → is_virtual_at a s ≡ true → (s ≡ false) × (a ≡ Private → ⊥)
    by Private s e = absurd (true≢false (sym e))
    by Package true e = absurd (true≢false (sym e))
    by Package false e = (refl, λ same. true≢false (ap (λ (x : Access). is_virtual_at x false) same))
    by Wide true e = absurd (true≢false (sym e))
    by Wide false e = (refl, λ same. true≢false (ap (λ (x : Access). is_virtual_at x false) same))

not_abstract : (b : Bool) → not b ≡ true → b ≡ false
not_abstract true e = absurd (true≢false (sym e))
not_abstract false e = refl

module _ (classes : List ClassFile) (m : MethodId) where
  abbrev at_class : List ℕ → Option Declared
  at_class c = declared_some m.name m.desc (known_class classes c)

  record IsCallableIn (c : List ℕ) : Type 0 where
    method : Declared
    declared : at_class c ≡ Some method
    not_static : method.is_static ≡ false
    not_abstract : method.is_abstract ≡ false
    own : method.access ≡ Private → c ≡ m.class

  virtual_callable : (c : List ℕ) → is_virtual_some (at_class c) ≡ true → HasBody classes m c → IsCallableIn c
  virtual_callable c is body = by (at_class c) refl is body
    where
      by : (o : Option Declared) → at_class c ≡ o → is_virtual_some o ≡ true → has_body_some o ≡ true → IsCallableIn c
      by None e is body = absurd (true≢false (sym is))
      by (Some d) e is body = record {
        method = d;
        declared = e;
        not_static = (virtual_parts d is).0;
        not_abstract = not_abstract d.is_abstract body;
        own = λ is_private. absurd ((virtual_parts d is).1 is_private);
      }

  -- what the walk finds is declared, and neither private nor static
  overriding : (d : Declared) (c : List ℕ) → IsDeclared classes m d → is_virtual d ≡ true
      → sought_some (override_sought m d.access c) (known_class classes c) ≡ true → is_virtual_some (at_class c) ≡ true
  overriding d c decl is sought = by (known_class classes c) refl sought
    where
      by : (k : Option Known) → known_class classes c ≡ k → sought_some (override_sought m d.access c) k ≡ true
          → is_virtual_some (at_class c) ≡ true
      by None e h = absurd (true≢false (sym h))
      by (Some k) e h = elim (or_cases (bytes_eq c m.class) (is_virtual_some (declared m.name m.desc k)
          && can_override d.access m.class c) h) [
            | inl same ↦
                let at : at_class c ≡ Some d = ap at_class ((bytes_eq-Decides c m.class).0 same) ∙ decl in
                ap is_virtual_some at ∙ is
            | inr more ↦
                ap (λ (x : Option Known). is_virtual_some (declared_some m.name m.desc x)) e
                ∙ (and_parts (is_virtual_some (declared m.name m.desc k)) (can_override d.access m.class c) more).0
          ]

  offered_virtual : (c : List ℕ) → offers m.name m.desc (known_class classes c) ≡ true
      → is_virtual_some (at_class c) ≡ true
  offered_virtual c is = by (known_class classes c) is
    where
      by : (k : Option Known) → offers m.name m.desc k ≡ true → is_virtual_some (declared_some m.name m.desc k) ≡ true
      by None h = absurd (true≢false (sym h))
      by (Some k) h = (and_parts (is_interface_class k) (is_virtual_some (declared m.name m.desc k)) h).1

  one_method : (d e : Declared) → IsDeclared classes m d → IsDeclared classes m e → d ≡ e
  one_method d e a b = same_Some d e (sym a ∙ b)

  module _ (class : List ℕ) where
    callable_in : (c : List ℕ) → IsSelectedIn classes class m c → IsCallableIn c
    callable_in c (selection.itself d decl is_private not_st body) = record {
      method = d;
      declared = decl;
      not_static = not_st;
      not_abstract = body;
      own = λ is_private. refl;
    }
    callable_in c (selection.override d x decl is stops body) =
        virtual_callable c (overriding d c decl is (found_above (override_climb classes m d.access) c stops).0) body
    callable_in c (selection.default d x left only) =
        virtual_callable c (offered_virtual c only.default.maximal.offered.offers) only.default.body

    one_selected_in : (a b : List ℕ) → IsSelectedIn classes class m a → IsSelectedIn classes class m b → a ≡ b
    one_selected_in a b (selection.itself d decl is_private not_st body) (selection.itself e decl2 own2 st2 body2) =
        refl
    one_selected_in a b (selection.itself d decl is_private not_st body) (selection.override e y decl2 is stops body2) =
        absurd ((virtual_parts e is).1 (ap (λ (x : Declared). x.access) (one_method e d decl2 decl) ∙ is_private))
    one_selected_in a b (selection.itself d decl is_private not_st body) (selection.default e y left only) =
        absurd ((virtual_parts e left.overridable).1
        (ap (λ (x : Declared). x.access) (one_method e d left.declared decl) ∙ is_private))
    one_selected_in a b (selection.override e x decl is stops body2) (selection.itself d decl2 is_private not_st body) =
        absurd ((virtual_parts e is).1 (ap (λ (x : Declared). x.access) (one_method e d decl decl2) ∙ is_private))
    one_selected_in a b (selection.override d x decl is stops body) (selection.override e y decl2 is2 stops2 body2) =
        one_found (override_climb classes m d.access) (holder class) a b stops
        (subst (λ (z : Declared). Stops (override_climb classes m z.access) (holder class) (found b))
        (one_method e d decl2 decl) stops2)
    one_selected_in a b (selection.override d x decl is stops body) (selection.default e y left only) =
        absurd (clean_no_stop (override_climb classes m e.access) left.own (no_path (override_climb classes m e.access)
        (holder class)) (subst (λ (z : Declared). Stops (override_climb classes m z.access) (holder class) (found a))
        (one_method d e decl left.declared) stops))
    one_selected_in a b (selection.default e x left only) (selection.itself d decl is_private not_st body) =
        absurd ((virtual_parts e left.overridable).1
        (ap (λ (x : Declared). x.access) (one_method e d left.declared decl) ∙ is_private))
    one_selected_in a b (selection.default e x left only) (selection.override d y decl is stops body) =
        absurd (clean_no_stop (override_climb classes m e.access) left.own (no_path (override_climb classes m e.access)
        (holder class)) (subst (λ (z : Declared). Stops (override_climb classes m z.access) (holder class) (found b))
        (one_method d e decl left.declared) stops))
    one_selected_in a b (selection.default d x left only) (selection.default e y left2 only2) =
        only2.only a only.default

    pub one_selected : (a b : MethodId) → IsSelected classes class m a → IsSelected classes class m b → a ≡ b
    one_selected a b is at_b =
        same_method a b (one_selected_in a.class b.class is.in_class at_b.in_class) (is.name ∙ sym at_b.name)
        (is.desc ∙ sym at_b.desc)

    pub callable : (s : MethodId) → IsSelected classes class m s → IsCallable classes m s
    callable s is =
        let h = callable_in s.class is.in_class in
        let at : IsDeclared classes s h.method =
        ap (λ (n : List ℕ). declared_some n s.desc (known_class classes s.class)) is.name
        ∙ ap (λ (n : List ℕ). declared_some m.name n (known_class classes s.class)) is.desc ∙ h.declared in
        record {
          method = h.method;
          declared = at;
          not_static = h.not_static;
          not_abstract = h.not_abstract;
          own = λ is_private. same_method s m (h.own is_private) is.name is.desc;
        }

  module _ (d : Declared) (decl : IsDeclared classes m d) (not_st : d.is_static ≡ false) (body : d.is_abstract ≡ false)
      (plain : holder m.class ≡ m.class) where
    known_there : is_some (known_class classes m.class) ≡ true
    known_there = by (known_class classes m.class) refl
      where
        by : (k : Option Known) → known_class classes m.class ≡ k → is_some (known_class classes m.class) ≡ true
        by None e = absurd (none-some d (sym (ap (λ (x : Option Known). declared_some m.name m.desc x) e) ∙ decl))
        by (Some k) e = ap (λ (x : Option Known). is_some x) e

    sought_there : (a : Access) → sought_some (override_sought m a m.class) (known_class classes m.class) ≡ true
    sought_there a = by (known_class classes m.class) refl
      where
        by : (k : Option Known) → known_class classes m.class ≡ k
            → sought_some (override_sought m a m.class) (known_class classes m.class) ≡ true
        by None e = absurd (none-some d (sym (ap (λ (x : Option Known). declared_some m.name m.desc x) e) ∙ decl))
        by (Some k) e = ap (λ (x : Option Known). sought_some (override_sought m a m.class) x) e
            ∙ or_first (bytes_eq m.class m.class) _ ((bytes_eq-Decides m.class m.class).1 refl)

    stops_there : (a : Access) → Stops (override_climb classes m a) (holder m.class) (found m.class)
    stops_there a =
        subst (λ (n : List ℕ). Stops (override_climb classes m a) n (found m.class)) (sym plain)
        (here [] m.class (λ there. omega (arith, there.1)) known_there (sought_there a))

    body_there : HasBody classes m m.class
    body_there = ap has_body_some decl ∙ ap not body

    selects : IsSelectedIn classes m.class m m.class
    selects = by d.access refl
      where
        is_virt : (d.access ≡ Private → ⊥) → is_virtual d ≡ true
        is_virt never = by_access d.access d.is_static not_st never
          where
            by_access : (a : Access) (s : Bool) → s ≡ false → (a ≡ Private → ⊥) → is_virtual_at a s ≡ true
            by_access Private s e never = absurd (never refl)
            by_access Package s e never = ap not e
            by_access Wide s e never = ap not e

        by : (a : Access) → d.access ≡ a → IsSelectedIn classes m.class m m.class
        by Private e = selection.itself d decl e not_st body
        by Package e = selection.override d m.class decl
            (is_virt (λ p. true≢false (ap (λ (x : Access). is_virtual_at x false) (sym e ∙ p)))) (stops_there d.access)
            body_there
        by Wide e = selection.override d m.class decl
            (is_virt (λ p. true≢false (ap (λ (x : Access). is_virtual_at x false) (sym e ∙ p)))) (stops_there d.access)
            body_there

    itself_selected : IsSelected classes m.class m m
    itself_selected = record { name = refl; desc = refl; in_class = selects }

    pub selects_itself : (s : MethodId)
        → (IsSelected classes m.class m s → s ≡ m) × (s ≡ m → IsSelected classes m.class m s)
    selects_itself s = (
      (λ is. one_selected m.class s m is itself_selected),
      (λ same. subst (λ (x : MethodId). IsSelected classes m.class m x) (sym same) itself_selected),
    )
