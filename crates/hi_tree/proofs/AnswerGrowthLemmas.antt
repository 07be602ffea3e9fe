-- What a reference means, and what a call selects, stays as a table grows.
use Rattle.std.proofs.Common.{◌≡◌, ℕ, Bool, true, false, List, inl, inr, Contains, Option, Some, None, is_some}
use Rattle.std.proofs.Common.{sym, ◌∙◌, subst, arith, true≢false, refl}
use Rattle.std.proofs.lemmas.Option.{none-some}
use Rattle.cf_class.specs.declared.class_file.ClassFile.{ClassFile}
use Rattle.jv_base.specs.declared.method.MethodId.{MethodId}
use Rattle.jv_base.specs.declared.method.FieldId.{FieldId}
use Rattle.hi_tree.specs.declared.declared.Declared.{Declared}
use Rattle.hi_tree.specs.declared.known.Up.TheVariants.{Superclasses, Supertypes}
use Rattle.hi_tree.specs.Classes.{Known, known_class}
use Rattle.hi_tree.specs.Supers.{names_above_some}
use Rattle.hi_tree.specs.Sought.{field_sought, method_sought, nothing_sought, override_sought, class_sought}
use Rattle.hi_tree.specs.Methods.{declared_some, has_body_some}
use Rattle.hi_tree.specs.Superinterfaces.{whole_climb, offers}
use Rattle.hi_tree.specs.Fields.{IsField}
use Rattle.hi_tree.specs.Resolution.{holder, own_up, own_climb, IsInherited, IsDeclaredBy, own, default, any}
use Rattle.hi_tree.specs.Resolution.{IsResolved}
use Rattle.hi_tree.specs.Selection.{IsDeclared, HasBody, IsLeftOpen, IsSelectedIn, IsSelected}
use Rattle.hi_tree.specs.Selection as selection
use Rattle.hi_tree.specs.Special.{IsFixed, IsSpecial, superclass_climb}
use Rattle.hi_tree.specs.Special as special
use Rattle.hi_tree.specs.Growth.{Grows}
use Rattle.hi_tree.specs.Walks.{IsClean}
use Rattle.hi_tree.proofs.SubtypeLemmas.{found_above}
use Rattle.hi_tree.proofs.GrowthLemmas.{clean_kept, found_kept, told_kept, climbs_agree}
use Rattle.hi_tree.proofs.OfferGrowthLemmas.{only_kept, only_back, least_kept}

-- a class that declares a method is known
pub declared_known : (name desc : List ℕ) (d : Declared) (o : Option Known) → declared_some name desc o ≡ Some d
    → is_some o ≡ true
declared_known name desc d None e = absurd (none-some d e)
declared_known name desc d (Some k) e = refl

pub body_known : (name desc : List ℕ) (o : Option Known) → has_body_some (declared_some name desc o) ≡ true
    → is_some o ≡ true
body_known name desc None e = absurd (true≢false (sym e))
body_known name desc (Some k) e = refl

pub offers_known : (name desc : List ℕ) (o : Option Known) → offers name desc o ≡ true → is_some o ≡ true
offers_known name desc None e = absurd (true≢false (sym e))
offers_known name desc (Some k) e = refl

-- the class of the method that a reference means is known
pub resolved_known : (classes : List ClassFile) (interface : Bool) (at m : MethodId)
    → IsResolved classes interface at m → is_some (known_class classes m.class) ≡ true
resolved_known classes interface at m is = by m.class is.declared
  where
    by : (class : List ℕ) → IsDeclaredBy classes interface at class → is_some (known_class classes class) ≡ true
    by class (own x stops) = (found_above (own_climb classes interface at) class stops).1
    by class (default x inherited only) =
        offers_known at.name at.desc (known_class classes class) only.default.maximal.offered.offers
    by class (any x inherited never least) =
        offers_known at.name at.desc (known_class classes class) least.offered.offers

module _ (classes more : List ClassFile) (grows : Grows classes more) where
  pub declaration_kept : (m : MethodId) (d : Declared) → IsDeclared classes m d → IsDeclared more m d
  declaration_kept m d e =
      told_kept classes more grows (λ (o : Option Known). declared_some m.name m.desc o) m.class
      (declared_known m.name m.desc d (known_class classes m.class) e) ∙ e

  declaration_back : (m : MethodId) (d : Declared) → is_some (known_class classes m.class) ≡ true
      → IsDeclared more m d → IsDeclared classes m d
  declaration_back m d known e =
      sym (told_kept classes more grows (λ (o : Option Known). declared_some m.name m.desc o) m.class known) ∙ e

  pub whole_kept : (class : List ℕ) → IsClean (whole_climb classes) class → IsClean (whole_climb more) class
  whole_kept class is =
      clean_kept (whole_climb classes) (whole_climb more) (climbs_agree classes more grows Supertypes nothing_sought) is

  pub field_kept : (at f : FieldId) → IsField classes at f → IsField more at f
  field_kept at f is = record {
    name = is.name;
    desc = is.desc;
    first = found_kept _ _ (climbs_agree classes more grows Supertypes (field_sought at.name at.desc)) is.first;
  }

  module _ (interface : Bool) (at : MethodId) where
    inherited_kept : IsInherited classes interface at → IsInherited more interface at
    inherited_kept is = record {
      own = clean_kept _ _ (climbs_agree classes more grows (own_up interface) (method_sought at.name at.desc)) is.own;
      whole = whole_kept (holder at.class) is.whole;
    }

    declared_by_kept : (class : List ℕ) → IsDeclaredBy classes interface at class → IsDeclaredBy more interface at class
    declared_by_kept class (own x stops) =
        own x
        (found_kept _ _ (climbs_agree classes more grows (own_up interface) (method_sought at.name at.desc)) stops)
    declared_by_kept class (default x inherited only) =
        default x (inherited_kept inherited)
        (only_kept classes more grows (holder at.class) at.name at.desc inherited.whole x only)
    declared_by_kept class (any x inherited never least) =
        any x (inherited_kept inherited)
        (λ other only. never other
        (only_back classes more grows (holder at.class) at.name at.desc inherited.whole other only))
        (least_kept classes more grows (holder at.class) at.name at.desc inherited.whole x least)

    pub resolved_kept : (m : MethodId) → IsResolved classes interface at m → IsResolved more interface at m
    resolved_kept m is = record {
      name = is.name;
      desc = is.desc;
      declared = declared_by_kept m.class is.declared;
    }

  module _ (class : List ℕ) (m : MethodId) where
    selected_in_kept : (s : List ℕ) → IsSelectedIn classes class m s → IsSelectedIn more class m s
    selected_in_kept s (selection.itself d decl is_private not_static body) =
        selection.itself d (declaration_kept m d decl) is_private not_static body
    selected_in_kept s (selection.override d x decl virtual stops body) =
        selection.override d x (declaration_kept m d decl) virtual
        (found_kept _ _ (climbs_agree classes more grows Superclasses (override_sought m d.access)) stops)
        (told_kept classes more grows (λ (o : Option Known). has_body_some (declared_some m.name m.desc o)) x
        (body_known m.name m.desc (known_class classes x) body) ∙ body)
    selected_in_kept s (selection.default d x left only) =
        selection.default d x
        (record {
          declared = declaration_kept m d left.declared;
          overridable = left.overridable;
          own = clean_kept _ _ (climbs_agree classes more grows Superclasses (override_sought m d.access)) left.own;
          whole = whole_kept (holder class) left.whole;
        })
        (only_kept classes more grows (holder class) m.name m.desc left.whole x only)

    pub selected_kept : (s : MethodId) → IsSelected classes class m s → IsSelected more class m s
    selected_kept s is = record {
      name = is.name;
      desc = is.desc;
      in_class = selected_in_kept s.class is.in_class;
    }

  fixed_kept : (m : MethodId) → IsFixed classes m → IsFixed more m
  fixed_kept m (inl init) = inl init
  fixed_kept m (inr is) = inr (is.0, declaration_kept m is.0 is.1, is.2)

  -- what was resolved, and is not fixed, does not become so
  loose_kept : (interface : Bool) (at m : MethodId) → IsResolved classes interface at m
      → (IsFixed classes m → ⊥) → IsFixed more m → ⊥
  loose_kept interface at m is loose (inl init) = loose (inl init)
  loose_kept interface at m is loose (inr fixed) =
      loose (inr (fixed.0, declaration_back m fixed.0 (resolved_known classes interface at m is) fixed.1, fixed.2))

  above_known : (class super : List ℕ) (o : Option Known) → Contains (names_above_some Superclasses o) super
      → is_some o ≡ true
  above_known class super None there = absurd (omega (arith, there.1))
  above_known class super (Some k) there = refl

  pub special_kept : (caller : List ℕ) (interface : Bool) (at m : MethodId)
      → IsSpecial classes caller interface at m → IsSpecial more caller interface at m
  special_kept caller interface at m (special.fixed x is fixed) =
      special.fixed x (resolved_kept interface at x is) (fixed_kept x fixed)
  special_kept caller interface at m (special.above resolved x super is loose differs stops there looked) =
      special.above resolved x super (resolved_kept interface at resolved is)
      (loose_kept interface at resolved is loose) differs
      (found_kept _ _ (climbs_agree classes more grows Superclasses (class_sought at.class)) stops)
      (subst (λ (l : List (List ℕ)). Contains l super)
      (sym (told_kept classes more grows (λ (o : Option Known). names_above_some Superclasses o) caller
      (above_known caller super (known_class classes caller) there))) there)
      (resolved_kept false (special.of_class at super) x looked)
  special_kept caller interface at m (special.own x is loose same) =
      special.own x (resolved_kept interface at x is) (loose_kept interface at x is loose) same
  special_kept caller interface at m (special.other x is loose walk) =
      special.other x (resolved_kept interface at x is) (loose_kept interface at x is loose)
      (clean_kept _ _ (climbs_agree classes more grows Superclasses (class_sought at.class)) walk)
