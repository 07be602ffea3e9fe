-- The kinds of a set, as a list.
use Rattle.std.proofs.Common.{◌≡◌, true, List, refl, sym, subst}
use Rattle.std.proofs.Common.{arith}
use Rattle.std.specs.Prelude.{◌↔◌, Contains}
use Rattle.jv_base.specs.declared.method.Kind.{Kind}
use Rattle.jv_base.specs.declared.method.Kind.TheVariants.{Null, Zero, Bounds, NegSize, Store, Cast, StrIndex, Assert}
use Rattle.cf_code.specs.Kinds.{has, all_kinds, kinds_of}
use Rattle.cf_code.specs.declared.kind_set.KindSet.{KindSet}
use Rattle.jv_list.proofs.FilterLemmas.{in_filter, from_filter}

-- each kind is one of all
listed : (kind : Kind) → Contains all_kinds kind
listed Null = (0, omega arith, refl)
listed Zero = (1, omega arith, refl)
listed Bounds = (2, omega arith, refl)
listed NegSize = (3, omega arith, refl)
listed Store = (4, omega arith, refl)
listed Cast = (5, omega arith, refl)
listed StrIndex = (6, omega arith, refl)
listed Assert = (7, omega arith, refl)

-- the list has the kinds that the set has
pub has_members : (set : KindSet) (kinds : List Kind) → kinds ≡ kinds_of set
    → (kind : Kind) → Contains kinds kind ↔ (has set kind ≡ true)
has_members set kinds is kind = (
  λ h. (from_filter (has set) all_kinds kind (subst (λ (ks : List Kind). Contains ks kind) is h)).1,
  λ e. subst (λ (ks : List Kind). Contains ks kind) (sym is) (in_filter (has set) all_kinds kind (listed kind) e),
)
