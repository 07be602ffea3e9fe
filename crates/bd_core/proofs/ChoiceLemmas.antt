-- What calls select in made classes.
use Rattle.std.proofs.Common.{ℕ, Bool, List, Option}
use Rattle.jv_base.specs.declared.method.MethodId.{MethodId}
use Rattle.hi_tree.specs.Resolution.{IsResolved}
use Rattle.hi_tree.specs.Selection.{IsSelected}
use Rattle.bd_core.specs.declared.member.Member.{Member}
use Rattle.bd_core.specs.declared.member.Member.TheVariants.{Method, Called, Under}
use Rattle.bd_core.specs.Given.{Given}
use Rattle.bd_core.specs.Calls.Adds.{Adds, Each, Is, OfSome, Tells}
use Rattle.bd_core.specs.Calls.Gives.{IsSelectedGift, IsChoice, OfCall, OfClass, Crosses, called, under}
use Rattle.bd_core.specs.Calls.Grouped.{Grouped}
use Rattle.bd_core.proofs.AddsLemmas.{adds_same}
use Rattle.bd_core.proofs.ToldLemmas.{OfTold, adds_told}

module _ (g : Given) (class : List ℕ) (old new : List Member) where
  pub selected_gift : (m : MethodId) (t : Option MethodId) → Tells t (IsSelected g.classes class m)
      → Adds (OfSome t (λ s. Is (Method s))) old new → Adds (IsSelectedGift g class m) old new
  selected_gift m t tells adds = adds_told (IsSelected g.classes class m) (λ s. Is (Method s)) t old new tells adds

  pub choice_gift : (at : MethodId) (interface : Bool) (r : Option MethodId)
      → Tells r (IsResolved g.classes interface at)
      → Adds (OfSome r (IsSelectedGift g class)) old new → Adds (IsChoice g class at interface) old new
  choice_gift at interface r tells adds =
      adds_same (OfTold (IsResolved g.classes interface at) (IsSelectedGift g class)) (IsChoice g class at interface)
      old new
      (λ x h. (h.2.0, record { resolved = h.0; resolves = h.1; selects = h.2.1 }, h.2.2))
      (λ x h. (h.1.resolved, h.1.resolves, (h.0, h.1.selects, h.2)))
      (adds_told (IsResolved g.classes interface at) (IsSelectedGift g class) r old new tells adds)

module _ (g : Given) (groups : Grouped) (old new : List Member) where
  from_under : (class top : List ℕ) (x : Member) → Crosses g groups (Under class top) x
      → Each (groups.called top) (OfCall g class) x
  from_under class top x (called _ _ call _ stands choice) = (call, stands, choice)

  pub under_crosses : (class top : List ℕ)
      → Adds (Each (groups.called top) (OfCall g class)) old new
      → Adds (Crosses g groups (Under class top)) old new
  under_crosses class top adds =
      adds_same (Each (groups.called top) (OfCall g class))
      (Crosses g groups (Under class top)) old new (λ x h. called class top h.0 x h.1 h.2) (from_under class top) adds

  from_called : (at : MethodId) (interface : Bool) (x : Member) → Crosses g groups (Called at interface) x
      → Each (groups.under at.class) (OfClass g at interface) x
  from_called at interface x (under class _ _ _ stands choice) = (class, stands, choice)

  pub called_crosses : (at : MethodId) (interface : Bool)
      → Adds (Each (groups.under at.class) (OfClass g at interface)) old new
      → Adds (Crosses g groups (Called at interface)) old new
  called_crosses at interface adds =
      adds_same (Each (groups.under at.class) (OfClass g at interface))
      (Crosses g groups (Called at interface)) old new
      (λ x h. under h.0 at interface x h.1 h.2) (from_called at interface) adds
