-- The classes directly above are taken in.
use Rattle.std.proofs.Common.{◌≡◌, ℕ, List, Some, Contains, slice_get, sym, subst, rules}
use Rattle.std.specs.Prelude.{◌↔◌}
use Rattle.std.proofs.lemmas.Result.{on_ok_weaker}
use Rattle.jv_base.specs.contracts.name.NamePartialEq.TheImpl as name_eq
use Rattle.hi_inputs.specs.Upward.{names_up}
use Rattle.hi_inputs.specs.Calls.Below.{IsSuperOf}
use Rattle.hi_inputs.proofs.SameLemmas.{same_names}
use Rattle.hi_inputs.proofs.SetLemmas.{extended}
use Rattle.hi_inputs.proofs.GrowLemmas.{follows}
use Rattle.hi_inputs.proofs.above.climb.Goals as goal

pub returns : goal.returns
returns c =
    let ran = c.extend.ensures.ran in
    let class : List ℕ = c.in-Some.class.now in
    let at : slice_get c.args.found.now.keys c.args.place ≡ Some class = search rules in
    let is : c.in_ok-above.above ≡ names_up c.args.classes.now c.args.up class = c.in_ok-above.ensures in
    let exact : (x : List ℕ) → Contains c.in_ok-above.above x ↔ IsSuperOf c.args.classes.now c.args.up class x =
    λ x. (λ h. subst (λ l. Contains l x) is h, λ h. subst (λ l. Contains l x) (sym is) h) in
    on_ok_weaker c.extend.result
    (follows (IsSuperOf c.args.classes.now c.args.up) c.args.found.now.keys c.in_ok-above.above c.extend.new.self.keys
    c.args.place class at exact)
    (extended (name_eq.ghosts).eq same_names _ _ ran.0 ran.1 c.args.found.now.keys c.in_ok-above.above
    c.extend.new.self.keys _ c.extend.result ran.2.2 ran.2.0 ran.3.0 ran.4)
