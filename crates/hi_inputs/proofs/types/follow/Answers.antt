-- The types below are taken in.
use Rattle.std.proofs.Common.{◌≡◌, Some, map, slice_get, ap, ◌∙◌, rules}
use Rattle.std.specs.Option.{option_map}
use Rattle.std.proofs.lemmas.Option.{slice_get-map}
use Rattle.std.proofs.lemmas.Result.{on_ok_weaker}
use Rattle.hi_inputs.specs.declared.flat.FlatType.{FlatType}
use Rattle.hi_inputs.specs.contracts.flat.FlatTypePartialEq.TheImpl as flat_eq
use Rattle.hi_inputs.specs.Calls.Flat.{field_of_flat}
use Rattle.hi_inputs.specs.Calls.Below.{IsBelow}
use Rattle.hi_inputs.proofs.SameLemmas.{same_types}
use Rattle.hi_inputs.proofs.SetLemmas.{extended, takes_seen}
use Rattle.hi_inputs.proofs.GrowLemmas.{follows}
use Rattle.hi_inputs.proofs.types.follow.Goals as goal

pub returns : goal.returns
returns c =
    let ran = c.extend.ensures.ran in
    let old = c.args.found.now.keys in
    let new = c.extend.new.self.keys in
    let below = c.in_ok-below.below in
    let ty : FlatType = c.in-Some.ty.now in
    let at : slice_get old c.args.place ≡ Some ty = search rules in
    let seen : slice_get (map field_of_flat old) c.args.place ≡ Some (field_of_flat ty) =
    slice_get-map field_of_flat old c.args.place ∙ ap (option_map field_of_flat) at in
    on_ok_weaker c.extend.result
    (λ takes.
    follows (IsBelow c.args.classes.now) (map field_of_flat old) (map field_of_flat below) (map field_of_flat new)
    c.args.place (field_of_flat ty) seen c.in_ok-below.ensures (takes_seen field_of_flat old below new takes))
    (extended (flat_eq.ghosts).eq same_types _ _ ran.0 ran.1 old below new _ c.extend.result ran.2.2 ran.2.0 ran.3.0
    ran.4)
