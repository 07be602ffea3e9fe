-- The runs after the store are the locals after it.
use Rattle.std.proofs.Common.{◌≡◌, ◌+◌, ℕ, List, length, ap, ◌∙◌}
use Rattle.ck_shapes.specs.declared.shape.ValueType.{ValueType}
use Rattle.ck_shapes.specs.Shape.{local_at}
use Rattle.ck_shapes.specs.Calls.Runs.{joined, stored_from}
use Rattle.ck_shapes.proofs.LocalLemmas.{Locals}
use Rattle.ck_shapes.proofs.RunLemmas.{stored_is, stored_long}
use Rattle.ck_shapes.proofs.locals.Locals.after_store.Goals as goal

module _ (old new these : List Locals) (all : Locals) (t : ValueType) (index from : ℕ) where
  whole : joined new ≡ stored_from (joined these) t (from + 2) → these ≡ old → joined old ≡ all → from ≡ index
      → joined new ≡ stored_from all t (index + 2)
  whole put same is at =
      put ∙ ap (λ (xs : Locals). stored_from xs t (from + 2)) (ap joined same ∙ is)
      ∙ ap (λ (n : ℕ). stored_from all t (n + 2)) at

pub returns-clause-stored : goal.returns-clause-stored
returns-clause-stored c i =
    let put = whole c.self.inside.runs c.in_ok-stored_runs.field-0 c.as_slice.result.now c.args.self.now c.args.of
    c.args.index c.from.result c.in_ok-stored_runs.ensures c.as_slice.ensures c.self.view_is c.from.ensures in
    ap (λ (xs : Locals). local_at xs i) put ∙ stored_is c.args.self.now c.args.of c.args.index c.requires i

pub returns-clause-long : goal.returns-clause-long
returns-clause-long c =
    let put = whole c.self.inside.runs c.in_ok-stored_runs.field-0 c.as_slice.result.now c.args.self.now c.args.of
    c.args.index c.from.result c.in_ok-stored_runs.ensures c.as_slice.ensures c.self.view_is c.from.ensures in
    ap length put ∙ stored_long c.args.self.now c.args.of (c.args.index + 2)
