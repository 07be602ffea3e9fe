-- The types as they nest.
use Rattle.std.proofs.Common.{◌≡◌, map, sym, subst, rules}
use Rattle.std.proofs.lemmas.Result.{IfOk-weaker}
use Rattle.jv_base.specs.Types.{field_of}
use Rattle.hi_inputs.specs.Types.{AreOnce, AreStanding, AreInputTypes}
use Rattle.hi_inputs.specs.Calls.Flat.{field_of_flat}
use Rattle.hi_inputs.proofs.OnceLemmas.{once_types}
use Rattle.hi_inputs.proofs.types.input_types.Goals as goal

pub returns-clause-value : goal.returns-clause-value
returns-clause-value c =
    let found = c.in_ok-found.found in
    IfOk-weaker c.nested_types.result (λ types. map field_of types ≡ map field_of_flat found.keys)
    (AreInputTypes c.args.classes.now c.args.entry.now c.args.depth)
    (λ types e. subst (AreStanding c.args.classes.now c.args.entry.now c.args.depth) (sym e) c.in_ok-found.ensures)
    (search rules)

pub returns-clause-once : goal.returns-clause-once
returns-clause-once c =
    let found = c.in_ok-found.found in
    IfOk-weaker c.nested_types.result (λ types. map field_of types ≡ map field_of_flat found.keys)
    (λ types. AreOnce (map field_of types))
    (λ types e. subst (λ ts. AreOnce ts) (sym e) (once_types found.keys c.as_slice.ensures.unique))
    (search rules)
