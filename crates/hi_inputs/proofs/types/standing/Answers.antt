-- A level more, until there are as many as the depth.
use Rattle.std.proofs.Common.{◌≡◌, ◌<◌, ◌≤◌, ◌+◌, ◌∙◌, length, map, subst, rules, arith}
use Rattle.std.proofs.lemmas.List.{length-map}
use Rattle.hi_inputs.specs.contracts.flat.FlatTypePartialEq.TheImpl as flat_eq
use Rattle.hi_inputs.specs.Types.{StandsWithin}
use Rattle.hi_inputs.specs.Calls.Flat.{field_of_flat}
use Rattle.hi_inputs.specs.Calls.Below.{IsBelow}
use Rattle.hi_inputs.proofs.SameLemmas.{same_types}
use Rattle.hi_inputs.proofs.SetLemmas.{drained}
use Rattle.hi_inputs.proofs.LevelLemmas.{IsLevel, level_step}
use Rattle.hi_inputs.proofs.StandLemmas.{first_taken, next_level, all_stand}
use Rattle.hi_inputs.proofs.types.standing.Goals as goal

pub levels-init : goal.levels-init
levels-init c =
    let ran = c.in_ok-extend.ensures.ran in
    let old = c.new-found.result.keys in
    let new = c.extend.new.self.keys in
    let items = c.in_ok-first_types.field-0 in
    let deep : 1 ≤ c.args.depth = search rules in (
      first_taken c.args.classes.now c.args.entry.now c.args.depth old items new (search rules)
          c.in_ok-first_types.ensures
          (drained (flat_eq.ghosts).eq same_types _ _ ran.0 ran.1 old items new ran.2.2 ran.2.0 ran.3.0 ran.4),
      omega arith,
      deep,
    )

pub levels-preserved : goal.levels-preserved
levels-preserved c =
    let inv = c.levels.invariant in
    let old = c.levels.found.keys in
    let less : c.levels.level < c.args.depth = search rules in
    let seen : length (map field_of_flat old) ≡ length old = length-map old field_of_flat in (
      subst (λ n. IsLevel (IsBelow c.args.classes.now)
          (StandsWithin c.args.classes.now c.args.entry.now c.args.depth)
          (c.levels.level + 1) n (map field_of_flat c.deepen.new.found.keys)) (seen ∙ search rules)
          (level_step (IsBelow c.args.classes.now) (StandsWithin c.args.classes.now c.args.entry.now c.args.depth)
          c.levels.level c.levels.from (map field_of_flat old) (map field_of_flat c.deepen.new.found.keys) inv.0
          c.in_ok-deepen.ensures
          (next_level c.args.classes.now c.args.entry.now c.args.depth c.levels.level inv.1 inv.2)),
      omega arith,
      omega (arith, less),
    )

pub returns : goal.returns
returns c =
    let inv = c.levels.invariant in
    let same : c.levels.level ≡ c.args.depth = search rules in
    all_stand c.args.classes.now c.args.entry.now c.args.depth c.levels.level c.levels.from
    (map field_of_flat c.levels.found.keys) same inv.0
