-- The types of all classes upward are those that objects have.
use Rattle.std.proofs.Common.{ℕ, List, [], refl, sym, subst, rules}
use Rattle.hi_tree.specs.Inputs.{HasField}
use Rattle.hi_tree.specs.declared.known.Up.TheVariants.{Superclasses}
use Rattle.hi_inputs.specs.Upward.{AreUpward}
use Rattle.hi_inputs.specs.Calls.Below.{DeclaresType}
use Rattle.hi_inputs.proofs.AddLemmas.{Each, adds_all, each_none, each_step, each_end}
use Rattle.hi_inputs.proofs.BelowLemmas.{has_each}
use Rattle.hi_inputs.proofs.fields.field_types.Goals as goal

pub classes-init : goal.classes-init
classes-init c = rw c.new-types.ensures (each_none (DeclaresType c.args.classes.now) [])

pub classes-preserved : goal.classes-preserved
classes-preserved c =
    each_step (DeclaresType c.args.classes.now) [] c.as_slice-above-items.result.now c.classes.above-index
    c.above-item.result
    c.classes.types c.put_declared.new.out (search rules) (search rules) c.classes.invariant (search rules)

pub returns : goal.returns
returns c =
    let classes = c.args.classes.now in
    let items : List (List ℕ) = c.as_slice-above-items.result.now in
    let upward : AreUpward classes Superclasses c.args.class.now items =
    subst (AreUpward classes Superclasses c.args.class.now) (sym c.as_slice-above-items.ensures.keys)
    c.in_ok-found.ensures in
    adds_all (Each (DeclaresType classes) items) (HasField classes c.args.class.now) [] c.classes.types refl
    (has_each classes c.args.class.now items upward)
    (each_end (DeclaresType classes) [] items c.classes.above-index c.classes.types c.classes-test.false
    c.classes.invariant)
