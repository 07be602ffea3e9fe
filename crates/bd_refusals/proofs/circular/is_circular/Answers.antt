-- The classes that were found are the class and those above it.
use Rattle.std.proofs.Common.{List, ℕ, Contains, slice_index_or, refl, sym, subst, rules}
use Rattle.hi_tree.specs.declared.known.Up.TheVariants.{Supertypes}
use Rattle.hi_tree.specs.Subtypes.{supertypes}
use Rattle.hi_inputs.specs.Upward.{AreUpward}
use Rattle.bd_refusals.proofs.CircularLemmas.{any_start, is_circular}
use Rattle.bd_refusals.proofs.circular.is_circular.Goals as goal

pub found-init : goal.found-init
found-init c =
    let classes = c.args.classes.now in
    let items : List (List ℕ) = c.as_slice-class-items.result.now in
    let upward : AreUpward classes Supertypes c.args.name.now items =
    subst (AreUpward classes Supertypes c.args.name.now) (sym c.as_slice-class-items.ensures.keys)
    c.in_ok-found.ensures in
    any_start classes c.args.name.now items upward

pub returns-then-branch : goal.returns-then-branch
returns-then-branch c =
    let classes = c.args.classes.now in
    let items : List (List ℕ) = c.as_slice-class-items.result.now in
    let upward : AreUpward classes Supertypes c.args.name.now items =
    subst (AreUpward classes Supertypes c.args.name.now) (sym c.as_slice-class-items.ensures.keys)
    c.in_ok-found.ensures in
    let there : Contains items c.class-item.result = search rules in
    let last : Contains (supertypes classes c.class-item.result) c.args.name.now = search rules in
    (λ yes. is_circular classes c.args.name.now c.class-item.result items upward there last, λ h. refl)
