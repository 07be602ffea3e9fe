use Rattle.std.proofs.Common.{ℕ, true, List, sym, subst}
use Rattle.hi_tree.specs.declared.known.Up.TheVariants.{Supertypes}
use Rattle.hi_tree.specs.Supers.{names_above}
use Rattle.hi_tree.specs.Calls.Steps.{IsMarked, above_name, known_of}
use Rattle.hi_tree.specs.Calls.Walking.{mark_of}
use Rattle.hi_tree.proofs.ShadeLemmas.{shade_none, shade_more, shade_all}
use Rattle.hi_tree.proofs.candidate.shade_above.Goals as goal

pub loop-above-init : goal.loop-above-init
loop-above-init c = shade_none (names_above Supertypes (known_of c.args.class)) (mark_of c.args.shaded.now)

pub loop-above-preserved : goal.loop-above-preserved
loop-above-preserved c =
    shade_more (names_above Supertypes (known_of c.args.class)) (mark_of c.args.shaded.now)
    (mark_of c.loop-above.shaded)
    (mark_of c.set_mark.new.marks) c.loop-above.place (above_name c.in-Some.above) (sym c.in-Some.ensures.value)
    (subst (λ (n : List ℕ). IsMarked (mark_of c.loop-above.shaded) n true (mark_of c.set_mark.new.marks))
    c.text.ensures c.in_ok-set_mark.ensures) c.loop-above.invariant

pub returns : goal.returns
returns c =
    shade_all (names_above Supertypes (known_of c.args.class)) (mark_of c.args.shaded.now) (mark_of c.loop-above.shaded)
    c.loop-above.place (sym c.in_default.ensures.value) c.loop-above.invariant
