-- All three.
use Rattle.std.proofs.Common.{subst, rules, ◌⊎◌, []}
use Rattle.bd_core.specs.Loads.{given}
use Rattle.bd_core.specs.Rules.{FromMember}
use Rattle.bd_core.specs.Calls.Groups.{grouped}
use Rattle.bd_core.specs.Calls.Gives.{OfMethod, Crosses}
use Rattle.bd_core.specs.Calls.Adds.{Adds}
use Rattle.bd_core.proofs.AddsLemmas.{adds_both}
use Rattle.bd_core.proofs.crossing.following.Goals as goal

pub returns : goal.returns
returns c =
    let g = given c.args.loaded.now in
    let p = c.args.member.now in
    let begun : Adds (FromMember g p) [] c.put_gifts.new.out =
    subst (λ a. Adds (FromMember g p) a c.put_gifts.new.out) c.new-out.ensures (search rules) in
    adds_both (λ x. FromMember g p x ⊎ OfMethod g p x) (Crosses g (grouped c.args.groups.now) p) []
    c.put_facts_of.new.out
    c.put_crossings.new.out
    (adds_both (FromMember g p) (OfMethod g p) [] c.put_gifts.new.out c.put_facts_of.new.out begun (search rules))
    (search rules)
