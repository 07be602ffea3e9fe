-- A method with code is lacked where it wants a receiver that there is not.
use Rattle.std.proofs.Common.{◌≡◌, Some, None, rules}
use Rattle.cf_class.specs.Members.{member_in, code_in}
use Rattle.bd_refusals.specs.Refusals.{no_receiver}
use Rattle.bd_refusals.proofs.EntryLemmas.{wants_receiver}
use Rattle.bd_refusals.proofs.entry.lacks_method.Goals as goal

pub returns-else-is_none : goal.returns-else-is_none
returns-else-is_none c =
    let class = c.args.class.now in
    let entry = c.args.entry.now in
    let m = c.in-Some.method.now in
    let declared : member_in entry.name entry.desc class.methods ≡ Some m = search rules in
    let coded : code_in m.attributes ≡ None → ⊥ = search rules in (
      λ yes. no_receiver m declared (c.has_no_object.ensures.0 yes),
      λ lacks. c.has_no_object.ensures.1 (wants_receiver class entry m declared coded lacks),
    )
