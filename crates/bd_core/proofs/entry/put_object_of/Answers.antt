-- Both, where inputs can have objects of the class.
use Rattle.std.proofs.Common.{◌≡◌, ◌⊎◌, ap, rules}
use Rattle.bd_core.specs.declared.member.Member.TheVariants.{Made, Initialised}
use Rattle.bd_core.specs.Calls.Adds.{Is}
use Rattle.bd_core.specs.Calls.Entry.{CanHave}
use Rattle.bd_core.proofs.AddsLemmas.{adds_is, adds_both, adds_where, adds_unless}
use Rattle.bd_core.proofs.entry.put_object_of.Goals as goal

pub returns-in_ok-put-2 : goal.returns-in_ok-put-2
returns-in_ok-put-2 c =
    let n = c.args.name.now in
    let one : c.in_ok-copy.field-0 ≡ n = search rules in
    let two : c.in_ok-copy-2.field-0 ≡ n = search rules in
    let can : CanHave c.args.loaded.now.classes n = search rules in
    adds_where (CanHave c.args.loaded.now.classes n) (λ x. Is (Made n) x ⊎ Is (Initialised n) x) c.args.out.now _ can
    (adds_both (Is (Made n)) (Is (Initialised n)) c.args.out.now c.put.new.out _
    (adds_is (Made c.in_ok-copy.field-0) (Made n) _ _ (ap Made one) (search rules))
    (adds_is (Initialised c.in_ok-copy-2.field-0) (Initialised n) _ _ (ap Initialised two) (search rules)))

pub returns-else-can_have : goal.returns-else-can_have
returns-else-can_have c =
    let n = c.args.name.now in
    adds_unless (CanHave c.args.loaded.now.classes n) (λ x. Is (Made n) x ⊎ Is (Initialised n) x) c.args.out.now
    (search rules)
