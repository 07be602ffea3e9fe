-- The class is the one that was read, and the method the one that it declares.
use Rattle.std.proofs.Common.{◌≡◌, Some, is_some, rules}
use Rattle.cf_class.specs.Members.{member_in, code_in}
use Rattle.bd_core.specs.Given.{IsRead}
use Rattle.bd_core.proofs.CodeLemmas.{to_code, from_code}
use Rattle.bd_core.proofs.queue.has_code.Goals as goal

pub returns-in-Some-member_in : goal.returns-in-Some-member_in
returns-in-Some-member_in c =
    let classes = c.args.classes.now in
    let m = c.args.method.now in
    let class = c.in-Some.class.now in
    let member = c.in-Some-member_in.found.now in
    let is_read : IsRead classes m.class class = search rules in
    let declared : member_in m.name m.desc class.methods ≡ Some member = search rules in
    let is : c.is_some.result ≡ is_some (code_in member.attributes) = search rules in (
      to_code classes m class is_read member declared c.is_some.result is,
      from_code classes m class is_read member declared c.is_some.result is,
    )
