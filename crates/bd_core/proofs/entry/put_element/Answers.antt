-- The class of the type.
use Rattle.std.proofs.Common.{◌≡◌, Some, None, ap, sym, ◌∙◌, rules}
use Rattle.std.specs.Prelude.{option_copied}
use Rattle.std.proofs.lemmas.Option.{none-some}
use Rattle.std.proofs.lemmas.Result.{on_ok_weaker}
use Rattle.jv_base.specs.Types.{field_of}
use Rattle.bd_core.specs.declared.member.Member.TheVariants.{Known}
use Rattle.bd_core.proofs.AddsLemmas.{adds_is}
use Rattle.bd_core.proofs.EntryLemmas.{element_gift, no_element}
use Rattle.bd_core.proofs.entry.put_element.Goals as goal

pub returns-in_ok-copy-in-Some : goal.returns-in_ok-copy-in-Some
returns-in_ok-copy-in-Some c =
    let n = c.in-Some.name.now in
    let found : option_copied c.element_class.result ≡ Some n = search rules in
    let same : c.in_ok-copy-in-Some.field-0 ≡ n = search rules in
    on_ok_weaker c.put.result
    (λ h. element_gift (field_of c.args.ty.now) n ((c.element_class.ensures n).0 found) _ _
    (adds_is (Known c.in_ok-copy-in-Some.field-0) (Known n) _ _ (ap Known same) h)) c.put.ensures

pub returns-in-None : goal.returns-in-None
returns-in-None c =
    let none : option_copied c.element_class.result ≡ None = search rules in
    no_element (field_of c.args.ty.now) c.args.out.now
    (λ n e. none-some n (sym none ∙ (c.element_class.ensures n).1 e))
