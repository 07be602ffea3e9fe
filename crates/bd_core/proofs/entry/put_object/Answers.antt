-- The class of the type.
use Rattle.std.proofs.Common.{◌≡◌, Some, None, sym, ◌∙◌, rules}
use Rattle.std.specs.Prelude.{option_copied}
use Rattle.std.proofs.lemmas.Option.{none-some}
use Rattle.std.proofs.lemmas.Result.{on_ok_weaker}
use Rattle.jv_base.specs.Types.{field_of}
use Rattle.bd_core.proofs.EntryLemmas.{object_gift, no_object}
use Rattle.bd_core.proofs.entry.put_object.Goals as goal

pub returns-in-Some : goal.returns-in-Some
returns-in-Some c =
    let n = c.in-Some.name.now in
    let found : option_copied c.class_of.result ≡ Some n = search rules in
    on_ok_weaker c.put_object_of.result
    (object_gift c.args.loaded.now.classes (field_of c.args.ty.now) n ((c.class_of.ensures n).0 found) c.args.out.now
    c.put_object_of.new.out) c.put_object_of.ensures

pub returns-in-None : goal.returns-in-None
returns-in-None c =
    let none : option_copied c.class_of.result ≡ None = search rules in
    no_object c.args.loaded.now.classes (field_of c.args.ty.now) c.args.out.now
    (λ n e. none-some n (sym none ∙ (c.class_of.ensures n).1 e))
