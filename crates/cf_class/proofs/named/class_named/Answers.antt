use Rattle.std.proofs.Common.{◌≡◌, Some, length, refl}
use Rattle.std.specs.Prelude.{slice_get}
use Rattle.std.proofs.lemmas.Option.{slice_get_read}
use Rattle.cf_pool.specs.declared.entry.PoolEntry.TheVariants.{Class}
use Rattle.cf_class.proofs.NameLemmas.{text_there, class_is}
use Rattle.cf_class.proofs.named.class_named.Goals as goal

pub text_named-requires-clause-content : goal.text_named-requires-clause-content
text_named-requires-clause-content c =
    let pool = c.args.names.now.pool.now in
    let h = c.in-Some-Class.ensures.lookup in
    let at = slice_get_read pool (length pool) c.from.result c.in-Some-Class.field-0.now refl h.3.0 h.1 in
    let same = c.from.ensures in
    let is = c.in-Some-Class.field-0-is in
    let e : slice_get pool c.args.index ≡ Some (Class c.in-Some-Class.name_index) = cc in
    text_there pool c.args.index c.in-Some-Class.name_index e c.requires.content

pub returns : goal.returns
returns c =
    let pool = c.args.names.now.pool.now in
    let h = c.in-Some-Class.ensures.lookup in
    let at = slice_get_read pool (length pool) c.from.result c.in-Some-Class.field-0.now refl h.3.0 h.1 in
    let same = c.from.ensures in
    let is = c.in-Some-Class.field-0-is in
    let e : slice_get pool c.args.index ≡ Some (Class c.in-Some-Class.name_index) = cc in
    class_is pool c.args.index c.in-Some-Class.name_index e c.in_ok-text.text c.in_ok-text.ensures
