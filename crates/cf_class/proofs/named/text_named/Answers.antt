use Rattle.std.proofs.Common.{◌≡◌, Some, length, refl}
use Rattle.std.specs.Prelude.{slice_get}
use Rattle.std.proofs.lemmas.Option.{slice_get_read}
use Rattle.cf_class.proofs.NameLemmas.{some_name, name_is}
use Rattle.cf_class.proofs.named.text_named.Goals as goal

pub unreachable-requires-in_default-name : goal.unreachable-requires-in_default-name
unreachable-requires-in_default-name c =
    let names = c.args.names.now in
    let h = c.in-Some-Some.ensures.lookup in
    let at = slice_get_read names.texts.now (length names.texts.now) c.from.result c.in-Some-Some.field-0.now refl
    h.3.0 h.1 in
    let same = c.from.ensures in
    let is = c.in-Some-Some.field-0-is in
    let e : slice_get names.texts.now c.args.index ≡ Some (Some c.in-Some-Some.text) = cc in
    some_name names.pool.now names.texts.now c.args.index c.requires.names c.requires.content c.in-Some-Some.text e
    c.in_default-name.is

pub returns : goal.returns
returns c =
    let names = c.args.names.now in
    let h = c.in-Some-Some.ensures.lookup in
    let at = slice_get_read names.texts.now (length names.texts.now) c.from.result c.in-Some-Some.field-0.now refl
    h.3.0 h.1 in
    let same = c.from.ensures in
    let is = c.in-Some-Some.field-0-is in
    let e : slice_get names.texts.now c.args.index ≡ Some (Some c.in-Some-Some.text) = cc in
    name_is names.pool.now names.texts.now c.args.index c.requires.names c.requires.content c.in-Some-Some.text e
    c.in-Some.name c.in_ok-copy.field-0 c.in-Some.is c.in_ok-copy.ensures
