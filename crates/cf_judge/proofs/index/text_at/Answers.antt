use Rattle.std.proofs.Common.{◌≡◌, Some, None, length, refl}
use Rattle.std.specs.Prelude.{slice_get}
use Rattle.std.proofs.lemmas.Option.{slice_get_read, slice_get_past}
use Rattle.cf_judge.proofs.IndexLemmas.{found, found_none, found_outside}
use Rattle.cf_judge.proofs.index.text_at.Goals as goal

pub returns-in-Some-Some-clause-found : goal.returns-in-Some-Some-clause-found
returns-in-Some-Some-clause-found c =
    let h = c.in-Some-Some.ensures.lookup in
    let at = slice_get_read c.args.texts.now (length c.args.texts.now) c.from.result c.in-Some-Some.field-0.now refl
    h.3.0 h.1 in
    let same = c.from.ensures in
    let is = c.in-Some-Some.field-0-is in
    let e : slice_get c.args.texts.now c.args.index ≡ Some (Some c.in-Some-Some.text) = cc in
    found c.args.pool.now c.args.texts.now c.args.index c.requires c.in-Some-Some.text e

pub returns-in-Some-None-clause-none : goal.returns-in-Some-None-clause-none
returns-in-Some-None-clause-none c =
    let h = c.in-Some-None.ensures.lookup in
    let at = slice_get_read c.args.texts.now (length c.args.texts.now) c.from.result c.in-Some-None.field-0.now refl
    h.3.0 h.1 in
    let same = c.from.ensures in
    let is = c.in-Some-None.field-0-is in
    let e : slice_get c.args.texts.now c.args.index ≡ Some None = cc in
    found_none c.args.pool.now c.args.texts.now c.args.index c.requires e

pub returns-in-None-clause-none : goal.returns-in-None-clause-none
returns-in-None-clause-none c =
    let at = slice_get_past c.args.texts.now c.from.result c.in-None.ensures.lookup.3 in
    let same = c.from.ensures in
    let e : slice_get c.args.texts.now c.args.index ≡ None = cc in
    found_outside c.args.pool.now c.args.texts.now c.args.index c.requires e
