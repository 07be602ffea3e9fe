use Rattle.std.proofs.Common.{◌≡◌, ℕ, List, Some, None, length, refl}
use Rattle.std.specs.Prelude.{slice_get}
use Rattle.std.proofs.lemmas.Option.{slice_get_read, slice_get_past}
use Rattle.cf_pool.specs.declared.entry.PoolEntry.{PoolEntry}
use Rattle.cf_bodies.specs.declared.need.PoolKind.TheVariants.{PlainClass}
use Rattle.cf_bodies.proofs.KindLemmas.{finds, found, is_of, none_found, plain_there, nothing_wrong}
use Rattle.cf_bodies.proofs.need.has_kind.Goals as goal

pub returns-in-PlainClass-default : goal.returns-in-PlainClass-default
returns-in-PlainClass-default c =
    let pool : List PoolEntry = c.args.pool.now in
    let index : ℕ = c.args.index in
    let decided = c.plain_class_decided.ensures pool index in
    let r = c.wrong_index.result in
    let kind : c.args.kind ≡ PlainClass = c.in-PlainClass-default.is-0 in
    rw kind (
      λ t. plain_there pool index decided r c.is_none.result c.wrong_index.ensures c.is_none.ensures t,
      λ h. nothing_wrong pool index decided r c.is_none.result c.wrong_index.ensures c.is_none.ensures h,
    )

pub returns-in_default-Some : goal.returns-in_default-Some
returns-in_default-Some c =
    let pool : List PoolEntry = c.args.pool.now in
    let h = c.in_default-Some.ensures.lookup in
    let at = slice_get_read pool (length pool) c.from.result c.in_default-Some.entry.now refl h.3.0 h.1 in
    let same = c.from.ensures in
    let e : slice_get pool c.args.index ≡ Some c.in_default-Some.entry.now = cc in
    let other = c.in_default-Some.not-PlainClass-0 in
    let is = c.is_of_kind.ensures in (
      λ t. finds pool c.args.index c.args.kind other (c.in_default-Some.entry.now, e, is.0 t),
      λ k. is.1 (is_of pool c.args.index c.args.kind c.in_default-Some.entry.now e (found pool c.args.index
          c.args.kind other k)),
    )

pub returns-in_default-None : goal.returns-in_default-None
returns-in_default-None c =
    let pool : List PoolEntry = c.args.pool.now in
    let at = slice_get_past pool c.from.result c.in_default-None.ensures.lookup.3 in
    let same = c.from.ensures in
    let e : slice_get pool c.args.index ≡ None = cc in
    let other = c.in_default-None.not-PlainClass-0 in (
      λ t. absurd cc,
      λ k. absurd (none_found pool c.args.index c.args.kind e (found pool c.args.index c.args.kind other k)),
    )
