-- Fields, methods, and what stands behind the pool.
use Rattle.std.proofs.Common.{◌≡◌, ℕ, ◌≤◌, true, List, ◌++◌, length, Ok, refl}
use Rattle.std.proofs.Common.{subst, arith, rules, eqb}
use Rattle.std.proofs.lemmas.Bool.{eqb-true}
use Rattle.std.proofs.lemmas.List.{nil_from_length}
use Rattle.std.specs.Int.{w16}
use Rattle.cf_pool.specs.declared.entry.PoolEntry.{PoolEntry}
use Rattle.cf_structure.specs.declared.attribute.Holder.{Holder}
use Rattle.cf_structure.specs.declared.attribute.Holder.TheVariants.{InClass, InField, InMethod}
use Rattle.cf_structure.specs.declared.class_file.Version.{Version}
use Rattle.cf_structure.specs.Raw.{RawMember, RawClass}
use Rattle.cf_structure.specs.Structure.{at_end, number_at, counted_at, attribute_at, member_at, class_at, magic_at}
use Rattle.cf_structure.specs.Structure.{is_major, version_at}
use Rattle.cf_structure.specs.Spelled.{two, four, counted_text, attribute_text, member_text, class_text, version_text}
use Rattle.cf_structure.specs.Spelled.{IsTwo, AreFew}
use Rattle.cf_structure.specs.Spelled.{FitsAttribute, FitsMember, FitsClass, FitsVersion}
use Rattle.cf_structure.proofs.ReadLemmas.{AreBytes, Takes, Reads, ReadsAll, ok_is, bind_ok, passed, joins, at_end_of}
use Rattle.cf_structure.proofs.ReadLemmas.{step}
use Rattle.cf_structure.proofs.ReadLemmas.{again_to_end}
use Rattle.cf_structure.proofs.ReadLemmas.{two_reads, four_reads, counted_reads}
use Rattle.cf_structure.proofs.AttributeLemmas.{attribute_reads}

pub attributes_read : (place : Holder) (pool : List PoolEntry)
    → Reads (counted_at at_end (attribute_at place pool)) (counted_text attribute_text)
    (AreFew (FitsAttribute place pool))
attributes_read place pool = counted_reads (attribute_at place pool) attribute_text (FitsAttribute place pool)
    (attribute_reads place pool) at_end

member_reads : (place : Holder) (pool : List PoolEntry)
    → Reads (member_at place pool) member_text (FitsMember place pool)
unfolding member_at
member_reads place pool = let r = two_reads at_end in let read_attributes = attributes_read place pool in record {
  takes = λ bytes x fits e.
      let a = step r bytes _ x fits e in
      let b = step r a.rest _ x a.takes.rest_fits a.then_is in
      let c = step r b.rest _ x b.takes.rest_fits b.then_is in
      let d = step read_attributes c.rest _ x c.takes.rest_fits c.then_is in
      subst (λ (y : RawMember × List ℕ). Takes bytes (member_text y.0) y.1 × FitsMember place pool y.0)
      (ok_is _ x d.then_is) (
        joins a.takes (joins b.takes (joins c.takes d.takes)),
        record { flags = a.fits; name = b.fits; desc = c.fits; attributes = d.fits },
      );
  again = λ m rest fits.
      let d = counted_text attribute_text m.attributes ++ rest in
      let c = two m.desc ++ d in
      let b = two m.name ++ c in
      rw (
        r.again m.flags b fits.flags,
        r.again m.name c fits.name,
        r.again m.desc d fits.desc,
        read_attributes.again m.attributes rest fits.attributes,
      ) refl;
}

pub members_read : (place : Holder) (pool : List PoolEntry)
    → Reads (counted_at at_end (member_at place pool)) (counted_text member_text) (AreFew (FitsMember place pool))
members_read place pool = counted_reads (member_at place pool) member_text (FitsMember place pool)
    (member_reads place pool) at_end

pub class_reads : (pool : List PoolEntry) → ReadsAll (class_at pool) class_text (FitsClass pool)
unfolding class_at
class_reads pool =
    let r = two_reads at_end in
    let read_interfaces = counted_reads (number_at at_end w16) two IsTwo r at_end in
    let read_fields = members_read InField pool in
    let read_methods = members_read InMethod pool in
    let read_attributes = attributes_read InClass pool in
    record {
      takes = λ bytes x fits e.
          let a = step r bytes _ x fits e in
          let b = step r a.rest _ x a.takes.rest_fits a.then_is in
          let c = step r b.rest _ x b.takes.rest_fits b.then_is in
          let d = step read_interfaces c.rest _ x c.takes.rest_fits c.then_is in
          let f = step read_fields d.rest _ x d.takes.rest_fits d.then_is in
          let m = step read_methods f.rest _ x f.takes.rest_fits f.then_is in
          let s = step read_attributes m.rest _ x m.takes.rest_fits m.then_is in
          let g = passed (eqb (length s.rest) 0) _ _ x s.then_is in
          let all =
          joins a.takes (joins b.takes (joins c.takes (joins d.takes (joins f.takes (joins m.takes s.takes))))) in
          subst (λ (y : RawClass). (bytes ≡ class_text y) × FitsClass pool y) (ok_is _ x g.1) (
            at_end_of all (nil_from_length s.rest (eqb-true _ _ g.0)),
            record {
              flags = a.fits;
              this_class = b.fits;
              super_class = c.fits;
              interfaces = d.fits;
              fields = f.fits;
              methods = m.fits;
              attributes = s.fits;
            },
          );
      again = λ k fits.
          let s = counted_text attribute_text k.attributes in
          let m = counted_text member_text k.methods ++ s in
          let f = counted_text member_text k.fields ++ m in
          let d = counted_text two k.interfaces ++ f in
          let c = two k.super_class ++ d in
          let b = two k.this_class ++ c in
          rw (
            r.again k.flags b fits.flags,
            r.again k.this_class c fits.this_class,
            r.again k.super_class d fits.super_class,
            read_interfaces.again k.interfaces f fits.interfaces,
            read_fields.again k.fields m fits.fields,
            read_methods.again k.methods s fits.methods,
            again_to_end read_attributes k.attributes fits.attributes,
          ) refl;
    }

-- ---- the version

accepted : (n : ℕ) → is_major n ≡ true → (45 ≤ n) × (n ≤ 52)
unfolding is_major
accepted n e = search rules

accepted_again : (n : ℕ) → 45 ≤ n → n ≤ 52 → is_major n ≡ true
unfolding is_major
accepted_again n first last = search rules

magic_takes : (bytes rest : List ℕ) → AreBytes bytes → magic_at bytes ≡ Ok rest → Takes bytes (four 0xcafebabe) rest
unfolding magic_at
magic_takes bytes rest fits e =
    let a = step (four_reads at_end) bytes _ rest fits e in
    let g = passed (eqb a.value 0xcafebabe) _ _ rest a.then_is in
    subst (λ (r : List ℕ). Takes bytes (four 0xcafebabe) r) (ok_is a.rest rest g.1)
    (subst (λ (n : ℕ). Takes bytes (four n) a.rest) (eqb-true _ _ g.0) a.takes)

magic_again : (rest : List ℕ) → magic_at (four 0xcafebabe ++ rest) ≡ Ok rest
unfolding magic_at
magic_again rest = rw ((four_reads at_end).again 0xcafebabe rest (omega arith)) refl

pub version_reads : Reads version_at version_text FitsVersion
unfolding version_at
version_reads = let r = two_reads at_end in record {
  takes = λ bytes x fits e.
      let m = bind_ok (magic_at bytes) _ x e in
      let magic = magic_takes bytes m.0 fits m.1 in
      let a = step r m.0 _ x magic.rest_fits m.2 in
      let b = step r a.rest _ x a.takes.rest_fits a.then_is in
      let g = passed (is_major b.value) _ _ x b.then_is in
      let range = accepted b.value g.0 in
      subst (λ (y : Version × List ℕ). Takes bytes (version_text y.0) y.1 × FitsVersion y.0) (ok_is _ x g.1)
      (joins magic (joins a.takes b.takes), record { minor = a.fits; first = range.0; last = range.1 });
  again = λ v rest fits.
      let b = two v.major ++ rest in
      rw (
        magic_again (two v.minor ++ b),
        r.again v.minor b fits.minor,
        r.again v.major rest (omega (arith, fits.last)),
        accepted_again v.major fits.first fits.last,
      ) refl;
}
