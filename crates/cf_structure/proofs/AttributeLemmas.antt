-- Attributes.
use Rattle.std.proofs.Common.{◌≡◌, ℕ, List, ◌++◌, length, Result, Ok, Err, refl, sym}
use Rattle.std.proofs.Common.{ap, subst, ◌∙◌, arith, cond, eqb}
use Rattle.std.proofs.lemmas.Bool.{eqb-true}
use Rattle.std.proofs.lemmas.List.{nil_from_length}
use Rattle.cf_pool.specs.declared.entry.PoolEntry.{PoolEntry}
use Rattle.cf_structure.specs.declared.fault.Cut.{Cut}
use Rattle.cf_structure.specs.declared.attribute.Holder.{Holder}
use Rattle.cf_structure.specs.declared.attribute.BodyKind.{BodyKind}
use Rattle.cf_structure.specs.declared.attribute.BodyKind.TheVariants.{ConstantValue, Code, Other}
use Rattle.cf_structure.specs.Raw.{RawBody, constant, code, skipped, RawAttribute}
use Rattle.cf_structure.specs.Structure.{◌>>=◌, at_end, bad_length, constant_at, code_at, body_kind, body_at}
use Rattle.cf_structure.specs.Structure.{attribute_at}
use Rattle.cf_structure.specs.Spelled.{two, four, body_text, attribute_text, IsTwo, FitsBody, FitsAttribute}
use Rattle.cf_structure.proofs.ReadLemmas.{AreBytes, Takes, Reads, ReadsAll, ok_is, bind_ok, passed, joins, at_end_of}
use Rattle.cf_structure.proofs.ReadLemmas.{step}
use Rattle.cf_structure.proofs.ReadLemmas.{again_to_end}
use Rattle.cf_structure.proofs.ReadLemmas.{AreBytes-front, two_reads, four_reads, bytes_reads}
use Rattle.cf_structure.proofs.CodeLemmas.{code_reads}

constant_reads : (holder : Cut) → ReadsAll (constant_at holder) two IsTwo
unfolding constant_at
constant_reads holder = record {
  takes = λ bytes x fits e.
      let a = step (two_reads holder) bytes _ x fits e in
      let g = passed (eqb (length a.rest) 0) holder _ x a.then_is in
      subst (λ (y : ℕ). (bytes ≡ two y) × IsTwo y) (ok_is _ x g.1)
      (at_end_of a.takes (nil_from_length a.rest (eqb-true _ _ g.0)), a.fits);
  again = λ index fits.
      ap (λ (r : Result (ℕ × List ℕ) Cut). r >>= λ i. cond (eqb (length i.1) 0) (Ok i.0) (Err holder))
      (again_to_end (two_reads holder) index fits);
}

-- what is read of a content, and what is spelled so
body_takes : (kind : BodyKind) (holder : Cut) (behind : ℕ) (bytes : List ℕ) (body : RawBody) → AreBytes bytes
    → body_at kind holder behind bytes ≡ Ok body → (bytes ≡ body_text body) × FitsBody kind body
unfolding body_at
body_takes ConstantValue holder behind bytes body fits e =
    let b = bind_ok (constant_at holder bytes) (λ index. Ok (constant index)) body e in
    subst (λ (y : RawBody). (bytes ≡ body_text y) × FitsBody ConstantValue y) (ok_is _ body b.2)
    ((constant_reads holder).takes bytes b.0 fits b.1)
body_takes Code holder behind bytes body fits e =
    let b = bind_ok (code_at holder behind bytes) (λ c. Ok (code c)) body e in
    subst (λ (y : RawBody). (bytes ≡ body_text y) × FitsBody Code y) (ok_is _ body b.2)
    ((code_reads holder behind).takes bytes b.0 fits b.1)
body_takes Other holder behind bytes body fits e =
    subst (λ (y : RawBody). (bytes ≡ body_text y) × FitsBody Other y) (ok_is (skipped bytes) body e) (refl, tt)

body_again : (kind : BodyKind) (holder : Cut) (behind : ℕ) (body : RawBody) → FitsBody kind body
    → body_at kind holder behind (body_text body) ≡ Ok body
unfolding body_at
body_again ConstantValue holder behind (constant index) fits = rw ((constant_reads holder).again index fits) refl
body_again ConstantValue holder behind (code c) fits = absurd fits
body_again ConstantValue holder behind (skipped content) fits = absurd fits
body_again Code holder behind (constant index) fits = absurd fits
body_again Code holder behind (code c) fits = rw ((code_reads holder behind).again c fits) refl
body_again Code holder behind (skipped content) fits = absurd fits
body_again Other holder behind (constant index) fits = absurd fits
body_again Other holder behind (code c) fits = absurd fits
body_again Other holder behind (skipped content) fits = refl

pub attribute_reads : (place : Holder) (pool : List PoolEntry)
    → Reads (attribute_at place pool) attribute_text (FitsAttribute place pool)
unfolding attribute_at
attribute_reads place pool = record {
  takes = λ bytes x fits e.
      let a = step (two_reads at_end) bytes _ x fits e in
      let b = step (four_reads at_end) a.rest _ x a.takes.rest_fits a.then_is in
      let c = step (bytes_reads at_end b.value) b.rest _ x b.takes.rest_fits b.then_is in
      let kind = body_kind place pool a.value in
      let d = bind_ok (body_at kind (bad_length (length a.rest)) (length c.rest) c.value) _ x c.then_is in
      let body = body_takes kind (bad_length (length a.rest)) (length c.rest) c.value d.0
      (AreBytes-front b.rest c.value c.rest b.takes.rest_fits c.takes.parts) d.1 in
      let made : RawAttribute = record { name = a.value; body = d.0 } in
      let size : length (body_text d.0) ≡ b.value = ap length (sym body.0) ∙ c.fits in
      let content : Takes b.rest (body_text d.0) c.rest = subst (λ (t : List ℕ). Takes b.rest t c.rest) body.0 c.takes
      in
      let text : Takes bytes (attribute_text made) c.rest =
      subst (λ (n : ℕ). Takes bytes (two a.value ++ (four n ++ body_text d.0)) c.rest) (sym size)
      (joins a.takes (joins b.takes content)) in
      subst (λ (y : RawAttribute × List ℕ). Takes bytes (attribute_text y.0) y.1 × FitsAttribute place pool y.0)
      (ok_is _ x d.2) (text, record { name = a.fits; body = body.1; content = omega (arith, b.fits, size) });
  again = λ a rest fits.
      let t = body_text a.body in
      let c = t ++ rest in
      let b = four (length t) ++ c in
      rw (
        (two_reads at_end).again a.name b fits.name,
        (four_reads at_end).again (length t) c fits.content,
        (bytes_reads at_end (length t)).again t rest refl,
        body_again (body_kind place pool a.name) (bad_length (length b)) (length rest) a.body fits.body,
      ) refl;
}
