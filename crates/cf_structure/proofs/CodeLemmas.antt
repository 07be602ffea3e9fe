-- The content of a Code.
use Rattle.std.proofs.Common.{◌≡◌, ℕ, ◌+◌, ◌^◌, ◌<◌, true, List, ◌++◌, length, refl}
use Rattle.std.proofs.Common.{sym}
use Rattle.std.proofs.Common.{subst, arith, rules, eqb}
use Rattle.std.proofs.lemmas.Bool.{eqb-true}
use Rattle.std.proofs.lemmas.List.{nil_from_length}
use Rattle.cf_structure.specs.declared.fault.Cut.{Cut}
use Rattle.cf_structure.specs.declared.code.Row.{Row}
use Rattle.cf_structure.specs.Raw.{RawSkipped, RawCode}
use Rattle.cf_structure.specs.Structure.{bad_length, bytes_at, row_at, inner_at, is_code_length}
use Rattle.cf_structure.specs.Structure.{code_bytes_at}
use Rattle.cf_structure.specs.Structure.{code_at}
use Rattle.cf_structure.specs.Spelled.{two, four, sized_text, row_text, skipped_text, code_text, counted_text, FitsRow}
use Rattle.cf_structure.specs.Spelled.{FitsSkipped, FitsCode}
use Rattle.cf_structure.proofs.ReadLemmas.{Takes, Reads, ReadsAll, ok_is, passed, joins, at_end_of, step}
use Rattle.cf_structure.proofs.ReadLemmas.{again_to_end}
use Rattle.cf_structure.proofs.ReadLemmas.{two_reads, four_reads, bytes_reads, counted_reads}

pub row_reads : (holder : Cut) → Reads (row_at holder) row_text FitsRow
unfolding row_at
row_reads holder = let r = two_reads holder in record {
  takes = λ bytes x fits e.
      let a = step r bytes _ x fits e in
      let b = step r a.rest _ x a.takes.rest_fits a.then_is in
      let c = step r b.rest _ x b.takes.rest_fits b.then_is in
      let d = step r c.rest _ x c.takes.rest_fits c.then_is in
      subst (λ (y : Row × List ℕ). Takes bytes (row_text y.0) y.1 × FitsRow y.0) (ok_is _ x d.then_is) (
        joins a.takes (joins b.takes (joins c.takes d.takes)),
        record { start = a.fits; end = b.fits; handler = c.fits; catch_type = d.fits },
      );
  again = λ row rest fits.
      let d = two row.catch_type ++ rest in
      let c = two row.handler ++ d in
      let b = two row.end ++ c in
      rw (
        r.again row.start b fits.start,
        r.again row.end c fits.end,
        r.again row.handler d fits.handler,
        r.again row.catch_type rest fits.catch_type,
      ) refl;
}

-- an attribute of a Code, wherever it ends
pub inner_reads : (holder : Cut) (behind : ℕ) → Reads (inner_at holder behind) skipped_text FitsSkipped
unfolding inner_at
inner_reads holder behind = record {
  takes = λ bytes x fits e.
      let a = step (two_reads holder) bytes _ x fits e in
      let b = step (four_reads holder) a.rest _ x a.takes.rest_fits a.then_is in
      let c = step (bytes_reads (bad_length (length a.rest + behind)) b.value) b.rest _ x b.takes.rest_fits b.then_is in
      let text : Takes bytes (skipped_text (record { name = a.value; content = c.value })) c.rest =
      subst (λ (n : ℕ). Takes bytes (two a.value ++ (four n ++ c.value)) c.rest) (sym c.fits)
      (joins a.takes (joins b.takes c.takes)) in
      subst (λ (y : RawSkipped × List ℕ). Takes bytes (skipped_text y.0) y.1 × FitsSkipped y.0) (ok_is _ x c.then_is)
      (text, record { name = a.fits; content = omega (arith, b.fits, c.fits) });
  again = λ s rest fits.
      let c = s.content ++ rest in
      let b = four (length s.content) ++ c in
      rw (
        (two_reads holder).again s.name b fits.name,
        (four_reads holder).again (length s.content) c fits.content,
        (bytes_reads (bad_length (length b + behind)) (length s.content)).again s.content rest refl,
      ) refl;
}

length_in_range : (n : ℕ) → is_code_length n ≡ true → (0 < n) × (n < 2 ^ 16)
unfolding is_code_length
length_in_range n e = search rules

range_of_length : (n : ℕ) → 0 < n → n < 2 ^ 16 → is_code_length n ≡ true
unfolding is_code_length
range_of_length n some few = search rules

abbrev HasLength : List ℕ → Type 0
HasLength code = (0 < length code) × (length code < 2 ^ 16)

code_bytes_read : (holder : Cut) (behind : ℕ) → Reads (code_bytes_at holder behind) sized_text HasLength
unfolding code_bytes_at
code_bytes_read holder behind = record {
  takes = λ bytes x fits e.
      let a = step (four_reads holder) bytes _ x fits e in
      let g = passed (is_code_length a.value) (bad_length (length bytes + behind))
      (bytes_at holder a.value a.rest) x a.then_is in
      let c = (bytes_reads holder a.value).takes a.rest x a.takes.rest_fits g.1 in
      let range = length_in_range a.value g.0 in (
        subst (λ (n : ℕ). Takes bytes (four n ++ x.0) x.1) (sym c.1) (joins a.takes c.0),
        subst (λ (n : ℕ). (0 < n) × (n < 2 ^ 16)) (sym c.1) range,
      );
  again = λ code rest fits.
      rw (
        (four_reads holder).again (length code) (code ++ rest) (omega arith),
        range_of_length (length code) fits.0 fits.1,
        (bytes_reads holder (length code)).again code rest refl,
      ) refl;
}

pub code_reads : (holder : Cut) (behind : ℕ) → ReadsAll (code_at holder behind) code_text FitsCode
unfolding code_at
code_reads holder behind =
    let r = two_reads holder in
    let read_bytes = code_bytes_read holder behind in
    let read_rows = counted_reads (row_at holder) row_text FitsRow (row_reads holder) holder in
    let read_inners = counted_reads (inner_at holder behind) skipped_text FitsSkipped (inner_reads holder behind) holder
    in
    record {
      takes = λ bytes x fits e.
          let a = step r bytes _ x fits e in
          let b = step r a.rest _ x a.takes.rest_fits a.then_is in
          let c = step read_bytes b.rest _ x b.takes.rest_fits b.then_is in
          let d = step read_rows c.rest _ x c.takes.rest_fits c.then_is in
          let f = step read_inners d.rest _ x d.takes.rest_fits d.then_is in
          let g = passed (eqb (length f.rest) 0) holder _ x f.then_is in
          let all = joins a.takes (joins b.takes (joins c.takes (joins d.takes f.takes))) in
          subst (λ (y : RawCode). (bytes ≡ code_text y) × FitsCode y) (ok_is _ x g.1) (
            at_end_of all (nil_from_length f.rest (eqb-true _ _ g.0)),
            record {
              max_stack = a.fits;
              max_locals = b.fits;
              some = c.fits.0;
              code = c.fits.1;
              rows = d.fits;
              attributes = f.fits;
            },
          );
      again = λ code fits.
          let f = counted_text skipped_text code.attributes in
          let d = counted_text row_text code.rows ++ f in
          let c = sized_text code.code ++ d in
          let b = two code.max_locals ++ c in
          rw (
            r.again code.max_stack b fits.max_stack,
            r.again code.max_locals c fits.max_locals,
            read_bytes.again code.code d (fits.some, fits.code),
            read_rows.again code.rows f fits.rows,
            again_to_end read_inners code.attributes fits.attributes,
          ) refl;
    }
