-- The Codes of a file lie in it, and their code is short.
use Rattle.std.proofs.Common.{ℕ, ◌+◌, ◌<◌, ◌≤◌, ◌^◌, List, [], ◌∷◌, ◌++◌, length, arith, length-append}
use Rattle.std.specs.List.{flat_map, AllByRecursion}
use Rattle.jv_list.specs.Places.{each_at}
use Rattle.jv_list.proofs.FirstLemmas.{all_append}
use Rattle.cf_pool.specs.declared.entry.PoolEntry.{PoolEntry}
use Rattle.cf_structure.specs.declared.attribute.Holder.TheVariants.{InMethod}
use Rattle.cf_structure.specs.declared.attribute.BodyKind.{BodyKind}
use Rattle.cf_structure.specs.declared.attribute.BodyKind.TheVariants.{ConstantValue, Code, Other}
use Rattle.cf_structure.specs.Raw.{RawBody, constant, code, skipped, RawAttribute, RawMember, RawFile}
use Rattle.cf_structure.specs.Spelled.{code_text, body_text, attribute_text, member_text, file_text}
use Rattle.cf_structure.specs.Spelled.{FitsBody, FitsAttribute, FitsMember, FitsFile}
use Rattle.cf_bodies.specs.Places.{PlacedCode, body_codes, attribute_codes, method_codes, methods_start, codes}
use Rattle.cf_bodies.specs.Bodies.{IsShort, AreShort}
use Rattle.cf_bodies.specs.Calls.Views.{FitsPlaced}
use Rattle.cf_bodies.proofs.SizeLemmas.{methods_fit}

-- a Code is short, and ends before a place, or at it
pub record EndsBy (high : ℕ) (c : PlacedCode) : Type 0 where
  pub end : c.place + length (code_text c.content) ≤ high
  pub short : IsShort c

AllEnd : ℕ → List PlacedCode → Type 0
AllEnd high cs = AllByRecursion (EndsBy high) cs

later : (low high : ℕ) (cs : List PlacedCode) → low ≤ high → AllEnd low cs → AllEnd high cs
unfolding AllEnd
later low high [] le h = tt
later low high (c ∷ cs) le h =
    let end = h.0.end in
    (record { end = omega arith; short = h.0.short }, later low high cs le h.1)

-- of structures one after the other
module _ {A : Type 0} (one : List A → ℕ → A → List PlacedCode) (text : A → List ℕ) (Fits : A → Type 0)
    (each : (earlier : List A) (place : ℕ) (x : A) → Fits x
    → AllEnd (place + length (text x)) (one earlier place x)) where
  each_ends : (earlier : List A) (place : ℕ) (xs : List A) → AllByRecursion Fits xs
      → AllEnd (place + length (flat_map text xs)) (each_at one text earlier place xs)
  unfolding each_at AllEnd
  each_ends earlier place [] fits = tt
  each_ends earlier place (x ∷ xs) fits =
      let next : ℕ = place + length (text x) in
      let whole = length-append (text x) (flat_map text xs) in
      let high : ℕ = place + length (flat_map text (x ∷ xs)) in
      all_append (EndsBy high) (one earlier place x) (each_at one text (earlier ++ x ∷ []) next xs)
      (later next high (one earlier place x) (omega (arith, whole)) (each earlier place x fits.0))
      (later (next + length (flat_map text xs)) high _ (omega (arith, whole))
      (each_ends (earlier ++ x ∷ []) next xs fits.1))

body_ends : (kind : BodyKind) (place : ℕ) (b : RawBody) → FitsBody kind b
    → AllEnd (place + length (body_text b)) (body_codes place b)
unfolding AllEnd
body_ends kind place (constant index) fits = tt
body_ends kind place (skipped content) fits = tt
body_ends ConstantValue place (code c) fits = absurd fits
body_ends Other place (code c) fits = absurd fits
body_ends Code place (code c) fits = (record { end = omega arith; short = fits.code }, tt)

module _ (pool : List PoolEntry) where
  attribute_ends : (earlier : List RawAttribute) (place : ℕ) (a : RawAttribute) → FitsAttribute InMethod pool a
      → AllEnd (place + length (attribute_text a)) (attribute_codes place a)
  attribute_ends earlier place a fits =
      later (place + 6 + length (body_text a.body)) (place + length (attribute_text a)) (attribute_codes place a)
      (omega arith) (body_ends _ (place + 6) a.body fits.body)

  method_ends : (earlier : List RawMember) (place : ℕ) (m : RawMember) → FitsMember InMethod pool m
      → AllEnd (place + length (member_text m)) (method_codes place m)
  method_ends earlier place m fits =
      later (place + 8 + length (flat_map attribute_text m.attributes)) (place + length (member_text m))
      (method_codes place m) (omega arith)
      (each_ends (λ (before : List RawAttribute). attribute_codes) attribute_text (FitsAttribute InMethod pool)
      attribute_ends [] (place + 8) m.attributes fits.attributes.1)

codes_end : (file : RawFile) → FitsFile file → AllEnd (length (file_text file)) (codes file)
codes_end file fits =
    later (methods_start file + length (flat_map member_text file.class.methods)) (length (file_text file)) (codes file)
    (methods_fit file)
    (each_ends (λ (before : List RawMember). method_codes) member_text (FitsMember InMethod file.pool)
    (method_ends file.pool) [] (methods_start file) file.class.methods fits.class.methods.1)

all_fit : (high : ℕ) (cs : List PlacedCode) → high < 2 ^ 64 → AllEnd high cs → AllByRecursion FitsPlaced cs
unfolding AllEnd
all_fit high [] lt h = tt
all_fit high (c ∷ cs) lt h =
    let end = h.0.end in
    (record { end = omega arith; short = h.0.short }, all_fit high cs lt h.1)

all_short : (high : ℕ) (cs : List PlacedCode) → AllEnd high cs → AllByRecursion IsShort cs
unfolding AllEnd
all_short high [] h = tt
all_short high (c ∷ cs) h = (h.0.short, all_short high cs h.1)

pub codes_fit : (file : RawFile) → FitsFile file → length (file_text file) < 2 ^ 64
    → AllByRecursion FitsPlaced (codes file)
codes_fit file fits lt = all_fit (length (file_text file)) (codes file) lt (codes_end file fits)

pub codes_short : (file : RawFile) → FitsFile file → AreShort file
codes_short file fits = all_short (length (file_text file)) (codes file) (codes_end file fits)
