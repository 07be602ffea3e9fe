-- The checks of a file rise: what fails of one stands before what fails of the next.
use Rattle.std.proofs.Common.{ℕ, ◌+◌, ◌<◌, ◌≤◌, ◌^◌, List, [], ◌∷◌, ◌++◌, length, refl}
use Rattle.std.proofs.Common.{arith, length-append}
use Rattle.std.specs.List.{flat_map, AllByRecursion}
use Rattle.jv_list.specs.Places.{each_at}
use Rattle.jv_list.proofs.LengthLemmas.{length-flat_map_each}
use Rattle.cf_pool.specs.declared.entry.PoolEntry.{PoolEntry}
use Rattle.cf_pool.specs.declared.fault.What.{What}
use Rattle.cf_structure.specs.declared.code.Row.{Row}
use Rattle.cf_structure.specs.Raw.{RawBody, constant, code, skipped, RawAttribute, RawMember, RawFile}
use Rattle.cf_structure.specs.Spelled.{row_text, code_text, body_text, attribute_text, member_text}
use Rattle.cf_judge.specs.Demands.{rows_place}
use Rattle.cf_bodies.specs.Places.{PlacedCode, body_codes, attribute_codes, method_codes, methods_start, codes}
use Rattle.cf_bodies.specs.Checks.{CheckAt, is_code, row_checks, rows_checks, code_checks, checks}
use Rattle.cf_bodies.specs.Bodies.{IsShort, AreShort}
use Rattle.cf_bodies.specs.Judged.{Fails}
use Rattle.cf_bodies.proofs.SizeLemmas.{code_length}

-- ---- Codes

-- Codes stand one behind the other, between two places
unfoldable pub CodesRise : ℕ → ℕ → List PlacedCode → Type 0
CodesRise low high [] = low ≤ high
CodesRise low high (c ∷ cs) = (low ≤ c.place) × CodesRise (c.place + length (code_text c.content)) high cs

from_lower : (low mid high : ℕ) (cs : List PlacedCode) → low ≤ mid → CodesRise mid high cs → CodesRise low high cs
unfolding CodesRise
from_lower low mid high [] le h = omega arith
from_lower low mid high (c ∷ cs) le h = let at = h.0 in (omega arith, h.1)

up_to : (low mid high : ℕ) (cs : List PlacedCode) → mid ≤ high → CodesRise low mid cs → CodesRise low high cs
unfolding CodesRise
up_to low mid high [] le h = omega arith
up_to low mid high (c ∷ cs) le h = (h.0, up_to (c.place + length (code_text c.content)) mid high cs le h.1)

codes_append : (low mid high : ℕ) (xs ys : List PlacedCode) → CodesRise low mid xs → CodesRise mid high ys
    → CodesRise low high (xs ++ ys)
unfolding CodesRise
codes_append low mid high [] ys h k = from_lower low mid high ys h k
codes_append low mid high (c ∷ xs) ys h k =
    (h.0, codes_append (c.place + length (code_text c.content)) mid high xs ys h.1 k)

module _ {A : Type 0} (one : List A → ℕ → A → List PlacedCode) (text : A → List ℕ)
    (each : (earlier : List A) (place : ℕ) (x : A)
    → CodesRise place (place + length (text x)) (one earlier place x)) where
  each_codes : (earlier : List A) (place : ℕ) (xs : List A)
      → CodesRise place (place + length (flat_map text xs)) (each_at one text earlier place xs)
  unfolding each_at CodesRise
  each_codes earlier place [] = omega arith
  each_codes earlier place (x ∷ xs) =
      let next : ℕ = place + length (text x) in
      let whole = length-append (text x) (flat_map text xs) in
      codes_append place next (place + length (flat_map text (x ∷ xs))) (one earlier place x) _ (each earlier place x)
      (up_to next (next + length (flat_map text xs)) (place + length (flat_map text (x ∷ xs))) _ (omega (arith, whole))
      (each_codes (earlier ++ x ∷ []) next xs))

body_rises : (place : ℕ) (b : RawBody) → CodesRise place (place + length (body_text b)) (body_codes place b)
unfolding CodesRise
body_rises place (constant index) = omega arith
body_rises place (code c) = (omega arith, omega arith)
body_rises place (skipped content) = omega arith

attribute_rises : (earlier : List RawAttribute) (place : ℕ) (a : RawAttribute)
    → CodesRise place (place + length (attribute_text a)) (attribute_codes place a)
attribute_rises earlier place a =
    let end : ℕ = place + length (attribute_text a) in
    from_lower place (place + 6) end (attribute_codes place a) (omega arith)
    (up_to (place + 6) (place + 6 + length (body_text a.body)) end (attribute_codes place a) (omega arith)
    (body_rises (place + 6) a.body))

method_rises : (earlier : List RawMember) (place : ℕ) (m : RawMember)
    → CodesRise place (place + length (member_text m)) (method_codes place m)
method_rises earlier place m =
    let end : ℕ = place + length (member_text m) in
    from_lower place (place + 8) end (method_codes place m) (omega arith)
    (up_to (place + 8) (place + 8 + length (flat_map attribute_text m.attributes)) end (method_codes place m) (omega
    arith)
    (each_codes (λ (before : List RawAttribute). attribute_codes) attribute_text attribute_rises [] (place + 8)
    m.attributes))

codes_rise : (file : RawFile)
    → CodesRise (methods_start file) (methods_start file + length (flat_map member_text file.class.methods)) (codes
    file)
codes_rise file =
    each_codes (λ (before : List RawMember). method_codes) member_text method_rises [] (methods_start file)
    file.class.methods

-- ---- checks

module _ (pool : List PoolEntry) where
  -- what fails of a check stands between two places
  pub record IsWithin (low high : ℕ) (c : CheckAt) : Type 0 where
    pub le : low ≤ high
    pub fails_in : (offset : ℕ) (what : What) → Fails pool c.check offset what
        → (low ≤ c.place + offset) × (c.place + offset < high)

  unfoldable pub Rise : ℕ → ℕ → List CheckAt → Type 0
  Rise low high [] = low ≤ high
  Rise low high (c ∷ cs) = (mid : ℕ) × IsWithin low mid c × Rise mid high cs

  pub lower : (low mid high : ℕ) (cs : List CheckAt) → low ≤ mid → Rise mid high cs → Rise low high cs
  unfolding Rise
  lower low mid high [] le h = omega arith
  lower low mid high (c ∷ cs) le h = (
    h.0,
    record {
      le = let more = h.1.le in omega arith;
      fails_in = λ offset what f. let is = h.1.fails_in offset what f in (omega (arith, is.0), is.1);
    },
    h.2,
  )

  pub higher : (low mid high : ℕ) (cs : List CheckAt) → mid ≤ high → Rise low mid cs → Rise low high cs
  unfolding Rise
  higher low mid high [] le h = omega arith
  higher low mid high (c ∷ cs) le h = (h.0, h.1, higher h.0 mid high cs le h.2)

  pub rise_append : (low mid high : ℕ) (xs ys : List CheckAt) → Rise low mid xs → Rise mid high ys
      → Rise low high (xs ++ ys)
  unfolding Rise
  rise_append low mid high [] ys h k = lower low mid high ys h k
  rise_append low mid high (c ∷ xs) ys h k = (h.0, h.1, rise_append h.0 mid high xs ys h.2 k)

  rows_rise : (bytes : List ℕ) (earlier : List Row) (place : ℕ) (rows : List Row)
      → Rise place (place + length (flat_map row_text rows)) (each_at (λ (e : List Row). row_checks bytes) row_text
      earlier place rows)
  unfolding Rise each_at
  rows_rise bytes earlier place [] = omega arith
  rows_rise bytes earlier place (r ∷ rows) = (
    place + 8,
    record { le = omega arith; fails_in = λ offset what h. let at = h.1 in (omega (arith, at), omega (arith, at)) },
    higher (place + 8) (place + 8 + length (flat_map row_text rows)) (place + length (flat_map row_text (r ∷ rows)))
        (each_at (λ (e : List Row). row_checks bytes) row_text (earlier ++ r ∷ []) (place + 8) rows) (omega arith)
        (rows_rise bytes (earlier ++ r ∷ []) (place + 8) rows),
  )

  -- what fails of bytes fails among them, or at their end
  module _ (inside : (bytes : List ℕ) → length bytes < 2 ^ 16 → (offset : ℕ) (what : What)
      → Fails pool (is_code bytes) offset what
      → offset ≤ length bytes) where
    code_rises : (c : PlacedCode) → IsShort c → Rise c.place (c.place + length (code_text c.content)) (code_checks c)
    unfolding Rise
    code_rises c short =
        let rows : ℕ = rows_place c.place c.content in
        let size : ℕ = length (flat_map row_text c.content.rows) in (
          rows,
          record {
            le = omega arith;
            fails_in = λ offset what h.
                let le = inside c.content.code short offset what h in
                (omega arith, omega (arith, le));
          },
          higher rows (rows + size) (c.place + length (code_text c.content)) (rows_checks c.content.code rows
              c.content.rows)
              (omega (arith, code_length c.content, length-flat_map_each row_text 8 (λ r. refl) c.content.rows))
              (rows_rise c.content.code [] rows c.content.rows),
        )

    checks_rise : (low high : ℕ) (cs : List PlacedCode) → CodesRise low high cs → AllByRecursion IsShort cs
        → Rise low high (flat_map code_checks cs)
    unfolding CodesRise Rise
    checks_rise low high [] h short = h
    checks_rise low high (c ∷ cs) h short =
        let end : ℕ = c.place + length (code_text c.content) in
        rise_append low end high (code_checks c) (flat_map code_checks cs)
        (lower low c.place end (code_checks c) h.0 (code_rises c short.0))
        (checks_rise end high cs h.1 short.1)

    pub file_rises : (file : RawFile) → AreShort file
        → Rise (methods_start file) (methods_start file + length (flat_map member_text file.class.methods)) (checks
        file)
    file_rises file short = checks_rise _ _ (codes file) (codes_rise file) short
