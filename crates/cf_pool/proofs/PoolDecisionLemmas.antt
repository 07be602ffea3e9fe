-- Bytes have a pool or the first fault of one.
use Rattle.std.proofs.Common.{◌≡◌, ℕ, zero, suc, ◌+◌, ◌-◌, ◌^◌, ◌<◌, ◌≤◌, ◌⊎◌, List, [], ◌∷◌, ◌++◌, length, take, drop}
use Rattle.std.proofs.Common.{refl, sym, ap, ◌∙◌, append_assoc, arith, inl, inr}
use Rattle.std.specs.List.{flat_map, All}
use Rattle.std.proofs.lemmas.Bool.{cases_lt}
use Rattle.std.proofs.lemmas.List.{length-append}
use Rattle.std.proofs.lemmas.List.Elements.{All-nil, All-cons}
use Rattle.byteorder.specs.Endian.{big_number}
use Rattle.cf_pool.specs.declared.entry.PoolEntry.{PoolEntry}
use Rattle.cf_pool.specs.declared.entry.PoolEntry.TheVariants as entries
use Rattle.cf_pool.specs.declared.fault.What.TheVariants.{Truncated}
use Rattle.cf_pool.specs.declared.fault.Fault.{Fault}
use Rattle.cf_pool.specs.declared.fault.PoolFault.TheVariants.{Malformed}
use Rattle.cf_pool.specs.Spelling.{entry_text}
use Rattle.cf_pool.specs.Entries.{IsPoolEntry, slots}
use Rattle.cf_pool.specs.ConstantPool.{IsPool, IsPoolFault}
use Rattle.cf_pool.specs.Calls.Contents.{ReadsEntries, IsFaultOfEntries}
use Rattle.cf_pool.proofs.NumberLemmas.{FitBytes, FitBytes-drop, FitBytes-take, FitBytes-behind}
use Rattle.cf_pool.proofs.NumberLemmas.{below_2}
use Rattle.cf_pool.proofs.ReadingLemmas.{no_entries}
use Rattle.cf_pool.proofs.PoolReadingLemmas.{slots_some, file_parts}
use Rattle.cf_pool.proofs.PoolReadingLemmas.{pool_found, pool_fault}
use Rattle.cf_pool.proofs.EntryDecisionLemmas.{HasEntry, HasFault, entry_decided}

-- ---- the entries

pub record AllRead (left : ℕ) (bytes : List ℕ) : Type 0 where
  pub entries : List PoolEntry
  pub rest : List ℕ
  pub entries_fit : All IsPoolEntry entries
  pub takes : length (flat_map slots entries) ≡ left
  pub parts : bytes ≡ flat_map entry_text entries ++ rest

pub record StopsAtEntry (left : ℕ) (bytes : List ℕ) : Type 0 where
  pub entries : List PoolEntry
  pub rest : List ℕ
  pub more : ℕ
  pub entries_fit : All IsPoolEntry entries
  pub takes : length (flat_map slots entries) + more ≡ left
  pub some : 0 < more
  pub parts : bytes ≡ flat_map entry_text entries ++ rest
  pub at_fault : HasFault more rest

abbrev ReadOrStops : ℕ → List ℕ → Type 0
ReadOrStops left bytes = AllRead left bytes ⊎ StopsAtEntry left bytes

one_more : (left : ℕ) (bytes : List ℕ) (e : HasEntry left bytes) → ReadOrStops (left - length (slots e.entry)) e.after
    → ReadOrStops left bytes
one_more left bytes e others =
    let with_text : (es : List PoolEntry) (rest : List ℕ) → e.after ≡ flat_map entry_text es ++ rest
    → bytes ≡ flat_map entry_text (e.entry ∷ es) ++ rest = λ es rest is.
    e.parts ∙ ap (λ (t : List ℕ). entry_text e.entry ++ t) is ∙ sym
    (append_assoc (entry_text e.entry) (flat_map entry_text es) rest) in
    elim others [
      | inl k ↦ inl (record {
        entries = e.entry ∷ k.entries;
        rest = k.rest;
        entries_fit = All-cons IsPoolEntry e.entry k.entries e.fits k.entries_fit;
        takes = omega (arith, k.takes, e.room, length-append (slots e.entry) (flat_map slots k.entries));
        parts = with_text k.entries k.rest k.parts;
      })
      | inr k ↦ inr (record {
        entries = e.entry ∷ k.entries;
        rest = k.rest;
        more = k.more;
        entries_fit = All-cons IsPoolEntry e.entry k.entries e.fits k.entries_fit;
        takes = omega (arith, k.takes, e.room, length-append (slots e.entry) (flat_map slots k.entries));
        some = k.some;
        parts = with_text k.entries k.rest k.parts;
        at_fault = k.at_fault;
      })
    ]

nothing_more : (left : ℕ) (bytes : List ℕ) → left ≤ 0 → ReadOrStops left bytes
nothing_more left bytes none =
    inl (record { entries = []; rest = bytes; entries_fit = All-nil IsPoolEntry; takes = omega arith; parts = refl })

entries_decided : (n left : ℕ) (bytes : List ℕ) → left ≤ n → FitBytes bytes → ReadOrStops left bytes
entries_decided zero left bytes le fits = nothing_more left bytes le
entries_decided (suc n) left bytes le fits =
    elim (cases_lt 0 left) [
      | inr none ↦ nothing_more left bytes none
      | inl some ↦ elim (entry_decided left bytes fits) [
        | inr stops ↦
            inr (record {
              entries = [];
              rest = bytes;
              more = left;
              entries_fit = All-nil IsPoolEntry;
              takes = omega arith;
              some = some;
              parts = refl;
              at_fault = stops;
            })
        | inl e ↦
            one_more left bytes e
            (entries_decided n (left - length (slots e.entry)) e.after (omega (arith, le, slots_some e.entry))
            (FitBytes-behind bytes (entry_text e.entry) e.after fits e.parts))
      ]
    ]

-- ---- the pool

abbrev pub PoolOrFault : List ℕ → Type 0
PoolOrFault bytes = ((c : List PoolEntry × ℕ) × IsPool bytes c.0 c.1) ⊎ ((f : Fault) × IsPoolFault bytes f)

pub pool_decided : (bytes : List ℕ) → FitBytes bytes → PoolOrFault bytes
pool_decided bytes fits =
    elim (cases_lt (length bytes) 10) [
      | inl short ↦
          let named : Fault = record { place = length bytes; what = Truncated } in
          inr (named, inl (record { short = short; what_is = refl; place_is = refl }))
      | inr long ↦
          let count = big_number 2 (drop 8 (take 10 bytes)) in
          let body = drop 10 bytes in
          let parts = file_parts bytes long fits in
          let count_fits : count < 2 ^ 16 =
          below_2 (drop 8 (take 10 bytes)) (FitBytes-drop 8 (take 10 bytes) (FitBytes-take 10 bytes fits)) in
          elim (cases_lt 0 count) [
            | inr none ↦
                inl (
                  ([], length bytes - length body),
                  pool_found bytes body body count [] long count_fits parts
                      (no_entries count body [] refl (omega arith)),
                )
            | inl some ↦
                elim (entries_decided (count - 1) (count - 1) body (omega arith) (FitBytes-drop 10 bytes fits)) [
                  | inl k ↦
                      let pool = entries.Unusable ∷ flat_map slots k.entries in
                      let read : ReadsEntries count body pool k.rest =
                      record {
                        entries = k.entries;
                        entries_fit = k.entries_fit;
                        laid_out = (refl, refl);
                        count_is = omega (arith, k.takes);
                        parts = k.parts;
                      } in
                      inl (
                        (pool, length bytes - length k.rest),
                        pool_found bytes body k.rest count pool long count_fits parts read,
                      )
                  | inr k ↦
                      let named : Fault =
                      record { place = length (flat_map entry_text k.entries) + k.at_fault.at; what = k.at_fault.what }
                      in
                      let stopped : IsFaultOfEntries count body named = record {
                        entries = k.entries;
                        rest = k.rest;
                        left = k.more;
                        at = k.at_fault.at;
                        entries_fit = k.entries_fit;
                        parts = k.parts;
                        indices_left = omega (arith, k.takes);
                        some_left = k.some;
                        entry_fault = k.at_fault.fault;
                        place_is = refl;
                      } in
                      let moved : Fault = record { place = named.place + 10; what = named.what } in
                      inr (moved, pool_fault (Malformed named) bytes body count long count_fits parts stopped)
                ]
          ]
    ]
