-- The two switches: their bytes are one switch at most, are as long as their keys tell, and are read from their parts.
use Rattle.std.proofs.Common.{◌≡◌, ◌+◌, ◌*◌, ◌≤◌, ◌^◌, ◌++◌, ℕ, ℤ, pos, ◌+ℤ◌, ◌-ℤ◌, List, length, inl}
use Rattle.std.proofs.Common.{inr}
use Rattle.std.proofs.Common.{refl, sym, ap, ◌∙◌, append_assoc, length-append, arith}
use Rattle.std.specs.Prelude.{◌≤ℤ◌, ◌<ℤ◌}
use Rattle.std.specs.List.{flat_map}
use Rattle.std.proofs.lemmas.Int.{ints}
use Rattle.jv_list.proofs.CutLemmas.{split_same}
use Rattle.jv_list.proofs.LengthLemmas.{length-flat_map_each}
use Rattle.jv_list.proofs.PieceLemmas.{three_pieces}
use Rattle.jv_list.proofs.ToldLemmas.{told_all}
use Rattle.cf_code.specs.Bytes.{four, signed_four, IsTwo}
use Rattle.cf_code.specs.Sizes.{HasKeys, HasTable, HasLookup, HasSize}
use Rattle.cf_code.specs.Switches.{far, pair, high_key, table_body, lookup_body, table_spelling, lookup_spelling}
use Rattle.cf_code.specs.Switches.{FitsCase, FitsTableBody, FitsTable, FitsLookup}
use Rattle.cf_code.specs.declared.switch.Case.{Case}
use Rattle.cf_code.specs.declared.switch.TableSwitch.{TableSwitch}
use Rattle.cf_code.specs.declared.switch.LookupSwitch.{LookupSwitch}
use Rattle.cf_code.proofs.ByteLemmas.{one_int, one_number, one_far, far_given}
use Rattle.cf_code.proofs.OpcodeLemmas.{all_there}

-- ---- one switch

abbrev pub case_of : ℤ → ℕ → Case
case_of key target = record { key = key; target = target }

one_pair : (pc : ℕ) (x y : Case) (r s : List ℕ) → pc ≤ 2 ^ 31 → FitsCase x → FitsCase y
    → pair pc x ++ r ≡ pair pc y ++ s
    → (x ≡ y) × (r ≡ s)
one_pair pc x y r s reach a b is =
    let whole = sym (append_assoc (signed_four x.key) (far pc x.target) r) ∙ is
    ∙ append_assoc (signed_four y.key) (far pc y.target) s in
    let keys = one_int x.key y.key (far pc x.target ++ r) (far pc y.target ++ s) a.0 b.0 whole in
    let ends = one_far pc x.target y.target r s reach a.1 b.1 keys.1 in
    (ap (λ (z : ℤ). case_of z x.target) keys.0 ∙ ap (λ (n : ℕ). case_of y.key n) ends.0, ends.1)

abbrev pub table_of : List ℕ → ℕ → ℤ → List ℕ → TableSwitch
table_of padding default low targets = record { padding = padding; default = default; low = low; targets = targets }

pub same_table : (s t : TableSwitch) → s.padding ≡ t.padding → s.default ≡ t.default → s.low ≡ t.low
    → s.targets ≡ t.targets → s ≡ t
same_table s t a b d e =
    ap (λ (p : List ℕ). table_of p s.default s.low s.targets) a
    ∙ ap (λ (n : ℕ). table_of t.padding n s.low s.targets) b
    ∙ ap (λ (z : ℤ). table_of t.padding t.default z s.targets) d
    ∙ ap (λ (xs : List ℕ). table_of t.padding t.default t.low xs) e

pub one_table : (pc : ℕ) (s t : TableSwitch) → pc ≤ 2 ^ 31 → FitsTable pc s → FitsTable pc t
    → table_spelling pc s ≡ table_spelling pc t → s ≡ t
one_table pc s t reach a b is =
    let s_body = table_body pc s.default s.low s.targets in
    let t_body = table_body pc t.default t.low t.targets in
    let behind : s.padding ++ s_body ≡ t.padding ++ t_body = cc in
    let cut = split_same s.padding t.padding s_body t_body (a.0 ∙ sym b.0) behind in
    let x = a.1 in
    let y = b.1 in
    let default = one_far pc s.default t.default _ _ reach x.is_pc y.is_pc cut.1 in
    let low = one_int s.low t.low _ _ x.low_fits y.low_fits default.1 in
    let high = one_int (high_key s.low s.targets) (high_key t.low t.targets) _ _ x.high_fits y.high_fits low.1 in
    let tells = λ (m n : ℕ) (q r : List ℕ) (f : IsTwo m) (g : IsTwo n) (e : far pc m ++ q ≡ far pc n ++ r).
    one_far pc m n q r reach f g e in
    let targets = told_all (far pc) IsTwo tells s.targets t.targets x.are_pcs y.are_pcs (λ n r f e. cc) high.1 in
    same_table s t cut.0 default.0 low.0 targets

abbrev pub lookup_of : List ℕ → ℕ → List Case → LookupSwitch
lookup_of padding default cases = record { padding = padding; default = default; cases = cases }

pub same_lookup : (s t : LookupSwitch) → s.padding ≡ t.padding → s.default ≡ t.default → s.cases ≡ t.cases → s ≡ t
same_lookup s t a b d =
    ap (λ (p : List ℕ). lookup_of p s.default s.cases) a
    ∙ ap (λ (n : ℕ). lookup_of t.padding n s.cases) b
    ∙ ap (λ (xs : List Case). lookup_of t.padding t.default xs) d

pub one_lookup : (pc : ℕ) (s t : LookupSwitch) → pc ≤ 2 ^ 31 → FitsLookup pc s → FitsLookup pc t
    → lookup_spelling pc s ≡ lookup_spelling pc t → s ≡ t
one_lookup pc s t reach a b is =
    let s_body = lookup_body pc s.default s.cases in
    let t_body = lookup_body pc t.default t.cases in
    let behind : s.padding ++ s_body ≡ t.padding ++ t_body = cc in
    let cut = split_same s.padding t.padding s_body t_body (a.0 ∙ sym b.0) behind in
    let x = a.1 in
    let y = b.1 in
    let default = one_far pc s.default t.default _ _ reach x.is_pc y.is_pc cut.1 in
    let count = one_number (length s.cases) (length t.cases) _ _ x.few y.few default.1 in
    let tells = λ (m n : Case) (q r : List ℕ) (f : FitsCase m) (g : FitsCase n) (e : pair pc m ++ q ≡ pair pc n ++ r).
    one_pair pc m n q r reach f g e in
    let cases = told_all (pair pc) FitsCase tells s.cases t.cases x.all_fit y.all_fit (λ n r f e. cc) count.1 in
    same_lookup s t cut.0 default.0 cases

-- ---- sizes

pub table_long : (pc : ℕ) (s : TableSwitch)
    → length (table_spelling pc s) ≡ length s.padding + length s.targets * 4 + 13
table_long pc s = simp length-append (omega (arith, length-flat_map_each (far pc) 4 (λ target. refl) s.targets))

pub lookup_long : (pc : ℕ) (s : LookupSwitch)
    → length (lookup_spelling pc s) ≡ length s.padding + length s.cases * 8 + 9
lookup_long pc s = simp length-append (omega (arith, length-flat_map_each (pair pc) 8 (λ each. refl) s.cases))

keys_counted : (low : ℤ) (n : ℕ) → pos n ≡ (low +ℤ pos n -ℤ pos 1) -ℤ low +ℤ pos 1
keys_counted low n = omega (arith, ints)

no_key : (low : ℤ) (n : ℕ) → (low +ℤ pos n -ℤ pos 1) <ℤ low → n ≡ 0
no_key low n lt = omega (arith, ints)

module _ (pc : ℕ) (rest : List ℕ) where
  -- the keys of a table, whatever follows it
  table_keyed : (default : ℕ) (low : ℤ) (targets : List ℕ) → FitsTableBody default low targets
      → HasKeys (table_body pc default low targets ++ rest) (length targets)
  table_keyed default low targets fits =
      let given = far_given pc default fits.is_pc in
      let tail : List ℕ = flat_map (far pc) targets ++ rest in
      let keys : List ℕ = signed_four low ++ (signed_four (high_key low targets) ++ tail) in
      record {
        default = given.0;
        low = low;
        high = high_key low targets;
        tail = tail;
        parts = ap (λ (t : List ℕ). t ++ keys) given.1;
        default_fits = given.2;
        low_fits = fits.low_fits;
        high_fits = fits.high_fits;
        some = λ le. keys_counted low (length targets);
        none = λ lt. no_key low (length targets) lt;
      }

  pub table_sized : (s : TableSwitch) → FitsTable pc s
      → HasSize pc (table_spelling pc s ++ rest) (length (table_spelling pc s))
  table_sized s fits =
      let body : List ℕ = table_body pc s.default s.low s.targets in
      let table : HasTable pc (s.padding ++ body ++ rest) (length (table_spelling pc s)) = record {
        padding = s.padding;
        body = body ++ rest;
        count = length s.targets;
        parts = append_assoc s.padding body rest;
        long = fits.0;
        keys = table_keyed s.default s.low s.targets fits.1;
        is = omega (arith, table_long pc s);
      } in
      (inl (refl, table), all_there (s.padding ++ body) rest 170)

  pub lookup_sized : (s : LookupSwitch) → FitsLookup pc s
      → HasSize pc (lookup_spelling pc s ++ rest) (length (lookup_spelling pc s))
  lookup_sized s fits =
      let body : List ℕ = lookup_body pc s.default s.cases in
      let given = far_given pc s.default fits.1.is_pc in
      let tail : List ℕ = flat_map (pair pc) s.cases ++ rest in
      let behind : List ℕ = four (length s.cases) ++ tail in
      let lookup : HasLookup pc (s.padding ++ body ++ rest) (length (lookup_spelling pc s)) = record {
        padding = s.padding;
        default = given.0;
        count = length s.cases;
        tail = tail;
        parts = append_assoc s.padding body rest ∙ ap (λ (t : List ℕ). s.padding ++ (t ++ behind)) given.1;
        long = fits.0;
        default_fits = given.2;
        few = fits.1.few;
        is = omega (arith, lookup_long pc s);
      } in
      (inr (inl (refl, lookup)), all_there (s.padding ++ body) rest 171)

-- so many keys go from one to another
pub one_count : (low high : ℤ) (m n : ℕ) → (low ≤ℤ high → pos m ≡ high -ℤ low +ℤ pos 1) → (high <ℤ low → m ≡ 0)
    → (low ≤ℤ high → pos n ≡ high -ℤ low +ℤ pos 1) → (high <ℤ low → n ≡ 0) → m ≡ n
one_count low high m n a b d e = grind (arith, ints)

-- ---- a table from its parts

-- the bytes of a table, from its parts
pub table_found : (pc default : ℕ) (low high low' high' : ℤ) (bytes rest targets : List ℕ)
    → bytes ≡ far pc default ++ (signed_four low ++ (signed_four high ++ rest)) → low' ≡ low → high' ≡ high
    → high' ≡ high_key low' targets → rest ≡ flat_map (far pc) targets → bytes ≡ table_body pc default low' targets
table_found pc default low high low' high' bytes rest targets is low_same high_same high_is rest_is =
    let high_key_is = sym high_same ∙ high_is in
    let key = signed_four (high_key low' targets) in
    is ∙ ap (λ (z : ℤ). far pc default ++ (signed_four z ++ (signed_four high ++ rest))) (sym low_same)
    ∙ ap (λ (z : ℤ). far pc default ++ (signed_four low' ++ (signed_four z ++ rest))) high_key_is
    ∙ ap (λ (xs : List ℕ). far pc default ++ (signed_four low' ++ (key ++ xs))) rest_is

-- the parts of a table, put one after the other
pub put_joined : (old one two three default low high rest : List ℕ) → one ≡ old ++ default
    → two ≡ one ++ (low ++ high) → three ≡ two ++ rest → three ≡ old ++ (default ++ (low ++ (high ++ rest)))
put_joined old one two three default low high rest a b c =
    three_pieces old default (low ++ high) rest one two three a b c ∙ simp append_assoc
