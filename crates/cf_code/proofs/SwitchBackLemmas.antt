-- The two switches are read back from their bytes.
use Rattle.std.proofs.Common.{◌≡◌, ℕ, ℤ, ◌≤◌, ◌^◌, List, [], ◌∷◌, ◌++◌, take, drop, to_z, refl, ap, ◌∙◌}
use Rattle.std.specs.Int.{w32, from_be_bytes}
use Rattle.std.specs.List.{All, flat_map}
use Rattle.std.proofs.lemmas.List.{take_at, drop_at}
use Rattle.std.proofs.lemmas.List.Elements.{All-head, All-tail}
use Rattle.cf_code.specs.Bytes.{signed_four, offset, IsTwo}
use Rattle.cf_code.specs.Switches.{padding_at, far, pair, table_body, lookup_body, FitsCase, FitsTable, FitsLookup}
use Rattle.cf_code.specs.declared.switch.Case.{Case}
use Rattle.cf_code.specs.declared.switch.TableSwitch.{TableSwitch}
use Rattle.cf_code.specs.declared.switch.LookupSwitch.{LookupSwitch}
use Rattle.cf_code.proofs.ByteLemmas.{signed_four_back, at_offset, at_offset_back, far_fits}
use Rattle.cf_code.proofs.SwitchLemmas.{case_of, table_of, lookup_of, same_table, same_lookup}

-- the signed number of the first four bytes
abbrev int : List ℕ → ℤ
int bytes = to_z w32 (from_be_bytes w32 (take 4 bytes))

module _ (pc : ℕ) where
  -- the target that the first four bytes lead to
  abbrev target : List ℕ → ℕ
  target bytes = at_offset pc (int bytes)

  -- a target for four bytes each
  targets_of : List ℕ → List ℕ
  targets_of (a ∷ b ∷ c ∷ d ∷ rest) = target (a ∷ b ∷ c ∷ d ∷ []) ∷ targets_of rest
  targets_of bytes = []

  -- a case for eight bytes each
  cases_of : List ℕ → List Case
  cases_of (a ∷ b ∷ c ∷ d ∷ e ∷ f ∷ g ∷ h ∷ rest) =
      case_of (int (a ∷ b ∷ c ∷ d ∷ [])) (target (e ∷ f ∷ g ∷ h ∷ [])) ∷ cases_of rest
  cases_of bytes = []

  -- what stands behind the opcodes
  pub table : List ℕ → TableSwitch
  table rest =
      let body = drop (padding_at pc) rest in
      table_of (take (padding_at pc) rest) (target body) (int (drop 4 body)) (targets_of (drop 12 body))

  pub lookup : List ℕ → LookupSwitch
  lookup rest =
      let body = drop (padding_at pc) rest in
      lookup_of (take (padding_at pc) rest) (target body) (cases_of (drop 8 body))

  module _ (reach : pc ≤ 2 ^ 31) where
    target_back : (t : ℕ) → IsTwo t → target (far pc t) ≡ t
    target_back t fits =
        ap (λ (z : ℤ). at_offset pc z) (signed_four_back (offset pc t) (far_fits pc t reach fits)) ∙ at_offset_back pc t

    targets_back : (ts : List ℕ) → All IsTwo ts → targets_of (flat_map (far pc) ts) ≡ ts
    unfolding targets_of
    targets_back [] fits = refl
    targets_back (t ∷ ts) fits =
        ap (λ (n : ℕ). n ∷ targets_of (flat_map (far pc) ts)) (target_back t (All-head IsTwo t ts fits))
        ∙ ap (λ (ns : List ℕ). t ∷ ns) (targets_back ts (All-tail IsTwo t ts fits))

    case_back : (c : Case) → FitsCase c → case_of (int (signed_four c.key)) (target (far pc c.target)) ≡ c
    case_back c fits =
        ap (λ (z : ℤ). case_of z (target (far pc c.target))) (signed_four_back c.key fits.0)
        ∙ ap (λ (n : ℕ). case_of c.key n) (target_back c.target fits.1)

    cases_back : (cs : List Case) → All FitsCase cs → cases_of (flat_map (pair pc) cs) ≡ cs
    unfolding cases_of
    cases_back [] fits = refl
    cases_back (c ∷ cs) fits =
        ap (λ (x : Case). x ∷ cases_of (flat_map (pair pc) cs)) (case_back c (All-head FitsCase c cs fits))
        ∙ ap (λ (xs : List Case). c ∷ xs) (cases_back cs (All-tail FitsCase c cs fits))

    -- a tableswitch
    pub table_back : (s : TableSwitch) → FitsTable pc s
        → table (s.padding ++ table_body pc s.default s.low s.targets) ≡ s
    unfolding table
    table_back s fits =
        let body = table_body pc s.default s.low s.targets in
        let behind = drop_at s.padding body (padding_at pc) fits.0 in
        let from = λ (b : List ℕ). int (drop 4 b) in
        same_table _ s (take_at s.padding body (padding_at pc) fits.0)
        (ap target behind ∙ target_back s.default fits.1.is_pc)
        (ap from behind ∙ signed_four_back s.low fits.1.low_fits)
        (ap (λ (b : List ℕ). targets_of (drop 12 b)) behind ∙ targets_back s.targets fits.1.are_pcs)

    -- a lookupswitch
    pub lookup_back : (s : LookupSwitch) → FitsLookup pc s
        → lookup (s.padding ++ lookup_body pc s.default s.cases) ≡ s
    unfolding lookup
    lookup_back s fits =
        let body = lookup_body pc s.default s.cases in
        let behind = drop_at s.padding body (padding_at pc) fits.0 in
        same_lookup _ s (take_at s.padding body (padding_at pc) fits.0)
        (ap target behind ∙ target_back s.default fits.1.is_pc)
        (ap (λ (b : List ℕ). cases_of (drop 8 b)) behind ∙ cases_back s.cases fits.1.all_fit)
