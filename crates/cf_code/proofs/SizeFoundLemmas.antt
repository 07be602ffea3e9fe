-- The size of the instruction at the front of bytes is found, or there is none.
use Rattle.std.proofs.Common.{◌≡◌, ℕ, ℤ, pos, negsuc, ◌+◌, ◌*◌, ◌≤◌, ◌+ℤ◌, ◌-ℤ◌, List, [], ◌∷◌, ◌++◌}
use Rattle.std.proofs.Common.{Option, Some, None, length, take, drop, refl, sym, ap, subst, ◌∙◌, inl, inr, ◌⊎◌, arith}
use Rattle.std.proofs.Common.{length-append}
use Rattle.std.specs.Prelude.{◌≤ℤ◌, ◌<ℤ◌}
use Rattle.std.proofs.lemmas.Int.{by_lt_z, ints}
use Rattle.std.proofs.lemmas.List.{take-append-drop, length-take-le}
use Rattle.std.proofs.lemmas.Option.{none-some}
use Rattle.jv_list.proofs.CutLemmas.{split_same}
use Rattle.cf_code.specs.Bytes.{four, signed_four}
use Rattle.cf_code.specs.Sizes.{fixed_size, wide_size, HasKeys, HasTable, HasLookup, HasOperands, HasSize}
use Rattle.cf_code.specs.Switches.{padding_at}
use Rattle.cf_code.proofs.IntLemmas.{Int, int_found, HasCount, count_found}
use Rattle.jv_list.proofs.DecidedLemmas.{Decided, numbers, at_most}
use Rattle.cf_code.proofs.SizeLemmas.{one_operands}

-- a number is found, or there is none
abbrev pub Found : (ℕ → Type 0) → Type 0
Found P = ((n : ℕ) × P n) ⊎ ((n : ℕ) → P n → ⊥)

-- ---- keys

-- the default of a table, its least and its greatest key
abbrev High : ℤ → List ℕ → Type 0
High low body = Int (λ high tail. Unit {0}) body

abbrev Low : ℤ → List ℕ → Type 0
Low default body = Int High body

abbrev Keys : List ℕ → Type 0
Keys body = Int Low body

keys_read : (body : List ℕ) → Decided (Keys body)
keys_read body =
    int_found body Low (λ default rest. int_found rest High (λ low rest. int_found rest _ (λ high rest. inl tt)))

number_of : (z : ℤ) → pos 0 ≤ℤ z → (n : ℕ) × (pos n ≡ z)
number_of (pos n) h = (n, refl)
number_of (negsuc n) h = absurd (omega (arith, ints))

-- so many keys go from one to another
count_of : (low high : ℤ) → (n : ℕ) × (low ≤ℤ high → pos n ≡ high -ℤ low +ℤ pos 1) × (high <ℤ low → n ≡ 0)
count_of low high =
    by_lt_z high low (λ lt. (0, (λ le. absurd (omega (arith, ints))), (λ lt. refl)))
    (λ le. let n = number_of (high -ℤ low +ℤ pos 1) (omega (arith, ints)) in
    (n.0, (λ le. n.1), (λ lt. absurd (omega (arith, ints)))))

keys_found : (body : List ℕ) → Found (HasKeys body)
keys_found body = by (keys_read body)
  where
    by : Decided (Keys body) → Found (HasKeys body)
    by (inl k) =
        let low = k.4 in
        let high = low.4 in
        let count = count_of low.0 high.0 in
        let behind = low.3 ∙ ap (λ (t : List ℕ). signed_four low.0 ++ t) high.3 in
        inl (
          count.0,
          record {
            default = k.0;
            low = low.0;
            high = high.0;
            tail = high.1;
            parts = k.3 ∙ ap (λ (t : List ℕ). signed_four k.0 ++ t) behind;
            default_fits = k.2;
            low_fits = low.2;
            high_fits = high.2;
            some = count.1;
            none = count.2;
          },
        )
    by (inr none) =
        inr (λ n k. none (
          k.default,
          _,
          k.default_fits,
          k.parts,
          (
            k.low,
            _,
            k.low_fits,
            refl,
            (k.high, k.tail, k.high_fits, refl, tt),
          ),
        ))

-- ---- switches

module _ (pc : ℕ) (rest : List ℕ) where
  -- the padding is there, with what is behind it
  abbrev Padded : List ℕ → List ℕ → Type 0
  Padded padding body = (rest ≡ padding ++ body) × (length padding ≡ padding_at pc)

  abbrev Cut : Type 0
  Cut =
      ((padding : List ℕ) × (body : List ℕ) × Padded padding body)
      ⊎ ((padding body : List ℕ) → Padded padding body → ⊥)

  padded : Cut
  padded = by (at_most (padding_at pc) (length rest))
    where
      by : Decided (padding_at pc ≤ length rest) → Cut
      by (inl le) =
          let n = padding_at pc in
          inl (take n rest, drop n rest, (sym (take-append-drop n rest), length-take-le n rest le))
      by (inr short) = inr (λ padding body h. short (omega (arith, ap length h.0, length-append padding body, h.1)))

  -- the padding is of one length
  one_body : (p b q c : List ℕ) → Padded p b → Padded q c → b ≡ c
  one_body p b q c x y = (split_same p q b c (x.1 ∙ sym y.1) (sym x.0 ∙ y.0)).1

  table_found : Found (HasTable pc rest)
  table_found = by padded
    where
      by_keys : (padding body : List ℕ) → Padded padding body → Found (HasKeys body) → Found (HasTable pc rest)
      by_keys padding body p (inl k) =
          inl (
            13 + length padding + 4 * k.0,
            record { padding = padding; body = body; count = k.0; parts = p.0; long = p.1; keys = k.1; is = refl },
          )
      by_keys padding body p (inr none) =
          inr (λ n t. none t.count (subst (λ (b : List ℕ). HasKeys b t.count)
          (one_body t.padding t.body padding body (t.parts, t.long) p) t.keys))

      by : Cut → Found (HasTable pc rest)
      by (inl p) = by_keys p.0 p.1 p.2 (keys_found p.1)
      by (inr none) = inr (λ n t. none t.padding t.body (t.parts, t.long))

  -- the default of a lookupswitch, and how many pairs follow
  abbrev Pairs : List ℕ → Type 0
  Pairs body = Int (λ default tail. HasCount tail) body

  lookup_found : Found (HasLookup pc rest)
  lookup_found = by padded
    where
      by_pairs : (padding body : List ℕ) → Padded padding body → Decided (Pairs body) → Found (HasLookup pc rest)
      by_pairs padding body p (inl k) =
          let count = k.4 in
          inl (
            9 + length padding + 8 * count.0,
            record {
              padding = padding;
              default = k.0;
              count = count.0;
              tail = count.1;
              parts = p.0 ∙ ap (λ (t : List ℕ). padding ++ t) (k.3 ∙ ap (λ (t : List ℕ). signed_four k.0 ++ t) count.3);
              long = p.1;
              default_fits = k.2;
              few = count.2;
              is = refl;
            },
          )
      by_pairs padding body p (inr none) =
          inr (λ n l. none (subst Pairs (one_body l.padding _ padding body (l.parts, l.long) p)
          (l.default, four l.count ++ l.tail, l.default_fits, refl, (l.count, l.tail, l.few, refl))))

      by : Cut → Found (HasLookup pc rest)
      by (inl p) =
          by_pairs p.0 p.1 p.2 (int_found p.1 (λ default tail. HasCount tail) (λ default tail. count_found tail))
      by (inr none) = inr (λ n l. none l.padding _ (l.parts, l.long))

-- ---- sizes

some_found : (o : Option ℕ) → Found (λ n. o ≡ Some n)
some_found None = inr (λ n e. none-some n e)
some_found (Some n) = inl (n, refl)

module _ (pc opcode : ℕ) (rest : List ℕ) where
  table_operands : opcode ≡ 170 → Found (HasTable pc rest) → Found (HasOperands pc opcode rest)
  table_operands is (inl t) = inl (t.0, inl (is, t.1))
  table_operands is (inr none) = inr no
    where
      no : (n : ℕ) → HasOperands pc opcode rest n → ⊥
      no n (inl t) = none n t.1
      no n (inr (inl l)) = omega (arith, is, l.0)
      no n (inr (inr (inl w))) = omega (arith, is, w.0)
      no n (inr (inr (inr p))) = p.0 is

  lookup_operands : opcode ≡ 171 → Found (HasLookup pc rest) → Found (HasOperands pc opcode rest)
  lookup_operands is (inl l) = inl (l.0, inr (inl (is, l.1)))
  lookup_operands is (inr none) = inr no
    where
      no : (n : ℕ) → HasOperands pc opcode rest n → ⊥
      no n (inl t) = omega (arith, is, t.0)
      no n (inr (inl l)) = none n l.1
      no n (inr (inr (inl w))) = omega (arith, is, w.0)
      no n (inr (inr (inr p))) = p.1 is

  wide_operands : opcode ≡ 196 → Found (λ n. wide_size rest ≡ Some n) → Found (HasOperands pc opcode rest)
  wide_operands is (inl w) = inl (w.0, inr (inr (inl (is, w.1))))
  wide_operands is (inr none) = inr no
    where
      no : (n : ℕ) → HasOperands pc opcode rest n → ⊥
      no n (inl t) = omega (arith, is, t.0)
      no n (inr (inl l)) = omega (arith, is, l.0)
      no n (inr (inr (inl w))) = none n w.1
      no n (inr (inr (inr p))) = p.2 is

  module _ (a : opcode ≡ 170 → ⊥) (b : opcode ≡ 171 → ⊥) (c : opcode ≡ 196 → ⊥) where
    fixed_operands : Found (λ n. fixed_size opcode ≡ Some n) → Found (HasOperands pc opcode rest)
    fixed_operands (inl p) = inl (p.0, inr (inr (inr (a, b, c, p.1))))
    fixed_operands (inr none) = inr no
      where
        no : (n : ℕ) → HasOperands pc opcode rest n → ⊥
        no n (inl t) = a t.0
        no n (inr (inl l)) = b l.0
        no n (inr (inr (inl w))) = c w.0
        no n (inr (inr (inr p))) = none n p.3

  operands_found : Found (HasOperands pc opcode rest)
  operands_found =
      elim (numbers opcode 170) [
        | inl is ↦ table_operands is (table_found pc rest)
        | inr a ↦ elim (numbers opcode 171) [
          | inl is ↦ lookup_operands is (lookup_found pc rest)
          | inr b ↦ elim (numbers opcode 196) [
            | inl is ↦ wide_operands is (some_found (wide_size rest))
            | inr c ↦ fixed_operands a b c (some_found (fixed_size opcode))
          ]
        ]
      ]

-- the size of the instruction at the front
pub size_found : (pc : ℕ) (bytes : List ℕ) → Found (HasSize pc bytes)
size_found pc [] = inr (λ n h. h)
size_found pc (opcode ∷ rest) = by (operands_found pc opcode rest)
  where
    by_room : (n : ℕ) → HasOperands pc opcode rest n → Decided (n ≤ length rest + 1)
        → Found (HasSize pc (opcode ∷ rest))
    by_room n h (inl le) = inl (n, (h, le))
    by_room n h (inr past) = inr (λ m g. past (omega (arith, one_operands pc opcode rest m n g.0 h, g.1)))

    by : Found (HasOperands pc opcode rest) → Found (HasSize pc (opcode ∷ rest))
    by (inl f) = by_room f.0 f.1 (at_most f.0 (length rest + 1))
    by (inr none) = inr (λ n h. none n h.0)
