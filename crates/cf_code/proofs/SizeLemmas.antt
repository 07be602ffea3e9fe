-- The size of the instruction at the front of bytes: there is one at most, and its bytes are there.
use Rattle.std.proofs.Common.{◌≡◌, ℕ, ℤ, pos, ◌+◌, ◌<◌, ◌≤◌, ◌+ℤ◌, ◌-ℤ◌, Bool, true, false, cond, Option, Some}
use Rattle.std.proofs.Common.{List, [], ◌∷◌, length, drop, sym, ◌∙◌, subst, inl, inr, arith}
use Rattle.std.specs.Prelude.{◌≤ℤ◌, ◌<ℤ◌}
use Rattle.std.proofs.lemmas.List.{length-drop}
use Rattle.std.proofs.lemmas.Option.{none-some}
use Rattle.jv_list.proofs.CutLemmas.{split_same}
use Rattle.cf_code.specs.Sizes.{fixed_size, wide_size, HasKeys, HasTable, HasLookup, HasOperands, HasSize}
use Rattle.cf_code.proofs.ByteLemmas.{one_int, one_number}
use Rattle.cf_code.proofs.SwitchLemmas.{one_count}

-- ---- one size

-- a count of keys, from one least key to one greatest
abbrev Counts : ℤ → ℤ → ℕ → Type 0
Counts low high n = (low ≤ℤ high → pos n ≡ high -ℤ low +ℤ pos 1) × (high <ℤ low → n ≡ 0)

same_count : (low high low' high' : ℤ) (m n : ℕ) → low ≡ low' → high ≡ high' → Counts low high m → Counts low' high' n
    → m ≡ n
same_count low high low' high' m n p q a b =
    let here = subst (λ (l : ℤ). Counts l high n) (sym p) (subst (λ (h : ℤ). Counts low' h n) (sym q) b) in
    one_count low high m n a.0 a.1 here.0 here.1

one_keys : (body : List ℕ) (m n : ℕ) → HasKeys body m → HasKeys body n → m ≡ n
one_keys body m n x y =
    let first = one_int x.default y.default _ _ x.default_fits y.default_fits (sym x.parts ∙ y.parts) in
    let second = one_int x.low y.low _ _ x.low_fits y.low_fits first.1 in
    let third = one_int x.high y.high x.tail y.tail x.high_fits y.high_fits second.1 in
    same_count x.low x.high y.low y.high m n second.0 third.0 (x.some, x.none) (y.some, y.none)

one_table : (pc : ℕ) (rest : List ℕ) (m n : ℕ) → HasTable pc rest m → HasTable pc rest n → m ≡ n
one_table pc rest m n x y =
    let cut = split_same x.padding y.padding x.body y.body (x.long ∙ sym y.long) (sym x.parts ∙ y.parts) in
    let keys = subst (λ (b : List ℕ). HasKeys b x.count) cut.1 x.keys in
    let same = one_keys y.body x.count y.count keys y.keys in
    omega (arith, x.is, y.is, x.long, y.long, same)

one_lookup : (pc : ℕ) (rest : List ℕ) (m n : ℕ) → HasLookup pc rest m → HasLookup pc rest n → m ≡ n
one_lookup pc rest m n x y =
    let cut = split_same x.padding y.padding _ _ (x.long ∙ sym y.long) (sym x.parts ∙ y.parts) in
    let first = one_int x.default y.default _ _ x.default_fits y.default_fits cut.1 in
    let second = one_number x.count y.count x.tail y.tail x.few y.few first.1 in
    omega (arith, x.is, y.is, x.long, y.long, second.0)

module _ (pc opcode : ℕ) (rest : List ℕ) (m n : ℕ) where
  pub one_operands : HasOperands pc opcode rest m → HasOperands pc opcode rest n → m ≡ n
  one_operands (inl x) (inl y) = one_table pc rest m n x.1 y.1
  one_operands (inl x) (inr (inl y)) = absurd (omega (arith, x.0, y.0))
  one_operands (inl x) (inr (inr (inl y))) = absurd (omega (arith, x.0, y.0))
  one_operands (inl x) (inr (inr (inr y))) = absurd (y.0 x.0)
  one_operands (inr (inl x)) (inl y) = absurd (omega (arith, x.0, y.0))
  one_operands (inr (inl x)) (inr (inl y)) = one_lookup pc rest m n x.1 y.1
  one_operands (inr (inl x)) (inr (inr (inl y))) = absurd (omega (arith, x.0, y.0))
  one_operands (inr (inl x)) (inr (inr (inr y))) = absurd (y.1 x.0)
  one_operands (inr (inr (inl x))) (inl y) = absurd (omega (arith, x.0, y.0))
  one_operands (inr (inr (inl x))) (inr (inl y)) = absurd (omega (arith, x.0, y.0))
  one_operands (inr (inr (inl x))) (inr (inr (inl y))) = let same = sym x.1 ∙ y.1 in cc
  one_operands (inr (inr (inl x))) (inr (inr (inr y))) = absurd (y.2 x.0)
  one_operands (inr (inr (inr x))) (inl y) = absurd (x.0 y.0)
  one_operands (inr (inr (inr x))) (inr (inl y)) = absurd (x.1 y.0)
  one_operands (inr (inr (inr x))) (inr (inr (inl y))) = absurd (x.2 y.0)
  one_operands (inr (inr (inr x))) (inr (inr (inr y))) = let same = sym x.3 ∙ y.3 in cc

-- two sizes of the same bytes are equal
pub one_size : (pc : ℕ) (bytes : List ℕ) (m n : ℕ) → HasSize pc bytes m → HasSize pc bytes n → m ≡ n
one_size pc [] m n x y = absurd x
one_size pc (opcode ∷ rest) m n x y = one_operands pc opcode rest m n x.0 y.0

-- ---- its bytes

-- a size that is chosen
choice_some : (b : Bool) (m size : ℕ) (o : Option ℕ) → 0 < m → (o ≡ Some size → 0 < size)
    → cond b (Some m) o ≡ Some size
    → 0 < size
choice_some true m size o some other e = let same : m ≡ size = cc in omega (arith, same)
choice_some false m size o some other e = other e

wide_some : (rest : List ℕ) (size : ℕ) → wide_size rest ≡ Some size → 0 < size
wide_some [] size e = absurd (none-some size e)
wide_some (n ∷ rest) size e =
    choice_some _ 4 size _ (omega arith) (choice_some _ 6 size _ (omega arith) (λ e. absurd (none-some size e))) e

fixed_some : (opcode size : ℕ) → fixed_size opcode ≡ Some size → 0 < size
fixed_some opcode size e =
    choice_some _ 2 size _ (omega arith) (choice_some _ 3 size _ (omega arith)
    (choice_some _ 4 size _ (omega arith) (choice_some _ 5 size _ (omega arith)
    (choice_some _ 1 size _ (omega arith) (λ e. absurd (none-some size e)))))) e

operands_some : (pc opcode : ℕ) (rest : List ℕ) (size : ℕ) → HasOperands pc opcode rest size → 0 < size
operands_some pc opcode rest size (inl table) = omega (arith, table.1.is)
operands_some pc opcode rest size (inr (inl lookup)) = omega (arith, lookup.1.is)
operands_some pc opcode rest size (inr (inr (inl wide))) = wide_some rest size wide.1
operands_some pc opcode rest size (inr (inr (inr plain))) = fixed_some opcode size plain.3

-- an instruction has a byte at least, and its bytes are there
pub size_within : (pc : ℕ) (bytes : List ℕ) (size : ℕ) → HasSize pc bytes size → (0 < size) × (size ≤ length bytes)
size_within pc [] size h = absurd h
size_within pc (opcode ∷ rest) size h = (operands_some pc opcode rest size h.0, omega (arith, h.1))

-- the instruction at a pc begins and ends within the bytes
pub size_inside : (bytes : List ℕ) (pc size : ℕ) → HasSize pc (drop pc bytes) size
    → (0 < size) × (pc + size ≤ length bytes)
size_inside bytes pc size h =
    let within = size_within pc (drop pc bytes) size h in
    (within.0, omega (arith, within.0, within.1, length-drop pc bytes))
