-- Arithmetic of words as the equations of terms tell it.
use Rattle.std.proofs.Common.{◌≡◌, ◌+◌, ◌-◌, ◌*◌, ◌^◌, ◌%◌, ℕ, ℤ, Bool, true, false, List}
use Rattle.std.proofs.Common.{length, refl, ap, ◌∙◌}
use Rattle.std.proofs.Math.Nat.{mod-mod}
use Rattle.std.specs.Prelude.{nat_lt, int_lt}
use Rattle.cn_clauses.specs.declared.lit.Lit.{Lit}
use Rattle.cn_clauses.specs.declared.formula.Formula.{Formula}
use Rattle.bb_arith.specs.Words.{number_of, signed_of, IsWordGate}
use Rattle.jv_list.specs.Numbers.{signed_number, wrapped_number}
use Rattle.bb_terms.specs.declared.arithmetic.WordOp.{WordOp}
use Rattle.bb_terms.specs.declared.arithmetic.WordOp.TheVariants.{Add, Sub, Mul, Div, Rem, Shl, Shr, Ushr}
use Rattle.bb_terms.specs.Calls.Words.{IsWord, arithmetic_number, arithmetic_value, is_in_order}
use Rattle.bb_terms.proofs.NumberLemmas.{reduced}

-- an operation on the signed numbers of two words
pub signed_two : (f : ℤ → ℤ → ℤ) (n : ℕ) (a b : List Lit) → length a ≡ n → length b ≡ n → (w : ℕ → Bool)
    → wrapped_number n (f (signed_of w a) (signed_of w b))
    ≡ wrapped_number n (f (signed_number n (number_of w a)) (signed_number n (number_of w b)))
signed_two f n a b wide_a wide_b w =
    ap (λ (m : ℕ). wrapped_number n (f (signed_number m (number_of w a)) (signed_of w b))) wide_a
    ∙ ap (λ (m : ℕ). wrapped_number n (f (signed_number n (number_of w a)) (signed_number m (number_of w b)))) wide_b

pub signed_one : (f : ℤ → ℤ) (n : ℕ) (a : List Lit) → length a ≡ n → (w : ℕ → Bool)
    → wrapped_number n (f (signed_of w a)) ≡ wrapped_number n (f (signed_number n (number_of w a)))
signed_one f n a wide w =
    ap (λ (m : ℕ). wrapped_number n (f (signed_number m (number_of w a)))) wide

pub gate_told : (old new : Formula) (lits : List Lit) (value other : (ℕ → Bool) → ℕ)
    → ((w : ℕ → Bool) → value w ≡ other w) → IsWordGate old new lits value → IsWordGate old new lits other
gate_told old new lits value other same gate = record {
  extends = gate.extends;
  within = gate.within;
  is = λ w h. gate.is w h ∙ same w;
}

-- the value of an operation is what it names, modulo 2 ^ n
value_named : (n : ℕ) (kind : WordOp) (x y : ℕ)
    → arithmetic_value n kind x y % 2 ^ n ≡ arithmetic_number n kind x y % 2 ^ n
value_named n Add x y = mod-mod (x + y) (2 ^ n)
value_named n Sub x y = mod-mod (x + (2 ^ n - y)) (2 ^ n)
value_named n Mul x y = mod-mod (x * y) (2 ^ n)
value_named n Div x y = refl
value_named n Rem x y = refl
value_named n Shl x y = mod-mod (x * 2 ^ (y % n)) (2 ^ n)
value_named n Shr x y = refl
value_named n Ushr x y = refl

pub arithmetic_word : (n : ℕ) (kind : WordOp) (old new : Formula) (a b lits : List Lit) → length lits ≡ n
    → IsWordGate old new lits (λ w. arithmetic_value n kind (number_of w a) (number_of w b))
    → IsWord n old new lits (λ w. arithmetic_number n kind (number_of w a) (number_of w b) % 2 ^ n)
arithmetic_word n kind old new a b lits wide gate = record {
  gate = record {
    extends = gate.extends;
    within = gate.within;
    is = λ w h. reduced w lits n (arithmetic_value n kind (number_of w a) (number_of w b)) wide (gate.is w h)
        ∙ value_named n kind (number_of w a) (number_of w b);
  };
  wide = wide;
}

-- the order of signed numbers
pub signed_order : (n : ℕ) (a b x y : List Lit) → x ≡ a → y ≡ b → length a ≡ n → length b ≡ n → (w : ℕ → Bool)
    → int_lt (signed_of w x) (signed_of w y) ≡ is_in_order n true (number_of w a) (number_of w b)
signed_order n a b x y x_is y_is wide_a wide_b w =
    ap (λ (lits : List Lit). int_lt (signed_of w lits) (signed_of w y)) x_is
    ∙ ap (λ (lits : List Lit). int_lt (signed_of w a) (signed_of w lits)) y_is
    ∙ ap (λ (m : ℕ). int_lt (signed_number m (number_of w a)) (signed_of w b)) wide_a
    ∙ ap (λ (m : ℕ). int_lt (signed_number n (number_of w a)) (signed_number m (number_of w b))) wide_b

pub plain_order : (n : ℕ) (a b x y : List Lit) → x ≡ a → y ≡ b → (w : ℕ → Bool)
    → nat_lt (number_of w x) (number_of w y) ≡ is_in_order n false (number_of w a) (number_of w b)
plain_order n a b x y x_is y_is w =
    ap (λ (lits : List Lit). nat_lt (number_of w lits) (number_of w y)) x_is
    ∙ ap (λ (lits : List Lit). nat_lt (number_of w a) (number_of w lits)) y_is
