-- Choices between words, a bit more at a time.
use Rattle.std.proofs.Common.{◌≡◌, ◌<◌, ◌≤◌, ◌+◌, ◌*◌, ◌^◌, ℕ, Bool, true, false, List, length, take, get_or, set, sym}
use Rattle.std.proofs.Common.{ap, ◌∙◌, subst, arith, if◌then◌else◌}
use Rattle.std.proofs.lemmas.List.{take_all, take_more_set}
use Rattle.cn_clauses.specs.declared.lit.Lit.{Lit}
use Rattle.cn_clauses.specs.declared.formula.Formula.{Formula}
use Rattle.cn_clauses.specs.Literals.{lit_value}
use Rattle.cn_clauses.specs.Satisfaction.{Satisfies}
use Rattle.cn_clauses.specs.Formulas.{variables_of, clauses_of}
use Rattle.cn_clauses.specs.Extension.{Extends, IsGate}
use Rattle.cn_clauses.specs.Laws.{ExtendsThrough}
use Rattle.bb_gates.specs.Values.{chosen, of_three}
use Rattle.bb_gates.specs.Growth.{AreOf, Adds}
use Rattle.bb_arith.specs.Words.{number_of, IsWordGate}
use Rattle.jv_list.specs.Numbers.{bit_number}
use Rattle.bb_arith.proofs.WordLemmas.{number_take, set_number, word_grown, word_push}

-- the number of the word that is chosen
abbrev pub chosen_number : Lit → List Lit → List Lit → (ℕ → Bool) → ℕ
chosen_number choice a b w = if lit_value w choice then number_of w a else number_of w b

-- a word with one literal more
pub word_next : ExtendsThrough → (old mid new : Formula) (i : ℕ) (made : List Lit) (lit : Lit) (bit : (ℕ → Bool) → Bool)
    (value next : (ℕ → Bool) → ℕ) → i < length made → ((w : ℕ → Bool) → value w + 2 ^ i * bit_number (bit w) ≡ next w)
    → IsWordGate old mid (take i made) value → IsGate mid new lit bit
    → IsWordGate old new (take (i + 1) (set made i lit)) next
word_next through old mid new i made lit bit value next lt more so_far gate =
    let grows : variables_of mid ≤ variables_of new = gate.extends.continues.grows in
    record {
      extends = through old mid new so_far.extends gate.extends;
      within = subst (AreOf new) (sym (take_more_set made i lit lt))
          (word_push new (take i made) lit (word_grown mid new (take i made) grows so_far.within) gate.shows.within);
      is = λ w h. set_number w made i lit (bit w) lt (gate.shows.is w h)
          ∙ ap (λ (n : ℕ). n + 2 ^ i * bit_number (bit w)) (so_far.is w (gate.extends.keeps w h))
          ∙ more w;
    }

-- a word of a formula that was extended before, for a number that is the same there
pub word_after : ExtendsThrough → (old mid new : Formula) (lits : List Lit) (value other : (ℕ → Bool) → ℕ)
    → Extends old mid → ((w : ℕ → Bool) → Satisfies w (clauses_of mid) → value w ≡ other w)
    → IsWordGate mid new lits value → IsWordGate old new lits other
word_after through old mid new lits value other grown same gate = record {
  extends = through old mid new grown gate.extends;
  within = gate.within;
  is = λ w h. gate.is w h ∙ same w (gate.extends.keeps w h);
}

-- the bits of a word so far, when they are all
pub word_whole : (old new : Formula) (i : ℕ) (made : List Lit) (value other : (ℕ → Bool) → ℕ) → length made ≤ i
    → ((w : ℕ → Bool) → value w ≡ other w) → IsWordGate old new (take i made) value → IsWordGate old new made other
word_whole old new i made value other le same gate =
    subst (λ (lits : List Lit). IsWordGate old new lits other) (take_all i made le)
    record { extends = gate.extends; within = gate.within; is = λ w h. gate.is w h ∙ same w }

choose_more : (c : Bool) (x y p x' y' : ℕ) (a b : Bool) → x' ≡ x + p * bit_number a → y' ≡ y + p * bit_number b
    → (if c then x else y) + p * bit_number (chosen c a b) ≡ (if c then x' else y')
choose_more true x y p x' y' a b first second = sym first
choose_more false x y p x' y' a b first second = sym second

pub choice_more : (choice : Lit) (a b : List Lit) (i : ℕ) (d : Lit) → i < length a → i < length b → (w : ℕ → Bool)
    → chosen_number choice (take i a) (take i b) w + 2 ^ i * bit_number
    (of_three chosen choice (get_or a i d) (get_or b i d) w)
    ≡ chosen_number choice (take (i + 1) a) (take (i + 1) b) w
choice_more choice a b i d in_a in_b w =
    choose_more (lit_value w choice) (number_of w (take i a)) (number_of w (take i b)) (2 ^ i)
    (number_of w (take (i + 1) a))
    (number_of w (take (i + 1) b)) (lit_value w (get_or a i d)) (lit_value w (get_or b i d)) (number_take w a i d in_a)
    (number_take w b i d in_b)

pub choice_whole : (choice : Lit) (a b : List Lit) (i : ℕ) → length a ≤ i → length b ≤ i → (w : ℕ → Bool)
    → chosen_number choice (take i a) (take i b) w ≡ chosen_number choice a b w
choice_whole choice a b i le_a le_b w =
    ap (λ (lits : List Lit). chosen_number choice lits (take i b) w) (take_all i a le_a)
    ∙ ap (λ (lits : List Lit). chosen_number choice a lits w) (take_all i b le_b)

pub choice_size : (i : ℕ) (old mid new : Formula) → Adds i (4 * i) old mid → Adds 1 4 mid new
    → Adds (i + 1) (4 * (i + 1)) old new
choice_size i old mid new first second = record {
  variables = let v = first.variables in let u = second.variables in omega (arith, v, u);
  clauses = let c = first.clauses in let d = second.clauses in omega (arith, c, d);
}
