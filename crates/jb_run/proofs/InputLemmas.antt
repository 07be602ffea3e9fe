-- The ints that words show under an assignment, and the input of these ints.
use Rattle.std.proofs.Common.{◌≡◌, ◌<◌, ◌≤◌, ◌≢◌, ◌+◌, ◌^◌, ◌↔◌, ℕ, ℤ, Bool, true, false, List, [], ◌∷◌, ◌++◌, length}
use Rattle.std.proofs.Common.{map, All, Option, Some, refl, sym, ap, ◌∙◌, subst, arith, below_more}
use Rattle.std.specs.Prelude.{suc, bit_or, IsTrue, FitsSigned}
use Rattle.std.specs.Option.{is_some}
use Rattle.std.specs.Int.{IsBitSet, cast_signed, w32}
use Rattle.std.specs.Int as int
use Rattle.std.proofs.lemmas.Int.{of_z-to_z}
use Rattle.std.proofs.lemmas.Nat.Bits.{bit_at-zero}
use Rattle.std.proofs.lemmas.List.Elements.{All-nil, All-cons}
use borrow.Author.Gap.{read_sfits}
use Rattle.jv_base.specs.declared.input.Tree.{Tree}
use Rattle.jb_run.specs.declared.int_bits.IntBits.{IntBits}
use Rattle.jb_run.specs.Gate.{bit_of}
use Rattle.jb_run.specs.Inputs.{int_of, IsIntTree}
use Rattle.jb_run.specs.Shown.{ShowsInt, ShowInts}
use Rattle.jb_run.proofs.IntGateLemmas.{number, bit_from}
use Rattle.jv_list.proofs.BitLemmas.{set_same, set_other}
use Rattle.std.proofs.lemmas.List.{map_push}

-- the pattern has the bits of the int below an index, and no others
pub record PatternSoFar (a : ℕ → Bool) (word : IntBits) (pattern i : ℕ) : Type 0 where
  pub each : (k : ℕ) → k < i → int.bit_at pattern k ≡ number (bit_of a word k)
  pub above : (k : ℕ) → i ≤ k → int.bit_at pattern k ≡ 0

pub pattern_none : (a : ℕ → Bool) (word : IntBits) → PatternSoFar a word 0 0
pattern_none a word = record {
  each = λ k below. absurd (omega (arith, below));
  above = λ k above. bit_at-zero k;
}

-- one more bit that is true
pub pattern_set : (a : ℕ → Bool) (word : IntBits) (pattern i : ℕ) → PatternSoFar a word pattern i
    → bit_of a word i ≡ true → PatternSoFar a word (bit_or pattern (2 ^ i)) (i + 1)
pattern_set a word pattern i so on = record {
  each = below_more (λ (k : ℕ). int.bit_at (bit_or pattern (2 ^ i)) k ≡ number (bit_of a word k)) i
      (λ k below.
      let ne : k ≢ i = λ e. omega (arith, e, below) in
      set_other pattern i k ne ∙ so.each k below)
      (set_same pattern i (so.above i (omega arith)) ∙ ap number (sym on));
  above = λ k above.
      let ne : k ≢ i = λ e. omega (arith, e, above) in
      set_other pattern i k ne ∙ so.above k (omega (arith, above));
}

-- one more bit that is false
pub pattern_kept : (a : ℕ → Bool) (word : IntBits) (pattern i : ℕ) → PatternSoFar a word pattern i
    → bit_of a word i ≡ false → PatternSoFar a word pattern (i + 1)
pattern_kept a word pattern i so off = record {
  each = below_more (λ (k : ℕ). int.bit_at pattern k ≡ number (bit_of a word k)) i so.each (so.above i (omega arith)
      ∙ ap number (sym off));
  above = λ k above. so.above k (omega (arith, above));
}

-- the pattern as an int is what the word shows
pub pattern_shows : (a : ℕ → Bool) (word : IntBits) (pattern i : ℕ) → PatternSoFar a word pattern i → 32 ≤ i
    → pattern < 2 ^ 32 → ShowsInt a word (cast_signed w32 pattern)
pattern_shows a word pattern i so past below = record {
  bits = λ k inside.
      subst (λ (z : ℕ). IsTrue (bit_of a word k) ↔ IsBitSet z k) (sym (of_z-to_z w32 pattern below))
      (bit_from (bit_of a word k) pattern k (so.each k (omega (arith, inside, past))));
  fits = read_sfits w32 pattern;
}

-- the arguments are ints, which the words show
pub record ArgsShown (a : ℕ → Bool) (words : List IntBits) (args : List Tree) : Type 0 where
  pub ints : List ℤ
  pub are : map int_of args ≡ map Some ints
  pub shows : ShowInts a words ints

show_push : (a : ℕ → Bool) (words : List IntBits) (ints : List ℤ) (word : IntBits) (n : ℤ) → ShowInts a words ints
    → ShowsInt a word n → ShowInts a (words ++ word ∷ []) (ints ++ n ∷ [])
show_push a [] [] word n shows here = (here, tt)
show_push a (w ∷ words) (m ∷ ints) word n shows here = (shows.0, show_push a words ints word n shows.1 here)
show_push a [] (m ∷ ints) word n shows here = absurd shows
show_push a (w ∷ words) [] word n shows here = absurd shows

-- one more word, and its int
pub args_more : (a : ℕ → Bool) (words more : List IntBits) (word : IntBits) (args new : List Tree) (arg : Tree) (n : ℤ)
    → ArgsShown a words args → more ≡ words ++ word ∷ [] → new ≡ args ++ arg ∷ [] → int_of arg ≡ Some n
    → ShowsInt a word n → ArgsShown a more new
args_more a words more word args new arg n so more_is new_is int here = record {
  ints = so.ints ++ n ∷ [];
  are =
      ap (map int_of) new_is ∙ map_push int_of args arg ∙ ap (λ (w : List (Option ℤ)). w ++ int_of arg ∷ []) so.are
      ∙ ap (λ (x : Option ℤ). map Some so.ints ++ x ∷ []) int ∙ sym (map_push Some so.ints n);
  shows = subst (λ (w : List IntBits). ShowInts a w (so.ints ++ n ∷ [])) (sym more_is)
      (show_push a words so.ints word n so.shows here);
}

-- arguments that are ints stand in the inputs of thin methods
pub ints_are : (args : List Tree) (ints : List ℤ) → map int_of args ≡ map Some ints → All IsIntTree args
ints_are [] ints are = All-nil IsIntTree
ints_are (arg ∷ args) (n ∷ ints) are =
    let head : int_of arg ≡ Some n = cc in
    let tail : map int_of args ≡ map Some ints = cc in
    All-cons IsIntTree arg args (ap is_some head) (ints_are args ints tail)
ints_are (arg ∷ args) [] are = absurd cc

-- ints that words show have 32 bits
pub ints_fit : (a : ℕ → Bool) (words : List IntBits) (ints : List ℤ) → ShowInts a words ints → All (FitsSigned w32) ints
ints_fit a [] [] shows = All-nil (FitsSigned w32)
ints_fit a (word ∷ words) (n ∷ ints) shows =
    All-cons (FitsSigned w32) n ints shows.0.fits (ints_fit a words ints shows.1)
ints_fit a [] (n ∷ ints) shows = absurd shows
ints_fit a (word ∷ words) [] shows = absurd shows

-- there is one for each word
pub ints_number : (a : ℕ → Bool) (words : List IntBits) (ints : List ℤ) → ShowInts a words ints
    → length ints ≡ length words
ints_number a [] [] shows = refl
ints_number a (word ∷ words) (n ∷ ints) shows = ap suc (ints_number a words ints shows.1)
ints_number a [] (n ∷ ints) shows = absurd shows
ints_number a (word ∷ words) [] shows = absurd shows
