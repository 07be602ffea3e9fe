-- Valuations that are shown, and formulas that blast terms.
use Rattle.std.proofs.Common.{◌≡◌, ◌<◌, ◌+◌, ◌*◌, ◌^◌, ◌%◌, ◌↔◌, ◌++◌, ◌||◌, ℕ, Bool, true, false, zero, suc, List}
use Rattle.std.proofs.Common.{[], ◌∷◌, length, take}
use Rattle.std.proofs.Common.{slice_get, Option, Some, None, refl, sym, ap, ◌∙◌, subst, arith}
use Rattle.std.specs.Prelude.{IsTrue, Contains, slice_index}
use Rattle.std.proofs.Math.Nat.{mod-eq_of_lt}
use Rattle.std.proofs.lemmas.List.{length-append}
use Rattle.std.proofs.lemmas.Option.{same_Some, none-some}
use Rattle.std.specs.List.Sorted.{IsPermutation}
use Rattle.std.proofs.lemmas.List.Sorted.{IsPermutation-refl}
use Rattle.cn_clauses.specs.declared.lit.Lit.{Lit}
use Rattle.cn_clauses.specs.declared.formula.Formula.{Formula}
use Rattle.cn_clauses.specs.Literals.{lit_value}
use Rattle.cn_clauses.specs.Satisfaction.{clause_holds, Satisfies, Agrees}
use Rattle.cn_clauses.specs.Formulas.{variables_of, clauses_of}
use Rattle.cn_clauses.specs.Laws.{ContinuesKeeps}
use Rattle.bb_arith.specs.Words.{number_of}
use Rattle.jv_list.specs.Numbers.{bit_number}
use Rattle.tm_terms.specs.declared.op.Op.{Op}
use Rattle.tm_terms.specs.declared.op.Op.TheVariants.{Free}
use Rattle.tm_terms.specs.declared.sort.Sort.{Sort}
use Rattle.tm_terms.specs.declared.sort.Sort.TheVariants.{Bool as Truth}
use Rattle.tm_terms.specs.Words.{width_of}
use Rattle.tm_terms.specs.Terms.{is_free, free_count, term_sort, AreTerms, Continues}
use Rattle.tm_terms.specs.Laws.{SortStands, FreeValue, SortKept, ValueKept}
use Rattle.bb_terms.specs.Tables.{HasWord, ShowsValuation, IsTable, ExtendsOnce, IsExact}
use Rattle.bb_terms.specs.Blasts.{AreUnits, Blasts}
use Rattle.bb_terms.proofs.NumberLemmas.{below_width}
use Rattle.bb_terms.proofs.TableLemmas.{shows_less}

pub empty_table : (f : Formula) (ops : List Op) → IsTable f ops []
empty_table f ops = record {
  placed = λ k lits has. absurd (none-some (Some lits) has);
  wide = λ k lits has. absurd (none-some (Some lits) has);
  within = λ k lits has. absurd (none-some (Some lits) has);
  values = λ k lits w v has h shows. absurd (none-some (Some lits) has);
}

pub empty_exact : (f : Formula) (ops : List Op) → variables_of f ≡ 0 → clauses_of f ≡ [] → IsExact f ops []
empty_exact f ops none empty = record {
  shown = λ v. (
    λ x. false,
    subst (λ (clauses : List (List Lit)). Satisfies (λ x. false) clauses) (sym empty) refl,
    λ k s lits at has. absurd (none-some (Some lits) has),
  );
  only = λ a b v ha hb one other. λ x lt. absurd (omega (arith, lt, none));
}

pub exact_through : ContinuesKeeps → (ops : List Op) (old new : Formula) (from to : List (Option (List Lit)))
    → IsExact old ops from → ExtendsOnce ops old from new to → IsExact new ops to
exact_through keeps ops old new from to exact once = record {
  shown = λ v.
      let p = exact.shown v in
      let q = once.keeps.extends p.0 v p.1 p.2 in
      (q.0, q.1.satisfies, q.2);
  only = λ a b v ha hb one other.
      let grown = once.keeps.continues in
      once.only a b v ha hb
      (exact.only a b v (keeps old new grown a ha) (keeps old new grown b hb)
      (shows_less ops from to a v once.keeps.words one) (shows_less ops from to b v once.keeps.words other)) one other;
}

-- a number in front of others, where it is wanted
abbrev front : Bool → ℕ → List ℕ → List ℕ
front true x rest = x ∷ rest
front false x rest = rest

-- the numbers at the places of free terms
abbrev numbers_at : (ℕ → ℕ) → ℕ → List Op → List ℕ
numbers_at number i [] = []
numbers_at number i (op ∷ ops) = front (is_free op) (number i) (numbers_at number (suc i) ops)

behind : (t : Bool) (x n : ℕ) (rest : List ℕ) → slice_index (front t x rest) (bit_number t + n) ≡ slice_index rest n
behind true x n rest = let next : 1 + n ≡ suc n = omega arith in ap (slice_index (x ∷ rest)) next
behind false x n rest = let same : 0 + n ≡ n = omega arith in ap (slice_index rest) same

number_of_free : (number : ℕ → ℕ) (i k : ℕ) (s : Sort) (ops : List Op) → slice_get ops k ≡ Some (Free s)
    → slice_index (numbers_at number i ops) (free_count (take k ops)) ≡ number (i + k)
unfolding free_count
number_of_free number i k s [] at = absurd (none-some (Free s) at)
number_of_free number i zero s (op ∷ ops) at =
    let is : op ≡ Free s = same_Some op (Free s) at in
    let same : i ≡ i + 0 = omega arith in
    ap (λ (o : Op). slice_index (front (is_free o) (number i) (numbers_at number (suc i) ops)) 0) is ∙ ap number same
number_of_free number i (suc k) s (op ∷ ops) at =
    let same : suc i + k ≡ i + suc k = omega arith in
    behind (is_free op) (number i) (free_count (take k ops)) (numbers_at number (suc i) ops)
    ∙ number_of_free number (suc i) k s ops at ∙ ap number same

-- the number that the word at a place shows
abbrev shown_number : (ℕ → Bool) → Option (Option (List Lit)) → ℕ
shown_number w (Some (Some lits)) = number_of w lits
shown_number w (Some None) = 0
shown_number w None = 0

pub shows_some : FreeValue → SortStands → (f : Formula) (ops : List Op) (words : List (Option (List Lit)))
    (w : ℕ → Bool) → AreTerms ops → IsTable f ops words → (v : List ℕ) × ShowsValuation ops words w v
shows_some value sorts f ops words w terms table =
    let number : ℕ → ℕ = λ i. shown_number w (slice_get words i) in
    let v = numbers_at number 0 ops in (
      v,
      λ k s lits at has.
          let wide = table.wide k lits has ∙ ap width_of (sorts ops k (Free s) terms at) in
          let none : 0 + k ≡ k = omega arith in
          let is = number_of_free number 0 k s ops at ∙ ap number none ∙ ap (shown_number w) has in
          sym (value ops k s v at ∙ ap (λ (n : ℕ). n % 2 ^ width_of s) is
          ∙ mod-eq_of_lt (below_width w lits (width_of s) wide)),
    )

one_literal : (w : ℕ → Bool) (clause : List Lit) → length clause ≡ 1
    → IsTrue (clause_holds w clause) ↔ (number_of w clause ≡ 1)
one_literal w [] wide = absurd (omega (arith, wide))
one_literal w (x ∷ y ∷ rest) wide = absurd (omega (arith, wide))
one_literal w (lit ∷ []) wide = of_bit (lit_value w lit)
  where
    of_bit : (t : Bool) → IsTrue (t || false) ↔ (bit_number t + 2 * 0 ≡ 1)
    of_bit true = ((λ h. refl), (λ h. refl))
    of_bit false = ((λ h. absurd (true-false h)), (λ h. absurd (omega (arith, h))))
      where
        true-false : IsTrue false → ⊥
        true-false h = let wrong : false ≡ true = h in cc

pub units_blast : FreeValue → SortStands → (ops : List Op) (terms : List ℕ) (old new : Formula)
    (words : List (Option (List Lit))) (units : List (List Lit)) → AreTerms ops → IsTable old ops words
    → IsExact old ops words → variables_of new ≡ variables_of old → clauses_of new ≡ clauses_of old ++ units
    → AreUnits words terms units → ((k : ℕ) → Contains terms k → term_sort ops k ≡ Truth) → Blasts ops terms new
units_blast value sorts ops terms old new words units fits table exact same clauses each truths = record {
  words = words;
  gates = clauses_of old;
  units = units;
  clauses = subst (λ (list : List (List Lit)). IsPermutation list (clauses_of old ++ units)) (sym clauses)
      (IsPermutation-refl (clauses_of old ++ units));
  each = each;
  shows = λ w h. shows_some value sorts old ops words w fits table;
  shown = exact.shown;
  only = λ a b v ha hb one other.
      subst (λ (n : ℕ). Agrees n a b) (sym same) (exact.only a b v ha hb one other);
  unit = λ w v k clause h shows stands has.
      let wide = table.wide k clause has ∙ ap width_of (truths k stands) in
      let holds = one_literal w clause wide in
      let is = table.values k clause w v has h shows in
      ((λ t. sym is ∙ holds.0 t), (λ e. holds.1 (is ∙ e)));
}

at_front : (xs ys : List Op) (k : ℕ) → k < length xs → slice_get (xs ++ ys) k ≡ slice_get xs k
at_front [] ys k lt = absurd (omega (arith, lt))
at_front (x ∷ xs) ys zero lt = refl
at_front (x ∷ xs) ys (suc k) lt = at_front xs ys k (omega (arith, lt))

front_shorter : (xs ys zs : List Op) (k : ℕ) → zs ≡ xs ++ ys → k < length xs → k < length zs
front_shorter xs ys zs k is lt =
    let all = ap (length {A = Op}) is ∙ length-append xs ys in
    omega (arith, all, lt)

-- a bank that grew
module _ (sorts : SortKept) (values : ValueKept) (f : Formula) (old new : List Op) (words : List (Option (List Lit)))
    (grown : Continues old new) (table : IsTable f old words) where
  same_place : (k : ℕ) (lits : List Lit) → HasWord words k lits → slice_get new k ≡ slice_get old k
  same_place k lits has =
      ap (λ (ops : List Op). slice_get ops k) grown.1 ∙ at_front old grown.0 k (table.placed k lits has)

  shows_old : (w : ℕ → Bool) (v : List ℕ) → ShowsValuation new words w v → ShowsValuation old words w v
  shows_old w v shows = λ k s lits at has.
      shows k s lits (same_place k lits has ∙ at) has ∙ values old new v k grown (table.placed k lits has)

  shows_new : (w : ℕ → Bool) (v : List ℕ) → ShowsValuation old words w v → ShowsValuation new words w v
  shows_new w v shows = λ k s lits at has.
      shows k s lits (sym (same_place k lits has) ∙ at) has ∙ sym (values old new v k grown (table.placed k lits has))

  pub table_later : IsTable f new words
  table_later = record {
    placed = λ k lits has. front_shorter old grown.0 new k grown.1 (table.placed k lits has);
    wide = λ k lits has.
        table.wide k lits has ∙ ap width_of (sym (sorts old new k grown (table.placed k lits has)));
    within = table.within;
    values = λ k lits w v has h shows.
        table.values k lits w v has h (shows_old w v shows)
        ∙ sym (values old new v k grown (table.placed k lits has));
  }

  pub exact_later : IsExact f old words → IsExact f new words
  exact_later exact = record {
    shown = λ v. let p = exact.shown v in (p.0, p.1, shows_new p.0 v p.2);
    only = λ a b v ha hb one other. exact.only a b v ha hb (shows_old a v one) (shows_old b v other);
  }
