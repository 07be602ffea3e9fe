-- A table that gets one more word.
use Rattle.std.proofs.Common.{◌≡◌, ◌<◌, ◌≤◌, ◌^◌, ◌==◌, ℕ, Bool, false, List, length, slice_get}
use Rattle.std.proofs.Common.{Option, Some, set, refl, sym, ap, ◌∙◌, subst, arith, inl}
use Rattle.std.proofs.Common.{inr}
use Rattle.std.proofs.Common.{true≢false}
use Rattle.std.proofs.lemmas.Option.{same_Some}
use Rattle.std.proofs.lemmas.Bool.{cases_Bool, eqb-true, eq-eqb}
use Rattle.jv_list.proofs.PlaceLemmas.{slice_get-set_same, slice_get-set_other}
use Rattle.cn_clauses.specs.declared.lit.Lit.{Lit}
use Rattle.cn_clauses.specs.declared.formula.Formula.{Formula}
use Rattle.cn_clauses.specs.Satisfaction.{Satisfies, Agrees}
use Rattle.cn_clauses.specs.Formulas.{variables_of, clauses_of}
use Rattle.cn_clauses.specs.Extension.{Continues}
use Rattle.cn_clauses.specs.Laws.{ContinuesItself, ContinuesThrough, ContinuesKeeps, ValueAgrees}
use Rattle.bb_gates.specs.Growth.{AreOf, IsConservative}
use Rattle.bb_arith.specs.Words.{number_of}
use Rattle.tm_terms.specs.declared.op.Op.{Op}
use Rattle.tm_terms.specs.declared.op.Op.TheVariants.{Free}
use Rattle.tm_terms.specs.declared.sort.Sort.{Sort}
use Rattle.tm_terms.specs.Words.{width_of}
use Rattle.tm_terms.specs.Terms.{is_free, term_sort, term_value, op_sort, op_value, AreTerms}
use Rattle.tm_terms.specs.Laws.{SortStands, ValueStands, ValueBelow}
use Rattle.bb_terms.specs.Tables.{HasWord, HasSome, ShowsValuation, IsTable, KeepsValuations, ExtendsOnce}
use Rattle.bb_terms.specs.Calls.Words.{IsFreeWord}
use Rattle.bb_terms.specs.Calls.Terms.{IsTermWord, PutsWord, IsStep, HasSameWords, GetsAtMost}
use Rattle.bb_terms.proofs.WordLemmas.{word_grown}
use Rattle.bb_terms.proofs.BitLemmas.{number_agrees, bits_of, bits_wide, bits_shown, same_bits}

-- an assignment that agrees shows what the other shows, by words of the formula
pub shows_agrees : ValueAgrees → (formula : Formula) (ops : List Op) (words : List (Option (List Lit))) (a b : ℕ → Bool)
    (v : List ℕ) → IsTable formula ops words → Agrees (variables_of formula) a b → ShowsValuation ops words a v
    → ShowsValuation ops words b v
shows_agrees agree formula ops words a b v table agrees shows = λ k s lits at has.
    sym (number_agrees agree (variables_of formula) a b lits agrees (table.within k lits has)) ∙ shows k s lits at has

module _ (ops : List Op) (from to : List (Option (List Lit))) (k : ℕ) (op : Op) (lits : List Lit)
    (at : slice_get ops k ≡ Some op) (puts : PutsWord from to k lits) where
  -- what the new table shows, the old one shows
  pub shows_before : (w : ℕ → Bool) (v : List ℕ) → ShowsValuation ops to w v → ShowsValuation ops from w v
  shows_before w v shows = λ j s l stands has. shows j s l stands (puts.kept j l has)

  not_free : (s : Sort) (j : ℕ) → is_free op ≡ false → j ≡ k → slice_get ops j ≡ Some (Free s) → ⊥
  not_free s j kind same stands =
      let is : op ≡ Free s = same_Some op (Free s) (sym at ∙ ap (slice_get ops) (sym same) ∙ stands) in
      true≢false (ap is_free (sym is) ∙ kind)

  -- and the new one, where the term is not free
  pub shows_after : is_free op ≡ false → (w : ℕ → Bool) (v : List ℕ) → ShowsValuation ops from w v
      → ShowsValuation ops to w v
  shows_after kind w v shows = λ j s l stands has.
      elim (puts.back j l has) [
        | inl here ↦ absurd (not_free s j kind here.0 stands)
        | inr there ↦ shows j s l stands there
      ]

  -- or has the value
  pub shows_free : (w : ℕ → Bool) (v : List ℕ) → number_of w lits ≡ term_value ops v k → ShowsValuation ops from w v
      → ShowsValuation ops to w v
  shows_free w v is shows = λ j s l stands has.
      elim (puts.back j l has) [
        | inl here ↦ ap (number_of w) here.1 ∙ is ∙ ap (term_value ops v) (sym here.0)
        | inr there ↦ shows j s l stands there
      ]

  -- the table with a word of the formula for the term
  pub table_with : (old new : Formula) → variables_of old ≤ variables_of new → k < length ops
      → ((w : ℕ → Bool) → Satisfies w (clauses_of new) → Satisfies w (clauses_of old)) → AreOf new lits
      → length lits ≡ width_of (term_sort ops k)
      → ((w : ℕ → Bool) (v : List ℕ) → Satisfies w (clauses_of new) → ShowsValuation ops to w v
      → number_of w lits ≡ term_value ops v k)
      → IsTable old ops from → IsTable new ops to
  table_with old new grows place keeps within wide value table = record {
    placed = λ j l has. elim (puts.back j l has) [
      | inl here ↦ subst (λ (i : ℕ). i < length ops) (sym here.0) place
      | inr there ↦ table.placed j l there
    ];
    wide = λ j l has. elim (puts.back j l has) [
      | inl here ↦ ap (length {A = Lit}) here.1 ∙ wide ∙ ap (λ (i : ℕ). width_of (term_sort ops i)) (sym here.0)
      | inr there ↦ table.wide j l there
    ];
    within = λ j l has. elim (puts.back j l has) [
      | inl here ↦ subst (AreOf new) (sym here.1) within
      | inr there ↦ word_grown old new l grows (table.within j l there)
    ];
    values = λ j l w v has h shows. elim (puts.back j l has) [
      | inl here ↦ ap (number_of w) here.1 ∙ value w v h shows ∙ ap (term_value ops v) (sym here.0)
      | inr there ↦ table.values j l w v there (keeps w h) (shows_before w v shows)
    ];
  }

  -- a term that is not free
  module _ (old new : Formula) (table : IsTable old ops from) (kind : is_free op ≡ false) (place : k < length ops)
      (word : IsTermWord ops from (width_of (op_sort ops op)) old new lits (λ v. op_value ops v op))
      (terms : AreTerms ops) where
    pub term_table : SortStands → ValueStands → IsTable new ops to
    term_table sorts values =
        table_with old new word.extends.continues.grows place word.extends.keeps word.within
        (word.wide ∙ ap width_of (sym (sorts ops k op terms at)))
        (λ w v h shows. word.is w v h (shows_before w v shows) ∙ sym (values ops k op v terms at kind)) table

    pub term_once : ValueAgrees → ExtendsOnce ops old from new to
    term_once agree = record {
      keeps = record {
        continues = word.extends.continues;
        words = puts.kept;
        extends = λ a v h shows.
            let b = word.extends.extends a h in
            (b.0, b.1, shows_after kind b.0 v (shows_agrees agree old ops from a b.0 v table b.1.agrees shows));
      };
      only = λ a b v ha hb agrees first second. word.extends.only a b ha hb agrees;
    }

  -- a free term
  module _ (s : Sort) (old new : Formula) (table : IsTable old ops from) (free : op ≡ Free s) (place : k < length ops)
      (word : IsFreeWord (width_of s) old new lits) (sort : term_sort ops k ≡ s) where
    pub free_table : IsTable new ops to
    free_table =
        let here : slice_get ops k ≡ Some (Free s) = at ∙ ap Some free in
        table_with old new word.grows.continues.grows place word.grows.keeps word.grows.within
        (word.wide ∙ ap width_of (sym sort)) (λ w v h shows. shows k s lits here puts.here) table

    pub free_once : ValueAgrees → ValueBelow → ExtendsOnce ops old from new to
    free_once agree below =
        let here : slice_get ops k ≡ Some (Free s) = at ∙ ap Some free in
        record {
          keeps = record {
            continues = word.grows.continues;
            words = puts.kept;
            extends = λ a v h shows.
                let value = term_value ops v k in
                let n = width_of s in
                let lt = subst (λ (t : Sort). value < 2 ^ width_of t) sort (below ops v k) in
                let b = word.grows.extends a h (bits_of n value) (bits_wide n value ∙ sym word.wide) in (
                  b.0,
                  b.1,
                  shows_free b.0 v (bits_shown b.0 lits n value lt b.2)
                      (shows_agrees agree old ops from a b.0 v table b.1.agrees shows),
                );
          };
          only = λ a b v ha hb agrees first second.
              word.grows.only a b ha hb agrees
              (same_bits a b lits (first k s lits here puts.here ∙ sym (second k s lits here puts.here)));
        }

-- a table of a formula that grew without a word
pub table_kept : ContinuesKeeps → (old new : Formula) (ops : List Op) (words : List (Option (List Lit)))
    → Continues old new → IsTable old ops words → IsTable new ops words
table_kept keeps old new ops words grown table = record {
  placed = table.placed;
  wide = table.wide;
  within = λ k lits has. word_grown old new lits grown.grows (table.within k lits has);
  values = λ k lits w v has h shows. table.values k lits w v has (keeps old new grown w h) shows;
}

-- and each assignment extends
pub valuations_kept : ValueAgrees → (old new : Formula) (ops : List Op) (words : List (Option (List Lit)))
    → IsTable old ops words → IsConservative old new → KeepsValuations ops old words new words
valuations_kept agree old new ops words table grown = record {
  continues = grown.continues;
  words = λ k lits has. has;
  extends = λ a v h shows.
      let b = grown.extends a h in
      (b.0, b.1, shows_agrees agree old ops words a b.0 v table b.1.agrees shows);
}

pub step_kept : ValueAgrees → ContinuesKeeps → (old new : Formula) (ops : List Op) (words : List (Option (List Lit)))
    → IsTable old ops words → IsConservative old new → IsStep ops old words new words
step_kept agree keeps old new ops words table grown = record {
  table = table_kept keeps old new ops words grown.continues table;
  keeps = valuations_kept agree old new ops words table grown;
  room = omega arith;
}

pub puts_word : (from to : List (Option (List Lit))) (k : ℕ) (lits : List Lit) → k < length from
    → (HasSome from k → ⊥) → to ≡ set from k (Some lits) → PutsWord from to k lits
puts_word from to k lits lt none is =
    subst (λ (t : List (Option (List Lit))). PutsWord from t k lits) (sym is)
    record {
      here = slice_get-set_same from k (Some lits) lt;
      kept = λ j l has.
          slice_get-set_other from k j (Some lits)
          (λ same. none (l, ap (slice_get from) (sym same) ∙ has)) ∙ has;
      back = λ j l has.
          elim (cases_Bool (j == k)) [
            | inl test ↦
                let same = eqb-true j k test in
                let here = ap (slice_get (set from k (Some lits))) (sym same) ∙ has in
                inl (
                  same,
                  same_Some l lits (same_Some (Some l) (Some lits)
                      (sym here ∙ slice_get-set_same from k (Some lits) lt)),
                )
            | inr other ↦
                inr (sym (slice_get-set_other from k j (Some lits)
                (λ same. true≢false (sym (eq-eqb j k same) ∙ other))) ∙ has)
          ];
    }

pub gets_one : (from to : List (Option (List Lit))) (k : ℕ) (lits : List Lit) → PutsWord from to k lits
    → GetsAtMost k from to
gets_one from to k lits puts = λ j l has.
    elim (puts.back j l has) [ inl here ↦ inr here.0 | inr there ↦ inl there ]

-- steps one after the other
pub through_valuations : ContinuesThrough → (ops : List Op) (old mid new : Formula) (a b c : List (Option (List Lit)))
    → KeepsValuations ops old a mid b → KeepsValuations ops mid b new c → KeepsValuations ops old a new c
through_valuations through ops old mid new a b c first second = record {
  continues = through old mid new first.continues second.continues;
  words = λ k lits has. second.words k lits (first.words k lits has);
  extends = λ w v h shows.
      let p = first.extends w v h shows in
      let q = second.extends p.0 v p.1.satisfies p.2 in (
        q.0,
        record {
          agrees = λ x lt. p.1.agrees x lt
              ∙ q.1.agrees x (let grows = first.continues.grows in omega (arith, lt, grows));
          satisfies = q.1.satisfies;
        },
        q.2,
      );
}

-- what the longer table shows, the shorter shows
pub shows_less : (ops : List Op) (from to : List (Option (List Lit))) (w : ℕ → Bool) (v : List ℕ)
    → ((k : ℕ) (lits : List Lit) → HasWord from k lits → HasWord to k lits) → ShowsValuation ops to w v
    → ShowsValuation ops from w v
shows_less ops from to w v kept shows = λ k s lits at has. shows k s lits at (kept k lits has)

pub through_once : ContinuesThrough → ContinuesKeeps → (ops : List Op) (old mid new : Formula)
    (a b c : List (Option (List Lit))) → ExtendsOnce ops old a mid b → ExtendsOnce ops mid b new c
    → ExtendsOnce ops old a new c
through_once through keeps ops old mid new a b c first second = record {
  keeps = through_valuations through ops old mid new a b c first.keeps second.keeps;
  only = λ w u v hw hu agrees one other.
      let back = second.keeps.continues in
      second.only w u v hw hu
      (first.only w u v (keeps mid new back w hw) (keeps mid new back u hu) agrees
      (shows_less ops b c w v second.keeps.words one) (shows_less ops b c u v second.keeps.words other)) one other;
}

pub through_step : ContinuesThrough → (ops : List Op) (old mid new : Formula) (a b c : List (Option (List Lit)))
    → IsStep ops old a mid b → IsStep ops mid b new c → IsStep ops old a new c
through_step through ops old mid new a b c first second = record {
  table = second.table;
  keeps = through_valuations through ops old mid new a b c first.keeps second.keeps;
  room = let p = first.room in let q = second.room in omega (arith, p, q);
}

-- the same words in one formula
module _ (itself : ContinuesItself) (ops : List Op) (f : Formula) (from to : List (Option (List Lit)))
    (same : HasSameWords from to) (table : IsTable f ops from) where
  pub same_table : IsTable f ops to
  same_table = record {
    placed = λ k lits has. table.placed k lits (same.back k lits has);
    wide = λ k lits has. table.wide k lits (same.back k lits has);
    within = λ k lits has. table.within k lits (same.back k lits has);
    values = λ k lits w v has h shows.
        table.values k lits w v (same.back k lits has) h (shows_less ops from to w v same.there shows);
  }

  pub same_once : ExtendsOnce ops f from f to
  same_once = record {
    keeps = record {
      continues = itself f;
      words = same.there;
      extends = λ a v h shows.
          (a, record { agrees = λ x lt. refl; satisfies = h }, shows_less ops to from a v same.back shows);
    };
    only = λ a b v ha hb agrees one other. agrees;
  }
