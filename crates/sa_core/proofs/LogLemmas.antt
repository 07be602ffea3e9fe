-- A log with one entry more.
use Rattle.std.proofs.Common.{◌≡◌, ℕ, zero, suc, ◌<◌, ◌≤◌, Bool, true, List, [], ◌∷◌, ◌++◌, length, take, Some}
use Rattle.std.proofs.Common.{Result, Ok, Err, OnOk, OnErr, slice_get, refl, sym, ap, ◌∙◌, subst, inl, inr, arith}
use Rattle.std.proofs.Common.{take_all}
use Rattle.std.proofs.Math.Logic.{∥∥₁_map}
use Rattle.std.proofs.lemmas.List.{map-append, take-append-le}
use Rattle.std.proofs.lemmas.List.Folds.{list_all-append}
use Rattle.std.proofs.lemmas.Bool.{and_parts, and_from}
use Rattle.std.proofs.lemmas.Option.{slice_get_within, same_Some, none-some}
use Rattle.jv_list.proofs.PlaceLemmas.{slice_get-push_cases}
use Rattle.cn_clauses.specs.declared.lit.Lit.{Lit}
use Rattle.cn_clauses.specs.declared.clause.Clause.{Clause}
use Rattle.cn_clauses.specs.Literals.{variable_of}
use Rattle.cn_clauses.specs.Clauses.{lits_of_all}
use Rattle.cn_clauses.specs.Satisfaction.{clause_holds, all_hold, Satisfies, Follows, IsClauseBelow, AreClausesBelow}
use Rattle.sa_core.specs.declared.log.LogEntry.{LogEntry}
use Rattle.sa_core.specs.declared.log.LogEntry.TheVariants.{Added, Learned}
use Rattle.sa_core.specs.SpentLog.{entry_lits, all_clauses, added_clauses, learned_count, IsLearnable, AreLearnable}
use Rattle.sa_core.specs.LogView.{LearnedHold, added_all}

pub all_push : (entries : List LogEntry) (entry : LogEntry)
    → all_clauses (entries ++ entry ∷ []) ≡ all_clauses entries ++ entry_lits entry ∷ []
all_push entries entry = map-append entry_lits entries (entry ∷ [])

pub added_push : (entries : List LogEntry) (clause : Clause)
    → added_clauses (entries ++ Added clause ∷ []) ≡ added_clauses entries ++ clause.lits ∷ []
added_push [] clause = refl
added_push (Added c ∷ entries) clause = ap (λ (l : List (List Lit)). c.lits ∷ l) (added_push entries clause)
added_push (Learned c ∷ entries) clause = added_push entries clause

pub learned_push : (entries : List LogEntry) (clause : Clause)
    → added_clauses (entries ++ Learned clause ∷ []) ≡ added_clauses entries
learned_push [] clause = refl
learned_push (Added c ∷ entries) clause = ap (λ (l : List (List Lit)). c.lits ∷ l) (learned_push entries clause)
learned_push (Learned c ∷ entries) clause = learned_push entries clause

satisfies_push : (a : ℕ → Bool) (clauses new : List (List Lit)) (lits : List Lit) → new ≡ clauses ++ lits ∷ []
    → Satisfies a clauses → clause_holds a lits ≡ true → Satisfies a new
satisfies_push a clauses new lits e h k =
    ap (all_hold a) e ∙ list_all-append (clause_holds a) clauses (lits ∷ [])
    ∙ and_from (all_hold a clauses) (all_hold a (lits ∷ [])) h (and_from (clause_holds a lits) true k refl)

satisfied_parts : (a : ℕ → Bool) (clauses new : List (List Lit)) (lits : List Lit) → new ≡ clauses ++ lits ∷ []
    → Satisfies a new → Satisfies a clauses × (clause_holds a lits ≡ true)
satisfied_parts a clauses new lits e h =
    let parts =
    and_parts (all_hold a clauses) (all_hold a (lits ∷ []))
    (sym (list_all-append (clause_holds a) clauses (lits ∷ [])) ∙ sym (ap (all_hold a) e) ∙ h) in
    (parts.0, (and_parts (clause_holds a lits) true parts.1).0)

-- a clause that follows keeps what holds
pub hold_learned : (entries new : List LogEntry) (clause : Clause) → new ≡ entries ++ Learned clause ∷ []
    → LearnedHold entries → Follows (added_clauses entries) clause.lits → LearnedHold new
hold_learned entries new clause e holds follows a sat =
    let added : Satisfies a (added_clauses entries) =
    sym (ap (λ (es : List LogEntry). all_hold a (added_clauses es)) e ∙ ap (all_hold a) (learned_push entries clause))
    ∙ sat in
    satisfies_push a (all_clauses entries) (all_clauses new) clause.lits
    (ap all_clauses e ∙ all_push entries (Learned clause)) (holds a added) (follows a added)

pub hold_added : (entries new : List LogEntry) (clause : Clause) → new ≡ entries ++ Added clause ∷ []
    → LearnedHold entries → LearnedHold new
hold_added entries new clause e holds a sat =
    let parts =
    satisfied_parts a (added_clauses entries) (added_clauses new) clause.lits
    (ap added_clauses e ∙ added_push entries clause) sat in
    satisfies_push a (all_clauses entries) (all_clauses new) clause.lits
    (ap all_clauses e ∙ all_push entries (Added clause)) (holds a parts.0) parts.1

-- clauses below a number
below_push : (n : ℕ) (clauses : List (List Lit)) (lits : List Lit) → AreClausesBelow n clauses → IsClauseBelow n lits
    → AreClausesBelow n (clauses ++ lits ∷ [])
below_push n [] lits named below = (below, tt)
below_push n (c ∷ clauses) lits named below = (named.0, below_push n clauses lits named.1 below)

pub named_push : (n : ℕ) (entries new : List LogEntry) (entry : LogEntry) → new ≡ entries ++ entry ∷ []
    → AreClausesBelow n (all_clauses entries) → IsClauseBelow n (entry_lits entry) → AreClausesBelow n (all_clauses new)
named_push n entries new entry e named below =
    subst (AreClausesBelow n) (sym (ap all_clauses e ∙ all_push entries entry))
    (below_push n (all_clauses entries) (entry_lits entry) named below)

pub clause_below_more : (n m : ℕ) (lits : List Lit) → n ≤ m → IsClauseBelow n lits → IsClauseBelow m lits
clause_below_more n m [] le below = tt
clause_below_more n m (lit ∷ lits) le below =
    let first : variable_of lit < n = below.0 in
    (omega (arith, first, le), clause_below_more n m lits le below.1)

pub below_more : (n m : ℕ) (clauses : List (List Lit)) → n ≤ m → AreClausesBelow n clauses → AreClausesBelow m clauses
below_more n m [] le below = tt
below_more n m (lits ∷ clauses) le below = (clause_below_more n m lits le below.0, below_more n m clauses le below.1)

-- the learned clauses after one more entry
take_front : (entries : List LogEntry) (entry : LogEntry) (place : ℕ) → place ≤ length entries
    → take place (entries ++ entry ∷ []) ≡ take place entries
take_front entries entry place le = take-append-le place entries (entry ∷ []) le

learnable_more : (n m : ℕ) (before : List LogEntry) (lits : List Lit) → n ≤ m → IsLearnable n before lits
    → IsLearnable m before lits
learnable_more n m before lits le h =
    record {
      some = h.some;
      below = clause_below_more n m lits le h.below;
      apart = h.apart;
      follows = h.follows;
      new = h.new;
      rup = h.rup;
    }

pub learnable_push : (n m : ℕ) (entries new : List LogEntry) (entry : LogEntry) → new ≡ entries ++ entry ∷ [] → n ≤ m
    → AreLearnable n entries
    → ((clause : Clause) → entry ≡ Learned clause → IsLearnable m entries clause.lits) → AreLearnable m new
learnable_push n m entries new entry e le old now place clause is =
    subst (λ (es : List LogEntry). IsLearnable m (take place es) clause.lits) (sym e)
    (elim (slice_get-push_cases entries entry (Learned clause) place
    (ap (λ (es : List LogEntry). slice_get es place) (sym e) ∙ is)) [
      | inl was ↦
          let lt : place < length entries = slice_get_within entries place (Learned clause) was in
          subst (λ (es : List LogEntry). IsLearnable m es clause.lits)
          (sym (take_front entries entry place (omega (arith, lt))))
          (learnable_more n m (take place entries) clause.lits le (old place clause was))
      | inr last ↦
          let at = last.0 in
          subst (λ (es : List LogEntry). IsLearnable m es clause.lits)
          (sym
          (take_front entries entry place (omega (arith, at)) ∙ take_all place entries (omega (arith, at))))
          (now clause last.1)
    ])

-- the entries of a formula
pub all_of_added : (clauses : List Clause) → all_clauses (added_all clauses) ≡ lits_of_all clauses
all_of_added [] = refl
all_of_added (c ∷ clauses) = ap (λ (l : List (List Lit)). c.lits ∷ l) (all_of_added clauses)

pub added_of_added : (clauses : List Clause) → added_clauses (added_all clauses) ≡ lits_of_all clauses
added_of_added [] = refl
added_of_added (c ∷ clauses) = ap (λ (l : List (List Lit)). c.lits ∷ l) (added_of_added clauses)

pub none_learned : (clauses : List Clause) (place : ℕ) (clause : Clause)
    → slice_get (added_all clauses) place ≡ Some (Learned clause) → ⊥
none_learned [] place clause e = none-some (Learned clause) e
none_learned (c ∷ clauses) zero clause e = let same = same_Some (Added c) (Learned clause) e in absurd cc
none_learned (c ∷ clauses) (suc place) clause e = none_learned clauses place clause e

learned_same : (clause other : Clause) → Learned clause ≡ Learned other → clause ≡ other
learned_same clause other e =
    let lits_of_entry : LogEntry → Clause = λ entry. elim entry [ Added c ↦ c | Learned c ↦ c ] in ap lits_of_entry e

added_not_learned : (clause other : Clause) → Added clause ≡ Learned other → ⊥
added_not_learned clause other e = cc

-- what a solver keeps, after a learned clause was put at the end of its log or refused
pub learned_kept : {A B : Type 0} (r : Result A B) (n : ℕ) (entries new : List LogEntry) (clause : Clause)
    → OnOk r (new ≡ entries ++ Learned clause ∷ []) → OnErr r (new ≡ entries) → AreClausesBelow n (all_clauses entries)
    → LearnedHold entries → ∥ AreLearnable n entries ∥₁ → IsLearnable n entries clause.lits
    → AreClausesBelow n (all_clauses new) × LearnedHold new × ∥ AreLearnable n new ∥₁
learned_kept (Ok _) n entries new clause e same named holds learnable now = (
  named_push n entries new (Learned clause) e named now.below,
  hold_learned entries new clause e holds now.follows,
  ∥∥₁_map learnable
      (λ h.
      learnable_push n n entries new (Learned clause) e (omega arith) h
      (λ other is. subst (λ (c : Clause). IsLearnable n entries c.lits) (learned_same clause other is) now)),
)
learned_kept (Err _) n entries new clause e same named holds learnable now = (
  subst (λ (es : List LogEntry). AreClausesBelow n (all_clauses es)) (sym same) named,
  subst LearnedHold (sym same) holds,
  subst (λ (es : List LogEntry). ∥ AreLearnable n es ∥₁) (sym same) learnable,
)

-- what a solver keeps, after a clause was added
pub added_kept : (n m : ℕ) (entries new : List LogEntry) (clause : Clause) → new ≡ entries ++ Added clause ∷ []
    → n ≤ m → IsClauseBelow m clause.lits → AreClausesBelow n (all_clauses entries) → LearnedHold entries
    → ∥ AreLearnable n entries ∥₁ → AreClausesBelow m (all_clauses new) × LearnedHold new × ∥ AreLearnable m new ∥₁
added_kept n m entries new clause e le below named holds learnable = (
  named_push m entries new (Added clause) e (below_more n m (all_clauses entries) le named) below,
  hold_added entries new clause e holds,
  ∥∥₁_map learnable
      (λ h.
      learnable_push n m entries new (Added clause) e le h
      (λ other is. absurd (added_not_learned clause other is))),
)

-- and at its beginning
pub first_kept : (n : ℕ) (clauses : List Clause) (entries : List LogEntry) → entries ≡ added_all clauses
    → AreClausesBelow n (lits_of_all clauses)
    → AreClausesBelow n (all_clauses entries) × LearnedHold entries × ∥ AreLearnable n entries ∥₁
first_kept n clauses entries e named = (
  subst (AreClausesBelow n) (sym (ap all_clauses e ∙ all_of_added clauses)) named,
  λ a sat.
      subst (Satisfies a)
      (ap added_clauses e ∙ added_of_added clauses ∙ sym (ap all_clauses e ∙ all_of_added clauses)) sat,
  ∣ (λ place clause is.
      absurd (none_learned clauses place clause (ap (λ (es : List LogEntry). slice_get es place) (sym e) ∙ is))) ∣₁,
)

pub none_counted : (clauses : List Clause) → learned_count (added_all clauses) ≡ 0
none_counted [] = refl
none_counted (c ∷ clauses) = none_counted clauses
