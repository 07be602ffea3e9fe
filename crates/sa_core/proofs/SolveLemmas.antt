-- What the loop of a solver keeps: the log that grows by learned clauses, and the clauses that the search has.
use Rattle.std.proofs.Common.{◌≡◌, ℕ, ◌+◌, ◌-◌, ◌*◌, ◌^◌, ◌<◌, ◌≤◌, Bool, true, max, cond, List, [], ◌∷◌, ◌++◌}
use Rattle.std.proofs.Common.{length, map, Option, Some, Contains, refl, sym, ap, ◌∙◌, subst, inl, inr, arith}
use Rattle.std.proofs.Common.{append_assoc, append-nil, add-zero, true≢false}
use Rattle.std.proofs.Math.Nat.{suc-mul}
use Rattle.std.proofs.Math.Numerals.{suc-eq-add-one}
use Rattle.std.proofs.lemmas.Bool.{and_parts, and_from}
use Rattle.std.proofs.lemmas.List.{map-append}
use Rattle.std.proofs.lemmas.List.Sums.{sum_by_push}
use Rattle.std.proofs.lemmas.List.Elements.{All-from_recursion, All-contains, Contains-append_right}
use Rattle.jv_list.proofs.MemberLemmas.{first_member}
use Rattle.cn_clauses.specs.declared.lit.Lit.{Lit}
use Rattle.cn_clauses.specs.declared.clause.Clause.{Clause}
use Rattle.cn_clauses.specs.Literals.{variable_of, opposite_of}
use Rattle.cn_clauses.specs.Laws.{OppositeTwice, OppositeVariable, RupFollows}
use Rattle.cn_clauses.specs.Propagation.{Rup}
use Rattle.cn_clauses.specs.Satisfaction.{clause_holds, all_hold, Satisfies, IsClauseBelow, AreClausesBelow}
use Rattle.sa_core.specs.declared.log.LogEntry.{LogEntry}
use Rattle.sa_core.specs.declared.log.LogEntry.TheVariants.{Added, Learned}
use Rattle.sa_core.specs.declared.step.Step.{Step}
use Rattle.sa_core.specs.SpentLog.{all_clauses, added_clauses, is_learned, learned_count, IsNew, IsLearnable}
use Rattle.sa_core.specs.LogView.{LearnedHold, Learns, variables_with}
use Rattle.sa_core.specs.TrailView.{lits_of, IsPlaced}
use Rattle.sa_core.specs.SolverView.{IsWithin, AreWithin, AreJustified, IsFound, IsLastDecision, NoDecision}
use Rattle.sa_core.specs.Analysis.{IsLearnedClause}
use Rattle.sa_core.specs.Answers.{IsRefuted, IsLeft}
use Rattle.sa_core.specs.declared.search.Search.{Search}
use Rattle.sa_core.specs.SearchView.{clauses_of, trail_of, reached, IsSearching}
use Rattle.sa_core.proofs.AnswerLemmas.{refuted}
use Rattle.sa_core.proofs.CodeLemmas.{code_below}
use Rattle.sa_core.proofs.LearnLemmas.{learned_new, learned_apart}
use Rattle.sa_core.proofs.JumpLemmas.{settled_at, learned_within}

-- a log that grows by learned clauses
pub learns_none : (entries : List LogEntry) → Learns entries entries
learns_none entries = record { more = []; entries = sym (append-nil entries) }

pub learns_one : (old new : List LogEntry) (clause : Clause) → new ≡ old ++ Learned clause ∷ [] → Learns old new
learns_one old new clause e = record { more = clause ∷ []; entries = e }

pub learns_more : (first second third : List LogEntry) → Learns first second → Learns second third → Learns first third
learns_more first second third one other =
    record {
      more = one.more ++ other.more;
      entries =
          other.entries
          ∙ ap (λ (l : List LogEntry). l ++ map Learned other.more) one.entries
          ∙ append_assoc first (map Learned one.more) (map Learned other.more)
          ∙ ap (λ (l : List LogEntry). first ++ l) (sym (map-append Learned one.more other.more));
    }

-- keeps the clauses that were added
none_added : (more : List Clause) → added_clauses (map Learned more) ≡ []
none_added [] = refl
none_added (clause ∷ more) = none_added more

added_before : (old : List LogEntry) (more : List Clause) → added_clauses (old ++ map Learned more) ≡ added_clauses old
added_before [] more = none_added more
added_before (Added clause ∷ old) more = ap (λ (l : List (List Lit)). clause.lits ∷ l) (added_before old more)
added_before (Learned clause ∷ old) more = added_before old more

pub learns_added : (old new : List LogEntry) → Learns old new → added_clauses new ≡ added_clauses old
learns_added old new learns = ap added_clauses learns.entries ∙ added_before old learns.more

-- and one learned clause is one more
abbrev weight : LogEntry → ℕ
weight entry = cond (is_learned entry) 1 0

pub count_one : (old new : List LogEntry) (clause : Clause) → new ≡ old ++ Learned clause ∷ []
    → learned_count new ≡ learned_count old + 1
count_one old new clause e = ap learned_count e ∙ sum_by_push weight old (Learned clause)

-- a clause that is added is none
pub count_same : (old new : List LogEntry) (clause : Clause) → new ≡ old ++ Added clause ∷ []
    → learned_count new ≡ learned_count old
count_same old new clause e =
    ap learned_count e ∙ sum_by_push weight old (Added clause) ∙ add-zero (learned_count old)

-- an assignment that satisfies all clauses satisfies those that were added
pub satisfies_added : (a : ℕ → Bool) (entries : List LogEntry) → Satisfies a (all_clauses entries)
    → Satisfies a (added_clauses entries)
satisfies_added a [] sat = refl
satisfies_added a (Added clause ∷ entries) sat =
    let parts = and_parts (clause_holds a clause.lits) (all_hold a (all_clauses entries)) sat in
    and_from (clause_holds a clause.lits) (all_hold a (added_clauses entries)) parts.0
    (satisfies_added a entries parts.1)
satisfies_added a (Learned clause ∷ entries) sat =
    satisfies_added a entries (and_parts (clause_holds a clause.lits) (all_hold a (all_clauses entries)) sat).1

-- where unit propagation shows the empty clause, none does
pub none_satisfies : (rup_follows : RupFollows) (entries : List LogEntry) → LearnedHold entries
    → Rup (all_clauses entries) [] → (a : ℕ → Bool) → Satisfies a (added_clauses entries) → ⊥
none_satisfies rup_follows entries holds rup a sat =
    let empty : clause_holds a [] ≡ true = rup_follows (all_clauses entries) [] rup a (holds a sat) in
    true≢false (sym empty)

-- clauses below a number, told by their literals
pub literals_below : (n : ℕ) (lits : List Lit) → IsClauseBelow n lits → IsWithin n lits
literals_below n lits below lit has =
    All-contains (λ (l : Lit). variable_of l < n) lits lit (All-from_recursion (λ (l : Lit). variable_of l < n) lits
    below)
    has

pub clauses_within : (n : ℕ) (clauses : List (List Lit)) → AreClausesBelow n clauses → AreWithin n clauses
clauses_within n clauses below lits has =
    literals_below n lits (All-contains (IsClauseBelow n) clauses lits
    (All-from_recursion (IsClauseBelow n) clauses below) has)

pub clause_below : (n : ℕ) (lits : List Lit) → IsWithin n lits → IsClauseBelow n lits
clause_below n [] within = tt
clause_below n (lit ∷ lits) within = (
  within lit (first_member lit lits),
  clause_below n lits (λ other has. within other (Contains-append_right (lit ∷ []) lits other has)),
)

-- the variables with those that a clause names
pub variables_grow : (n : ℕ) (lits : List Lit) → n ≤ variables_with n lits
variables_grow n [] = omega arith
variables_grow n (lit ∷ lits) =
    let rest = variables_grow (max n (variable_of lit + 1)) lits in
    omega (arith, rest)

pub variables_cover : (n : ℕ) (lits : List Lit) → IsClauseBelow (variables_with n lits) lits
variables_cover n [] = tt
variables_cover n (lit ∷ lits) =
    let rest = variables_grow (max n (variable_of lit + 1)) lits in
    (omega (arith, rest), variables_cover (max n (variable_of lit + 1)) lits)

-- a clause that analysis found is learnable
module _ (twice : OppositeTwice) (same : OppositeVariable) (rup_follows : RupFollows) (clauses : List (List Lit))
    (steps : List Step) (places : List (Option ℕ)) (variables mark : ℕ) (lits : List Lit) (was : IsPlaced steps places)
    (size : length places ≡ 2 * variables) (justified : AreJustified clauses steps) (last : IsLastDecision steps mark)
    (learned : IsLearnedClause clauses (lits_of steps) mark lits) (entries : List LogEntry)
    (e : clauses ≡ all_clauses entries) (holds : LearnedHold entries) where
  shown : Rup (all_clauses entries) lits
  shown =
      subst (λ (l : List Lit). Rup (all_clauses entries) l) (sym learned.is)
      (subst (λ (cs : List (List Lit)). Rup cs (learned.lit ∷ learned.lower)) e learned.learned.rup)

  in_parts : (lit : Lit) → Contains lits lit → Contains (learned.lit ∷ learned.lower) lit
  in_parts lit has = subst (λ (l : List Lit). Contains l lit) learned.is has

  pub learnable : IsLearnable variables entries lits
  learnable =
      record {
        some = λ none. let two : learned.lit ∷ learned.lower ≡ [] = sym learned.is ∙ none in absurd cc;
        below =
            clause_below variables lits
            (learned_within twice same clauses steps places variables mark lits was size justified last learned);
        apart = λ lit has opposite.
            learned_apart twice clauses (lits_of steps) mark learned.lit learned.lower was.apart
            (settled_at clauses steps mark justified last) learned.learned lit (in_parts lit has)
            (in_parts (opposite_of lit) opposite);
        follows = λ a sat. rup_follows (all_clauses entries) lits shown a (holds a sat);
        new =
            subst (IsNew (all_clauses entries)) (sym learned.is)
            (subst (λ (cs : List (List Lit)). IsNew cs (learned.lit ∷ learned.lower)) e
            (learned_new twice clauses (lits_of steps) mark learned.lit learned.lower was.apart
            (settled_at clauses steps mark justified last) learned.learned));
        rup = shown;
      }

-- a clause that is false where no decision was made
pub refutes : (rup_follows : RupFollows) (search : Search) (n : ℕ) (entries : List LogEntry) (found : Option ℕ)
    (place : ℕ) → IsSearching search n (all_clauses entries) found → found ≡ Some place
    → NoDecision search.trail.steps → LearnedHold entries → IsRefuted (added_clauses entries) entries
refutes rup_follows search n entries found place searching is none holds =
    let rup : Rup (all_clauses entries) [] =
    subst (λ (cs : List (List Lit)). Rup cs []) searching.holds
    (refuted (clauses_of search) search.trail.steps searching.ready.justified none place
    (subst (IsFound (clauses_of search) (trail_of search)) is searching.finds)) in
    record { none = none_satisfies rup_follows entries holds rup; rup = rup }

-- the budget
pub all_spent : (budget left : ℕ) (entries : List LogEntry) → IsLeft budget entries left → (budget ≡ 0 → ⊥) → left ≡ 0
    → learned_count entries ≡ budget
all_spent budget left entries (inl none) some e = absurd (some none)
all_spent budget left entries (inr is) some e = omega (arith, is, e)

pub one_spent : (budget left next : ℕ) (old new : List LogEntry) → IsLeft budget old left → (left ≡ 0 → ⊥)
    → next ≡ left - 1 → learned_count new ≡ learned_count old + 1 → IsLeft budget new next
one_spent budget left next old new (inl none) some e more = inl none
one_spent budget left next old new (inr is) some e more = inr (omega (arith, is, some, e, more))

-- the number of the trail rises, and stays below a bound
falls : (n m : ℕ) (old new : Search) → m ≡ n → new.trail.variables ≡ m → reached old < reached new
    → 3 ^ (2 * m) - reached new < 3 ^ (2 * n) - reached old
falls n m old new same is rises =
    let below : reached new < 3 ^ (2 * new.trail.variables) = code_below (2 * new.trail.variables) new.trail.steps in
    let one : 3 ^ (2 * new.trail.variables) ≡ 3 ^ (2 * m) = ap (λ (k : ℕ). 3 ^ (2 * k)) is in
    let other : 3 ^ (2 * m) ≡ 3 ^ (2 * n) = ap (λ (k : ℕ). 3 ^ (2 * k)) same in
    omega (arith, below, one, other, rises)

-- the measure of the loop: the restarts that are left, and before the next how far the number of the trail may rise
pub falls_on : (before after n m : ℕ) (old new : Search) → after ≡ before → m ≡ n → new.trail.variables ≡ m
    → reached old < reached new
    → after * 3 ^ (2 * m) + (3 ^ (2 * m) - reached new) < before * 3 ^ (2 * n) + (3 ^ (2 * n) - reached old)
falls_on before after n m old new keep same is rises =
    let less = falls n m old new same is rises in
    let e : after * 3 ^ (2 * m) ≡ before * 3 ^ (2 * n) =
    ap (λ (k : ℕ). after * 3 ^ (2 * k)) same ∙ ap (λ (k : ℕ). k * 3 ^ (2 * n)) keep in
    omega (arith, less, e)

pub falls_back : (before after n : ℕ) (old new : Search) → after + 1 ≡ before → old.trail.variables ≡ n
    → after * 3 ^ (2 * n) + (3 ^ (2 * n) - reached new) < before * 3 ^ (2 * n) + (3 ^ (2 * n) - reached old)
falls_back before after n old new one is =
    let below : reached old < 3 ^ (2 * old.trail.variables) = code_below (2 * old.trail.variables) old.trail.steps in
    let size : 3 ^ (2 * old.trail.variables) ≡ 3 ^ (2 * n) = ap (λ (k : ℕ). 3 ^ (2 * k)) is in
    let more : before * 3 ^ (2 * n) ≡ after * 3 ^ (2 * n) + 3 ^ (2 * n) =
    ap (λ (k : ℕ). k * 3 ^ (2 * n)) (sym one ∙ sym (suc-eq-add-one after)) ∙ suc-mul after (3 ^ (2 * n)) in
    omega (arith, below, size, more)
