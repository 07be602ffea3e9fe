-- A search that goes on: a decision is pushed, or the trail is cut for a learned clause.
use Rattle.std.proofs.Common.{◌≡◌, ◌⊎◌, ℕ, zero, suc, ◌+◌, ◌<◌, ◌≤◌, List, [], ◌∷◌, ◌++◌, length, take, count_by}
use Rattle.std.proofs.Common.{is_none, Option, Some, None, Contains, slice_get, refl, sym, ap, ◌∙◌, subst, inl, inr}
use Rattle.std.proofs.Common.{arith}
use Rattle.std.proofs.lemmas.Bool.{cases_lt}
use Rattle.std.proofs.lemmas.Option.{slice_get_within, same_Some, none-some}
use Rattle.std.proofs.lemmas.List.Elements.{Contains-push_cases, Contains-append_right}
use Rattle.jv_list.proofs.PlaceLemmas.{slice_get-push_last, slice_get-push_other, slice_get-push_cases}
use Rattle.jv_list.proofs.MemberLemmas.{first_member, member_cases}
use Rattle.cn_clauses.specs.declared.lit.Lit.{Lit}
use Rattle.cn_clauses.specs.Literals.{opposite_of}
use Rattle.cn_clauses.specs.Laws.{OppositeTwice}
use Rattle.sa_core.specs.declared.step.Step.{Step}
use Rattle.sa_core.specs.TrailView.{lits_of, IsOpen, IsPlaced, Grows, code}
use Rattle.sa_core.specs.SolverView.{IsSettled, ByOpen, IsJustifiedBy}
use Rattle.sa_core.specs.SolverView.{AreJustified, IsLastDecision}
use Rattle.sa_core.specs.Analysis.{IsLearned, IsHeight, IsHighest, NoHighest, IsFirstDecision}
use Rattle.sa_core.specs.Watching.{Guards}
use Rattle.jv_list.proofs.ElementLemmas.{count_filled}
use Rattle.sa_core.proofs.TrailLemmas.{lits_length}
use Rattle.sa_core.proofs.GrowLemmas.{grows_push, grows_cut, kept_lit, was_lit, justified_kept, cut_justified}
use Rattle.sa_core.proofs.CodeLemmas.{code_turned}

-- a trail with an open literal has room
pub room_left : (steps : List Step) (places : List (Option ℕ)) (i : ℕ) → IsPlaced steps places
    → slice_get places i ≡ Some None → length steps < length places
room_left steps places i was e =
    let fewer = count_filled places i 0 e in
    let room : length steps + count_by is_none places ≡ length places = was.room in
    omega (arith, fewer, room)

pub trail_fits : (steps : List Step) (places : List (Option ℕ)) → IsPlaced steps places → length steps ≤ length places
trail_fits steps places was =
    let room : length steps + count_by is_none places ≡ length places = was.room in
    omega (arith, room)

-- a step that is pushed
pub justified_push : (clauses : List (List Lit)) (steps new : List Step) (step : Step) → new ≡ steps ++ step ∷ []
    → AreJustified clauses steps → IsJustifiedBy clauses (lits_of steps) (length steps) step.lit step.reason
    → AreJustified clauses new
justified_push clauses steps new step pushed justified by at s e =
    let grows = grows_push steps new step pushed in
    elim (slice_get-push_cases steps step s at (ap (λ (l : List Step). slice_get l at) (sym pushed) ∙ e)) [
      | inl old ↦
          let lt : at < length steps = slice_get_within steps at s old in
          justified_kept steps new grows clauses at s.lit s.reason (omega (arith, lt)) (justified at s old)
      | inr last ↦
          subst (λ (t : Step). IsJustifiedBy clauses (lits_of new) at t.lit t.reason) last.1
          (subst (λ (n : ℕ). IsJustifiedBy clauses (lits_of new) n step.lit step.reason) (sym last.0)
          (justified_kept steps new grows clauses (length steps) step.lit step.reason (omega arith) by))
    ]

-- a literal has one place
pub same_place : (steps : List Step) (places : List (Option ℕ)) (lit : Lit) (i j : ℕ) → IsPlaced steps places
    → slice_get (lits_of steps) i ≡ Some lit → slice_get (lits_of steps) j ≡ Some lit → i ≡ j
same_place steps places lit i j was e f =
    same_Some i j (same_Some (Some i) (Some j) (sym (was.placed i lit e) ∙ was.placed j lit f))

pub cut_length : (n : ℕ) (steps : List Step) → n ≤ length steps → length (take n steps) ≡ n
cut_length zero steps le = refl
cut_length (suc n) [] le = absurd (omega (arith, le))
cut_length (suc n) (s ∷ steps) le = let rest = cut_length n steps (omega (arith, le)) in omega (arith, rest)

module _ (twice : OppositeTwice) (clauses : List (List Lit)) (steps : List Step) (places : List (Option ℕ))
    (mark limit from : ℕ) (lit : Lit) (lower : List Lit) (was : IsPlaced steps places)
    (justified : AreJustified clauses steps) (last : IsLastDecision steps mark)
    (learned : IsLearned clauses (lits_of steps) mark lit lower) (high : IsHeight (lits_of steps) lower limit) where
  -- the height lies before the mark
  pub limit_low : limit ≤ mark
  limit_low =
      elim high.last [
        | inl none ↦ omega (arith, none)
        | inr top ↦
            let s = learned.opposed top.0 top.2 in
            let same : s.place ≡ top.1 =
            same_place steps places (opposite_of top.0) s.place top.1 was s.is top.4 in
            let before : s.place < mark = s.before in
            let e = top.3 in
            omega (arith, same, before, e)
      ]

  module _ (first : IsFirstDecision steps limit from) (cut : List Step) (is_cut : cut ≡ take from steps) where
    from_low : from ≤ mark
    from_low =
        elim (cases_lt mark from) [
          | inl lt ↦ absurd (first.first mark last.step limit_low lt last.is last.decided)
          | inr le ↦ le
        ]

    from_within : from < length steps
    from_within = slice_get_within steps from first.step first.is

    pub length_cut : length cut ≡ from
    length_cut = let lt = from_within in ap length is_cut ∙ cut_length from steps (omega (arith, lt))

    cut_grows : Grows cut steps
    cut_grows = grows_cut from steps cut is_cut

    -- the first literal of the clause is open
    pub open_cut : IsOpen (lits_of cut) (length (lits_of cut)) lit
    open_cut =
        record {
          not_true = λ s.
              was.apart s.place learned.place lit (kept_lit cut steps cut_grows s.place lit s.is) learned.is;
          not_false = λ s.
              let same : s.place ≡ learned.place =
              same_place steps places (opposite_of lit) s.place learned.place was
              (kept_lit cut steps cut_grows s.place (opposite_of lit) s.is) learned.is in
              let before : s.place < length (lits_of cut) = s.before in
              let later : mark ≤ learned.place = learned.later in
              let low = from_low in
              omega (arith, same, before, later, low, length_cut, lits_length cut);
        }

    -- before the decisions that are left, two of its literals are open
    settled_new : (place : ℕ) (step : Step) → slice_get cut place ≡ Some step → step.reason ≡ None
        → IsSettled (lits_of cut) place (lit ∷ lower)
    settled_new place step e none =
        let lt : place < length cut = slice_get_within cut place step e in
        let at : slice_get steps place ≡ Some step = cut_grows.kept place step e in
        elim (cases_lt place limit) [
          | inr le ↦ absurd (first.first place step le (omega (arith, lt, length_cut)) at none)
          | inl below ↦
              elim high.last [
                | inl zero_high ↦ absurd (omega (arith, below, zero_high))
                | inr top ↦
                    let high_at = top.3 in
                    ByOpen lit top.0 (first_member lit lower) (Contains-append_right (lit ∷ []) lower top.0 top.2)
                    (λ same.
                    let one : learned.place ≡ top.1 =
                    same_place steps places (opposite_of top.0) learned.place top.1 was
                    (learned.is ∙ ap (λ (l : Lit). Some (opposite_of l)) same) top.4 in
                    let later : mark ≤ learned.place = learned.later in
                    let low = limit_low in
                    omega (arith, one, later, low, high_at))
                    (record {
                      not_true = λ s.
                          open_cut.not_true
                          (record {
                            place = s.place;
                            before = slice_get_within (lits_of cut) s.place lit s.is;
                            is = s.is;
                          });
                      not_false = λ s.
                          open_cut.not_false
                          (record {
                            place = s.place;
                            before = slice_get_within (lits_of cut) s.place (opposite_of lit) s.is;
                            is = s.is;
                          });
                    })
                    (record {
                      not_true = λ s.
                          was.apart s.place top.1 top.0 (kept_lit cut steps cut_grows s.place top.0 s.is) top.4;
                      not_false = λ s.
                          let one : s.place ≡ top.1 =
                          same_place steps places (opposite_of top.0) s.place top.1 was
                          (kept_lit cut steps cut_grows s.place (opposite_of top.0) s.is) top.4 in
                          let before : s.place < place = s.before in
                          omega (arith, one, before, below, high_at);
                    })
              ]
        ]

    -- and its first literal and the one that became false last guard it
    pub learned_guards : (second : Lit) (hint : ℕ)
        → NoHighest (lits_of steps) lower limit ⊎ IsHighest (lits_of steps) lower limit second → (place : ℕ)
        → (step : Step) → slice_get cut place ≡ Some step → step.reason ≡ None
        → Guards (lits_of cut) place (lit ∷ lower) (record { first = lit; second = second; hint = hint })
    learned_guards second hint chosen place step e none =
        let lt : place < length cut = slice_get_within cut place step e in
        let at : slice_get steps place ≡ Some step = cut_grows.kept place step e in
        elim (cases_lt place limit) [
          | inr le ↦ absurd (first.first place step le (omega (arith, lt, length_cut)) at none)
          | inl below ↦
              elim chosen [
                | inl missing ↦
                    elim high.last [
                      | inl zero_high ↦ absurd (omega (arith, below, zero_high))
                      | inr top ↦
                          absurd
                          (missing top.0 (record { within = top.2; place = top.1; at = top.3; is = top.4 }))
                    ]
                | inr found ↦
                    let high_at = found.at in
                    record {
                      first = first_member lit lower;
                      second = Contains-append_right (lit ∷ []) lower second found.within;
                      apart = λ same.
                          let one : learned.place ≡ found.place =
                          same_place steps places (opposite_of second) learned.place found.place was
                          (learned.is ∙ ap (λ (l : Lit). Some (opposite_of l)) same) found.is in
                          let later : mark ≤ learned.place = learned.later in
                          let low = limit_low in
                          omega (arith, one, later, low, high_at);
                      first_left = λ s.
                          open_cut.not_false
                          (record {
                            place = s.place;
                            before = slice_get_within (lits_of cut) s.place (opposite_of lit) s.is;
                            is = s.is;
                          });
                      second_left = λ s.
                          let one : s.place ≡ found.place =
                          same_place steps places (opposite_of second) s.place found.place was
                          (kept_lit cut steps cut_grows s.place (opposite_of second) s.is) found.is in
                          let before : s.place < place = s.before in
                          omega (arith, one, before, below, high_at);
                    }
              ]
        ]

    module _ (new : List (List Lit)) (more : new ≡ clauses ++ (lit ∷ lower) ∷ []) where
      old_clause : (place : ℕ) (lits : List Lit) → slice_get clauses place ≡ Some lits → slice_get new place ≡ Some lits
      old_clause place lits e =
          ap (λ (l : List (List Lit)). slice_get l place) more
          ∙ slice_get-push_other clauses (lit ∷ lower) lits place e

      in_new : (lits : List Lit) → Contains new lits → Contains clauses lits ⊎ ((lit ∷ lower) ≡ lits)
      in_new lits has =
          Contains-push_cases clauses (lit ∷ lower) lits (subst (λ (l : List (List Lit)). Contains l lits) more has)

      -- the steps that are left stay justified
      left_by : (place : ℕ) (step : Step) (reason : Option ℕ) → slice_get cut place ≡ Some step → step.reason ≡ reason
          → IsJustifiedBy clauses (lits_of cut) place step.lit reason
          → IsJustifiedBy new (lits_of cut) place step.lit reason
      left_by place step None e none by = λ lits has.
          elim (in_new lits has) [
            | inl old ↦ by lits old
            | inr same ↦ subst (IsSettled (lits_of cut) place) same (settled_new place step e none)
          ]
      left_by place step (Some reason) e some by =
          record { lits = by.lits; stands = old_clause reason by.lits by.stands; unit = by.unit }

      pub left_justified : AreJustified new cut
      left_justified place step e =
          left_by place step step.reason e refl (cut_justified cut steps cut_grows clauses justified place step e)

      module _ (step : Step) (by : step.lit ≡ lit) (reason : ℕ) (some : step.reason ≡ Some reason)
          (end : reason ≡ length clauses) (pushed : List Step) (is_pushed : pushed ≡ cut ++ step ∷ []) where
        forced_by : (o : Option ℕ) → o ≡ Some reason → IsJustifiedBy new (lits_of cut) (length cut) step.lit o
        forced_by None e = absurd (none-some reason e)
        forced_by (Some r) e =
            record {
              lits = lit ∷ lower;
              stands =
                  ap (λ (l : List (List Lit)). slice_get l r) more
                  ∙ slice_get-push_last clauses (lit ∷ lower) r (same_Some r reason e ∙ end);
              unit =
                  record {
                    within = subst (Contains (lit ∷ lower)) (sym by) (first_member lit lower);
                    others = λ other has ne.
                        elim (member_cases lit lower other has) [
                          | inl same ↦ absurd (ne (sym same ∙ sym by))
                          | inr in_lower ↦
                              let s = high.opposed other in_lower in
                              let later = first.later in
                              let lt : s.place < limit = s.before in
                              record {
                                place = s.place;
                                before = omega (arith, lt, later, length_cut);
                                is =
                                    was_lit cut steps cut_grows s.place (opposite_of other)
                                    (omega (arith, lt, later, length_cut)) s.is;
                              }
                        ];
                  };
            }

        -- and so is the literal that is forced
        pub learn_justified : AreJustified new pushed
        learn_justified = justified_push new cut pushed step is_pushed left_justified (forced_by step.reason some)

        pub learn_rises : (size : ℕ) → length steps ≤ size → code size steps < code size pushed
        learn_rises size le =
            code_turned size steps pushed from first.step step le first.is first.decided reason some
            (is_pushed ∙ ap (λ (l : List Step). l ++ step ∷ []) is_cut)
