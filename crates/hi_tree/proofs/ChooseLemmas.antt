-- A class more is looked at for superinterface methods.
use Rattle.std.proofs.Common.{◌≡◌, ℕ, Bool, true, false, not, ◌&&◌, ◌||◌, List, ◌∷◌, ◌⊎◌, inl, inr, Contains}
use Rattle.std.proofs.Common.{Option, Some, None, is_some, sym, ◌∙◌, ap, subst, refl, true≢false}
use Rattle.std.specs.Prelude.{slice_get, IsTrue}
use Rattle.std.specs.Ordering.{is_gt, ordering_reverse, nat_cmp}
use Rattle.std.specs.declared.cmp.Ordering.{Ordering}
use Rattle.std.specs.declared.cmp.Ordering.TheVariants.{Less, Equal, Greater}
use Rattle.std.specs.Cmp.Lexicographic.{slice_cmp}
use Rattle.std.proofs.lemmas.Bool.{and_parts}
use Rattle.std.proofs.lemmas.Cmp.{nat_list_cmp_total, tied_itself, upto}
use Rattle.jv_list.proofs.DecidedLemmas.{lists}
use Rattle.jv_list.proofs.MemberLemmas.{later_member, first_member}
use Rattle.cf_class.specs.declared.class_file.ClassFile.{ClassFile}
use Rattle.hi_tree.specs.Classes.{known_class}
use Rattle.hi_tree.specs.Methods.{declared_some, has_body_some}
use Rattle.hi_tree.specs.Subtypes.{supertypes}
use Rattle.hi_tree.specs.declared.declared.Declared.{Declared}
use Rattle.hi_tree.specs.Superinterfaces.{whole_climb, IsOffered, IsDefault}
use Rattle.hi_tree.specs.Walks.{IsAbove, direct}
use Rattle.hi_tree.specs.Calls.Steps.{Marks}
use Rattle.hi_tree.specs.Calls.Walking.{IsOrdered, IsMet}
use Rattle.hi_tree.specs.Calls.Choosing.{Choice, default_with, another_with, least_of, lesser_by, weighed_of}
use Rattle.hi_tree.specs.Calls.Choosing.{offered_of, Looks}
use Rattle.hi_tree.proofs.OfferLemmas.{last_step, ordered_up, or_cases, or_first, or_second, and_both, not_true}
use Rattle.hi_tree.proofs.ChoosingState.{IsShadedBy, AreDefaultsSoFar, IsLeastSoFar, IsChoosing, cand_offered}
use Rattle.hi_tree.proofs.ChoosingState.{offered_cand, offer_body}
use Rattle.hi_tree.proofs.WalkLemmas.{Contains_cases, above_above}

-- the classes of a whole walk are looked at one after the other, those that are above others last
module _ (classes : List ClassFile) (start name desc : List ℕ) (all : List (List ℕ)) where
  abbrev supers : List ℕ → List (List ℕ)
  supers = supertypes classes

  abbrev offer : List ℕ → Option Declared
  offer q = offered_of classes start name desc q

  abbrev cand : List ℕ → Bool
  cand q = is_some (offer q)

  abbrev Offered : List ℕ → Type 0
  Offered q = IsOffered classes start name desc q

  abbrev Default : List ℕ → Type 0
  Default q = IsDefault classes start name desc q

  abbrev Shaded : List ℕ → Type 0
  Shaded q = IsShadedBy classes start name desc all q

  abbrev Done : List (List ℕ) → List ℕ → Type 0
  Done rest p = Contains all p × (Contains rest p → ⊥)

  abbrev AreSoFar : List (List ℕ) → Option (List ℕ) → Bool → Type 0
  AreSoFar = AreDefaultsSoFar classes start name desc all

  abbrev LeastSoFar : List (List ℕ) → Option (List ℕ) → Type 0
  LeastSoFar = IsLeastSoFar classes start name desc all

  abbrev Choosing : List (List ℕ) → Marks → Choice → Type 0
  Choosing = IsChoosing classes start name desc all

  module _ (met : IsMet (whole_climb classes) start all) where
    to_offered : (q : List ℕ) → Contains all q → cand q ≡ true → Offered q
    to_offered = cand_offered classes start name desc all met

    from_offered : (q : List ℕ) → Offered q → cand q ≡ true
    from_offered = offered_cand classes start name desc all met

    module _ (q : List ℕ) (rest : List (List ℕ)) (marks : Marks) (c : Choice) (is : Choosing (q ∷ rest) marks c) where
      here : Contains all q
      here = is.inside q (first_member q rest)

      not_later : Contains rest q → ⊥
      unfolding IsOrdered
      not_later = is.ordered.0

      up_later : (place : ℕ) (above : List ℕ) → slice_get (supers q) place ≡ Some above → Contains rest above
      unfolding IsOrdered
      up_later = is.ordered.1

      rest_ordered : IsOrdered supers rest
      unfolding IsOrdered
      rest_ordered = is.ordered.2

      -- what is directly below it was looked at
      below_done : (p : List ℕ) (place : ℕ) → slice_get (supers p) place ≡ Some q → Contains (q ∷ rest) p → ⊥
      below_done p place e there = elim (Contains_cases q rest p there) [
        | inl same ↦ not_later (up_later place q
            (subst (λ (x : List ℕ). slice_get (supers x) place ≡ Some q) (sym same) e))
        | inr later ↦ not_later (ordered_up supers rest p q place rest_ordered later e)
      ]

      shaded_marked : Shaded q → IsTrue (is_some (marks q))
      shaded_marked (j, offered, up) =
          let h = last_step supers up in
          is.full h.0 q h.1
          ((met.members h.0).1 (inr (above h.0 h.3)), below_done h.0 h.1 h.2) (carries h.0 h.3) h.2
        where
          above : (p : List ℕ) → (p ≡ j) ⊎ IsAbove supers j p → IsAbove supers start p
          above p (inl same) = subst (λ (x : List ℕ). IsAbove supers start x) (sym same) offered.above
          above p (inr more) = above_above (whole_climb classes) offered.above more

          carries : (p : List ℕ) → (p ≡ j) ⊎ IsAbove supers j p → Offered p ⊎ Shaded p
          carries p (inl same) = inl (subst (λ (x : List ℕ). Offered x) (sym same) offered)
          carries p (inr more) = inr (j, offered, more)

      module _ (d : Declared) (e : offer q ≡ Some d) where
        abbrev free : Bool
        free = not d.is_abstract && not (is_some (marks q))

        offered_here : Offered q
        offered_here = to_offered q here (ap (λ (o : Option Declared). is_some o) e)

        body_is : has_body_some (declared_some name desc (known_class classes q)) ≡ not d.is_abstract
        body_is = ap (λ (o : Option Declared). has_body_some o) (offer_body classes start name desc all met q d e)

        free_default : free ≡ true → Default q
        free_default h =
            let both = and_parts (not d.is_abstract) (not (is_some (marks q))) h in
            record {
              maximal = record {
                offered = offered_here;
                most = λ other offered up.
                    true≢false (sym (shaded_marked (other, offered, up)) ∙ not_true (is_some (marks q)) both.1);
              };
              body = body_is ∙ both.0;
            }

        default_free : Default q → free ≡ true
        default_free is_default =
            and_both (not d.is_abstract) (not (is_some (marks q))) (sym body_is ∙ is_default.body)
            (by (is_some (marks q)) refl)
          where
            by : (b : Bool) → is_some (marks q) ≡ b → not (is_some (marks q)) ≡ true
            by false e = ap not e
            by true e = let h = is.shaded q e in absurd (is_default.maximal.most h.0 h.1 h.2)

      -- what is looked at is this one, or was before
      earlier : (i : List ℕ) → Done rest i → (q ≡ i → ⊥) → Done (q ∷ rest) i
      earlier i done differs = (
        done.0,
        λ there. elim (Contains_cases q rest i there) [
          | inl same ↦ differs same
          | inr later ↦ done.1 later
        ],
      )

      still : (i : List ℕ) → Done (q ∷ rest) i → Done rest i
      still i done = (done.0, λ later. done.1 (later_member q rest i later))

      module _ (f : Bool) (to : f ≡ true → Default q) (back : Default q → f ≡ true) where
        defaults_next : (d : Option (List ℕ)) (another : Bool) → AreSoFar (q ∷ rest) d another
            → AreSoFar rest (default_with d f q) (another_with d f another)
        defaults_next d another old = by d another f refl old
          where
            no_new : f ≡ false → Default q → ⊥
            no_new e def = true≢false (sym (back def) ∙ e)

            none_yet : f ≡ false → ((i : List ℕ) → Done (q ∷ rest) i → Default i → ⊥) → (i : List ℕ) → Done rest i
                → Default i → ⊥
            none_yet e old i done def = elim (lists q i) [
              | inl same ↦ no_new e (subst (λ (x : List ℕ). Default x) (sym same) def)
              | inr differs ↦ old i (earlier i done differs) def
            ]

            by : (d : Option (List ℕ)) (another g : Bool) → f ≡ g → AreSoFar (q ∷ rest) d another
                → AreSoFar rest (default_with d g q) (another_with d g another)
            by None false true e old = (
              (here, not_later),
              to e,
              λ i done def. elim (lists q i) [
                | inl same ↦ sym same
                | inr differs ↦ absurd (old.1 i (earlier i done differs) def)
              ],
            )
            by None true true e old = absurd (true≢false old.0)
            by None another false e old = (old.0, none_yet e old.1)
            by (Some d) false false e old = (
              still d old.0,
              old.1,
              λ i done def. elim (lists q i) [
                | inl same ↦ absurd (no_new e (subst (λ (x : List ℕ). Default x) (sym same) def))
                | inr differs ↦ old.2 i (earlier i done differs) def
              ],
            )
            by (Some d) true false e old = old
            by (Some d) false true e old = record {
              one = d;
              other = q;
              first = old.1;
              second = to e;
              differ = λ same. old.0.1 (subst (λ (x : List ℕ). Contains (q ∷ rest) x) same (first_member q rest));
            }
            by (Some d) true true e old = old

      least_next : (l : Option (List ℕ)) → Offered q → LeastSoFar (q ∷ rest) l
          → LeastSoFar rest (Some (least_of l q))
      least_next None offered old = (
        offered,
        λ i done is_offered. elim (lists q i) [
          | inl same ↦ subst (λ (x : List ℕ). is_gt (slice_cmp nat_cmp q x) ≡ false) same
              (ap is_gt (tied_itself nat_list_cmp_total q))
          | inr differs ↦ absurd (old i (earlier i done differs) is_offered)
        ],
      )
      least_next (Some l) offered old = by (slice_cmp nat_cmp q l) refl
        where
          others : (m : List ℕ) → is_gt (slice_cmp nat_cmp m q) ≡ false → is_gt (slice_cmp nat_cmp m l) ≡ false
              → (i : List ℕ) → Done rest i → Offered i → is_gt (slice_cmp nat_cmp m i) ≡ false
          others m at_q at_l i done is_offered = elim (lists q i) [
            | inl same ↦ subst (λ (x : List ℕ). is_gt (slice_cmp nat_cmp m x) ≡ false) same at_q
            | inr differs ↦ upto nat_list_cmp_total m l i at_l (old.1 i (earlier i done differs) is_offered)
          ]

          itself : (m : List ℕ) → is_gt (slice_cmp nat_cmp m m) ≡ false
          itself m = ap is_gt (tied_itself nat_list_cmp_total m)

          turned : (o : Ordering) → slice_cmp nat_cmp q l ≡ o → is_gt (ordering_reverse o) ≡ false
              → is_gt (slice_cmp nat_cmp l q) ≡ false
          turned o e h = ap is_gt (nat_list_cmp_total.antisymm l q ∙ ap ordering_reverse e) ∙ h

          by : (o : Ordering) → slice_cmp nat_cmp q l ≡ o → LeastSoFar rest (Some (lesser_by o q l))
          by Less e = (offered, others q (itself q) (ap is_gt e))
          by Equal e = (old.0, others l (turned Equal e refl) (itself l))
          by Greater e = (old.0, others l (turned Greater e refl) (itself l))

      least_kept : (l : Option (List ℕ)) → (Offered q → ⊥) → LeastSoFar (q ∷ rest) l → LeastSoFar rest l
      least_kept None not_offered old = λ i done is_offered. elim (lists q i) [
        | inl same ↦ not_offered (subst (λ (x : List ℕ). Offered x) (sym same) is_offered)
        | inr differs ↦ old i (earlier i done differs) is_offered
      ]
      least_kept (Some l) not_offered old = (
        old.0,
        λ i done is_offered. elim (lists q i) [
          | inl same ↦ absurd (not_offered (subst (λ (x : List ℕ). Offered x) (sym same) is_offered))
          | inr differs ↦ old.1 i (earlier i done differs) is_offered
        ],
      )

      defaults_kept : (Offered q → ⊥) → (d : Option (List ℕ)) (another : Bool) → AreSoFar (q ∷ rest) d another
          → AreSoFar rest d another
      defaults_kept not_offered None another old = defaults_next false (λ e. absurd (true≢false (sym e)))
          (λ def. absurd (not_offered def.maximal.offered)) None another old
      defaults_kept not_offered (Some d) another old = defaults_next false (λ e. absurd (true≢false (sym e)))
          (λ def. absurd (not_offered def.maximal.offered)) (Some d) another old

      module _ (new : Marks) (now : Choice) (looks : Looks classes start name desc q marks c new now) where
        shaded_now : (r : List ℕ) → IsTrue (is_some (new r)) → Shaded r
        shaded_now r on = elim ((looks.shades r).0 on) [
          | inl old ↦ is.shaded r old
          | inr fresh ↦ elim (or_cases (is_some (marks q)) (cand q) fresh.0) [
            | inl was ↦ let h = is.shaded q was in
                (h.0, h.1, above_above (whole_climb classes) h.2 (direct q r fresh.1 fresh.2))
            | inr holds ↦ (q, to_offered q here holds, direct q r fresh.1 fresh.2)
          ]
        ]

        carrying : Offered q ⊎ Shaded q → (is_some (marks q) || cand q) ≡ true
        carrying (inl offered) = or_second (is_some (marks q)) (cand q) (from_offered q offered)
        carrying (inr shaded) = or_first (is_some (marks q)) (cand q) (shaded_marked shaded)

        full_now : (p r : List ℕ) (place : ℕ) → Done rest p → Offered p ⊎ Shaded p → slice_get (supers p) place ≡ Some r
            → IsTrue (is_some (new r))
        full_now p r place done carries e = elim (lists q p) [
          | inl same ↦ (looks.shades r).1 (inr (
            carrying (subst (λ (x : List ℕ). Offered x ⊎ Shaded x) (sym same) carries),
            place,
            subst (λ (x : List ℕ). slice_get (supers x) place ≡ Some r) (sym same) e,
          ))
          | inr differs ↦ (looks.shades r).1 (inl (is.full p r place (earlier p done differs) carries e))
        ]

        abbrev Chosen : Choice → Type 0
        Chosen x = AreSoFar rest x.default x.another × LeastSoFar rest x.least

        chosen_now : Chosen now
        chosen_now = subst (λ (x : Choice). Chosen x) (sym looks.chooses) (by (offer q) refl)
          where
            by : (o : Option Declared) → offer q ≡ o → Chosen (weighed_of c q o (is_some (marks q)))
            by (Some d) e = (
              defaults_next (free d e) (free_default d e) (default_free d e) c.default c.another is.defaults,
              least_next c.least (offered_here d e) is.least,
            )
            by None e =
                let none : Offered q → ⊥ = λ offered. true≢false (sym (from_offered q offered)
                ∙ ap (λ (o : Option Declared). is_some o) e) in
                (defaults_kept none c.default c.another is.defaults, least_kept c.least none is.least)

        pub looked : Choosing rest new now
        looked = record {
          inside = λ i there. is.inside i (later_member q rest i there);
          ordered = rest_ordered;
          shaded = shaded_now;
          full = full_now;
          defaults = chosen_now.0;
          least = chosen_now.1;
        }
