-- What is asked for, sifted from members, and taken from the end.
use Rattle.std.proofs.Common.{◌≡◌, ℕ, List, [], ◌∷◌, ◌++◌, Option, Some, None, Contains, length, ◌⊎◌, inl, inr, ◌↔◌}
use Rattle.std.proofs.Common.{refl, sym, ap, subst, ◌∙◌}
use Rattle.std.proofs.lemmas.List.Elements.{Contains-append_left, Contains-append_right, Contains-append_cases}
use Rattle.std.proofs.lemmas.Option.{none-some, same_Some, slice_get_within}
use Rattle.jv_list.proofs.ElementLemmas.{place_of}
use Rattle.jv_list.proofs.MemberLemmas.{none_member, one_member, first_member, later_member, member_cases}
use Rattle.jv_base.specs.declared.method.MethodId.{MethodId}
use Rattle.lib_rows.specs.Classes.{class_name}
use Rattle.lib_rows.specs.declared.class.Builtin.{Builtin}
use Rattle.bd_core.specs.declared.item.Item.{Item}
use Rattle.bd_core.specs.declared.item.Item.TheVariants as items
use Rattle.bd_core.specs.declared.job.Job.{Job}
use Rattle.bd_core.specs.declared.member.Member.{Member}
use Rattle.bd_core.specs.declared.member.Member.TheVariants.{Known, Method}
use Rattle.bd_core.specs.Given.{Given}
use Rattle.bd_core.specs.Least.{IsLeast}
use Rattle.bd_core.specs.Runs.{IsDerived, IsAsked, HasCode}
use Rattle.bd_core.specs.Runs as runs
use Rattle.bd_core.specs.Calls.Queues.{IsAskedBy, known, executed, IsSifted, IsPopped}
use Rattle.bd_core.proofs.LeastLemmas.{derived_in}

-- ---- taking from the end

-- what is left of a list, where those in which a condition holds are left
pub record IsLeft (P : Item → Type 0) (old now : List Item) : Type 0 where
  pub among : (i : Item) → Contains now i → Contains old i
  pub left : (i : Item) → Contains old i → P i → Contains now i

module _ (P : Item → Type 0) (old : List Item) where
  pub left_start : (now : List Item) → now ≡ old → IsLeft P old now
  left_start now e = record {
    among = λ i h. subst (λ (l : List Item). Contains l i) e h;
    left = λ i h p. subst (λ (l : List Item). Contains l i) (sym e) h;
  }

  module _ (before now : List Item) (is : IsLeft P old before) where
    module _ (item : Item) (split : before ≡ now ++ item ∷ []) where
      in_before : (i : Item) → Contains now i → Contains before i
      in_before i h =
          subst (λ (l : List Item). Contains l i) (sym split) (Contains-append_left now (item ∷ []) i h)

      last_or_now : (i : Item) → Contains before i → (item ≡ i) ⊎ Contains now i
      last_or_now i h =
          elim (Contains-append_cases now (item ∷ []) i (subst (λ (l : List Item). Contains l i) split h))
          [ inl l ↦ inr l | inr r ↦ inl (one_member item i r) ]

      pub left_step : (P item → ⊥) → IsLeft P old now
      left_step none = record {
        among = λ i h. is.among i (in_before i h);
        left = λ i h p.
            elim (last_or_now i (is.left i h p)) [ inl e ↦ absurd (none (subst P (sym e) p)) | inr l ↦ l ];
      }

      pub popped : P item → IsPopped P old (Some item) now
      popped p = record {
        holds = λ i e.
            let at = same_Some item i e in (
              subst P at p,
              subst (Contains old) at
                  (is.among item (subst (λ (l : List Item). Contains l item) (sym split)
                  (Contains-append_right now (item ∷ []) item (first_member item [])))),
            );
        among = λ i h. is.among i (in_before i h);
        left = λ i h q. elim (last_or_now i (is.left i h q)) [ inl e ↦ inl (ap Some e) | inr l ↦ inr l ];
        none = λ e. absurd (none-some item (sym e));
      }

    pub popped_none : before ≡ [] → now ≡ before → IsPopped P old None now
    popped_none e f =
        let nothing : (i : Item) → Contains now i → ⊥ =
        λ i h. none_member i (subst (λ (l : List Item). Contains l i) (f ∙ e) h) in
        record {
          holds = λ i g. absurd (none-some i g);
          among = λ i h. absurd (nothing i h);
          left = λ i h p.
              absurd (none_member i (subst (λ (l : List Item). Contains l i) e (is.left i h p)));
          none = λ g i h. nothing i h;
        }

-- ---- what a member asks for

-- just this is asked for by a member, if anything is
abbrev pub AsksJust : Given → Member → Option Item → Type 0
AsksJust g m o = (i : Item) → (o ≡ Some i) ↔ IsAskedBy g m i

module _ (g : Given) where
  pub built_in_asks : (name : List ℕ) (b : Builtin) → name ≡ class_name b → AsksJust g (Known name) None
  built_in_asks name b e i = ((λ f. absurd (none-some i f)), none i)
    where
      none : (i : Item) → IsAskedBy g (Known name) i → None ≡ Some i
      none i (known _ not) = absurd (not b e)

  pub class_asks : (name : List ℕ) → ((b : Builtin) → name ≡ class_name b → ⊥)
      → AsksJust g (Known name) (Some (items.Class name))
  class_asks name not i =
      ((λ f. subst (IsAskedBy g (Known name)) (same_Some (items.Class name) i f) (known name not)), just i)
    where
      just : (i : Item) → IsAskedBy g (Known name) i → Some (items.Class name) ≡ Some i
      just i (known _ _) = refl

  pub method_asks : (m : MethodId) → HasCode g.classes m → AsksJust g (Method m) (Some (items.Method m))
  method_asks m has i =
      ((λ f. subst (IsAskedBy g (Method m)) (same_Some (items.Method m) i f) (executed m has)), just i)
    where
      just : (i : Item) → IsAskedBy g (Method m) i → Some (items.Method m) ≡ Some i
      just i (executed _ _) = refl

-- ---- sifting

module _ (g : Given) (members : List Member) where
  abbrev pub Asks : List Member → Item → Type 0
  Asks list i = (m : Member) × Contains list m × IsAskedBy g m i

  -- so far, with what is left
  pub record Sifting (items : List Item) (left : List Member) : Type 0 where
    pub sound : (i : Item) → Contains items i → Asks members i
    pub covers : (i : Item) → Asks members i → Contains items i ⊎ Asks left i
    pub rest : (m : Member) → Contains left m → Contains members m

  pub sifting_start : (items : List Item) (left : List Member) → items ≡ [] → left ≡ members → Sifting items left
  sifting_start items left e f = record {
    sound = λ i h. absurd (none_member i (subst (λ (l : List Item). Contains l i) e h));
    covers = λ i h. inr (subst (λ (l : List Member). Asks l i) (sym f) h);
    rest = λ m h. subst (λ (l : List Member). Contains l m) f h;
  }

  module _ (items : List Item) (left next : List Member) (m : Member) (e : left ≡ m ∷ next) (is : Sifting items left)
      (o : Option Item) (exact : (i : Item) → (o ≡ Some i) ↔ IsAskedBy g m i) where
    in_left : (n : Member) → Contains next n → Contains left n
    in_left n h = subst (λ (l : List Member). Contains l n) (sym e) (later_member m next n h)

    this_there : Contains members m
    this_there = is.rest m (subst (λ (l : List Member). Contains l m) (sym e) (first_member m next))

    first_or_next : (i : Item) → Asks left i → IsAskedBy g m i ⊎ Asks next i
    first_or_next i (n, there, asks) =
        elim (member_cases m next n (subst (λ (l : List Member). Contains l n) e there)) [
          | inl same ↦ inl (subst (λ (k : Member). IsAskedBy g k i) (sym same) asks)
          | inr later ↦ inr (n, later, asks)
        ]

    pub sifting_none : o ≡ None → Sifting items next
    sifting_none none = record {
      sound = is.sound;
      covers = λ i h.
          elim (is.covers i h) [
            | inl there ↦ inl there
            | inr more ↦ elim (first_or_next i more) [
              | inl asks ↦ absurd (none-some i (sym none ∙ (exact i).1 asks))
              | inr later ↦ inr later
            ]
          ];
      rest = λ n h. is.rest n (in_left n h);
    }

    pub sifting_some : (item : Item) (new : List Item) → o ≡ Some item → new ≡ items ++ item ∷ [] → Sifting new next
    sifting_some item new some f = record {
      sound = λ i h.
          elim (Contains-append_cases items (item ∷ []) i (subst (λ (l : List Item). Contains l i) f h)) [
            | inl there ↦ is.sound i there
            | inr last ↦ (m, this_there, (exact i).0 (some ∙ ap Some (one_member item i last)))
          ];
      covers = λ i h.
          elim (is.covers i h) [
            | inl there ↦
                inl (subst (λ (l : List Item). Contains l i) (sym f) (Contains-append_left items (item ∷ []) i there))
            | inr more ↦ elim (first_or_next i more) [
              | inl asks ↦ inl (new_last i (same_Some item i (sym some ∙ (exact i).1 asks)))
              | inr later ↦ inr later
            ]
          ];
      rest = λ n h. is.rest n (in_left n h);
    }
      where
        new_last : (i : Item) → item ≡ i → Contains new i
        new_last i same =
            subst (Contains new) same
            (subst (λ (l : List Item). Contains l item) (sym f)
            (Contains-append_right items (item ∷ []) item (first_member item [])))

  pub sifted : (items : List Item) (left : List Member) → left ≡ [] → Sifting items left → IsSifted g members items
  sifted items left e is i = (
    is.sound i,
    (λ h. elim (is.covers i h) [
      | inl there ↦ there
      | inr more ↦ absurd (none_member more.0 (subst (λ (l : List Member). Contains l more.0) e more.1))
    ]),
  )

-- ---- what the least set asks for

pub derived_among : (j : Job) (g : Given) (members : List Member) (x : Member) → IsLeast j g members
    → IsDerived j g x → Contains members x
derived_among j g members x is (list, derivation, there) =
    let p = place_of list x there in
    derived_in j g list members derivation is.closed (length list) p.0 x (slice_get_within list p.0 x p.1) p.1

module _ (j : Job) (g : Given) (members : List Member) (is : IsLeast j g members) where
  to_asked : (m : Member) (i : Item) → Contains members m → IsAskedBy g m i → IsAsked j g i
  to_asked m i there (known name not_built_in) = runs.class name (is.derived (Known name) there) not_built_in
  to_asked m i there (executed method has) = runs.method method (is.derived (Method method) there) has

  from_asked : (i : Item) → IsAsked j g i → (m : Member) × Contains members m × IsAskedBy g m i
  from_asked i (runs.class name derived not_built_in) =
      (Known name, derived_among j g members (Known name) is derived, known name not_built_in)
  from_asked i (runs.method m derived has) =
      (Method m, derived_among j g members (Method m) is derived, executed m has)

  pub asked_exactly : (items : List Item) → IsSifted g members items → (i : Item)
      → Contains items i ↔ IsAsked j g i
  asked_exactly items sifted i = (
    (λ h. let a = (sifted i).0 h in to_asked a.0 i a.1 a.2),
    (λ h. (sifted i).1 (from_asked i h)),
  )
