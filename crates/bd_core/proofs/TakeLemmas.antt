-- Items that are taken in one after the other.
use Rattle.std.proofs.Common.{◌≡◌, ◌⊎◌, Bool, true, false, List, [], ◌∷◌, ◌++◌, Contains, if◌then◌else◌}
use Rattle.std.proofs.Common.{refl, sym, ap, subst, ◌∙◌, inl, inr, append_assoc}
use Rattle.std.specs.List.{list_any}
use Rattle.std.proofs.lemmas.List.{append-nil}
use Rattle.std.proofs.lemmas.List.Elements.{Contains-append_left, Contains-append_cases}
use Rattle.indexmap.specs.IndexSet.{insert_key}
use Rattle.indexmap.proofs.CallerLemmas.{Contains-insert_key}
use Rattle.jv_list.proofs.MemberLemmas.{none_member, one_member, member_cases, first_member, later_member}
use Rattle.bd_core.specs.declared.member.Member.{Member}
use Rattle.bd_core.specs.contracts.member.MemberPartialEq.TheImpl as member_eq
use Rattle.bd_core.specs.Calls.Closes.{Takes}
use Rattle.bd_core.proofs.SameLemmas.{same_members}

-- so far, with what is left
pub record Taking (old items new left : List Member) : Type 0 where
  pub more : List Member
  pub grows : new ≡ old ++ more
  pub among : (x : Member) → Contains more x → Contains items x
  pub covers : (x : Member) → Contains items x → Contains new x ⊎ Contains left x
  pub rest : (x : Member) → Contains left x → Contains items x

pub taking_start : (old items left : List Member) → left ≡ items → Taking old items old left
taking_start old items left e =
    record {
      more = [];
      grows = sym (append-nil old);
      among = λ x h. absurd (none_member x h);
      covers = λ x h. inr (subst (λ l. Contains l x) (sym e) h);
      rest = λ x h. subst (λ l. Contains l x) e h;
    }

pub taking_end : (old items new left : List Member) → left ≡ [] → Taking old items new left → Takes old items new
taking_end old items new left e t =
    record {
      more = t.more;
      grows = t.grows;
      among = t.among;
      covers = λ x h. elim (t.covers x h)
          [ inl c ↦ c | inr l ↦ absurd (none_member x (subst (λ s. Contains s x) e l)) ];
    }

module _ (old items now : List Member) (item : Member) (left : List Member)
    (t : Taking old items now (item ∷ left)) where
  -- in general: the new members are the old ones, perhaps with the item behind them
  taken : (new more : List Member) → new ≡ now ++ more → ((x : Member) → Contains more x → x ≡ item)
      → Contains new item → Taking old items new left
  taken new more grows one there =
      record {
        more = t.more ++ more;
        grows = grows ∙ ap (λ l. l ++ more) t.grows ∙ append_assoc old t.more more;
        among = λ x h. elim (Contains-append_cases t.more more x h) [
          | inl l ↦ t.among x l
          | inr r ↦ subst (Contains items) (sym (one x r)) (t.rest item (first_member item left))
        ];
        covers = λ x h. elim (t.covers x h) [
          | inl c ↦ inl (subst (λ l. Contains l x) (sym grows) (Contains-append_left now more x c))
          | inr l ↦ elim (member_cases item left x l)
              [ inl e ↦ inl (subst (Contains new) e there) | inr r ↦ inr r ]
        ];
        rest = λ x h. t.rest x (later_member item left x h);
      }

  pub taking_step : (new : List Member) → new ≡ insert_key (member_eq.ghosts).eq now item → Taking old items new left
  taking_step new e = by (list_any ((member_eq.ghosts).eq item) now) refl
    where
      there : Contains new item
      there = subst (λ l. Contains l item) (sym e) (Contains-insert_key (member_eq.ghosts).eq same_members now item)

      by : (b : Bool) → list_any ((member_eq.ghosts).eq item) now ≡ b → Taking old items new left
      by true f =
          taken new [] (e ∙ ap (λ b. if b then now else now ++ item ∷ []) f ∙ sym (append-nil now))
          (λ x h. absurd (none_member x h)) there
      by false f =
          taken new (item ∷ []) (e ∙ ap (λ b. if b then now else now ++ item ∷ []) f)
          (λ x h. sym (one_member item x h)) there
