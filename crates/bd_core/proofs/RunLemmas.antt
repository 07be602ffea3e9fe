-- Runs: what an event more leaves.
use Rattle.std.proofs.Common.{◌≡◌, ℕ, Bool, true, false, cond, ◌||◌, List, [], ◌∷◌, ◌++◌, Option, Some, None, is_some}
use Rattle.std.proofs.Common.{refl, sym, ap, subst, ◌∙◌}
use Rattle.std.specs.Map.{update}
use Rattle.std.specs.Option.{option_or}
use Rattle.std.specs.Str.{bytes_eq}
use Rattle.std.proofs.lemmas.Bool.{false≢true}
use Rattle.std.proofs.lemmas.List.Folds.{find-append}
use Rattle.std.proofs.lemmas.List.Sums.{fold-append}
use Rattle.std.proofs.lemmas.Option.{none-some}
use Rattle.std.proofs.lemmas.Slice.Eq.{bytes_eq-Decides}
use Rattle.jv_base.specs.declared.method.MethodId.{MethodId}
use Rattle.jv_base.specs.contracts.method.MethodIdPartialEq.TheImpl as method_eq
use Rattle.cf_class.specs.declared.class_file.ClassFile.{ClassFile}
use Rattle.bd_scan.specs.declared.fact.Fact.{Fact}
use Rattle.hi_tree.specs.Classes.{class_in}
use Rattle.hi_tree.specs.Growth.{Grows, KeepsFiles}
use Rattle.hi_tree.specs.Laws.{AddedGrows}
use Rattle.bd_core.specs.declared.item.Item.{Item}
use Rattle.bd_core.specs.declared.item.Item.TheVariants.{Class, Method}
use Rattle.bd_core.specs.contracts.item.ItemPartialEq.TheImpl as item_eq
use Rattle.bd_core.specs.declared.item.Facts.{Facts}
use Rattle.bd_core.specs.declared.item.Facts.TheVariants as facts
use Rattle.bd_core.specs.declared.item.Unread.{Unread}
use Rattle.bd_core.specs.declared.item.Event.{Event}
use Rattle.bd_core.specs.declared.item.Event.TheVariants.{Take, Give, Back}
use Rattle.bd_core.specs.declared.job.Job.{Job}
use Rattle.bd_core.specs.Told.{Told, is_given, Fits, IsTold, unread_of, put_unread}
use Rattle.bd_core.specs.Runs.{held_after, holder, IsPending, IsRun}
use Rattle.bd_core.specs.Runs as runs
use Rattle.bd_core.proofs.SameLemmas.{same_names, same_methods}
use Rattle.bd_core.proofs.GrownLemmas.{Grown}

abbrev pub same : Item → Item → Bool
same = (item_eq.ghosts).eq

pub same_items : (x y : Item) → same x y ≡ true → x ≡ y
same_items (Class x) (Class y) e = ap Class (same_names x y e)
same_items (Method x) (Method y) e = ap Method (same_methods x y e)
same_items x y e = absurd (false≢true e)

names_refl : (x : List ℕ) → bytes_eq x x ≡ true
names_refl x = (bytes_eq-Decides x x).1 refl

pub methods_refl : (m : MethodId) → (method_eq.ghosts).eq m m ≡ true
methods_refl m = rw (names_refl m.class) (rw (names_refl m.name) (rw (names_refl m.desc) refl))

pub items_refl : (x : Item) → same x x ≡ true
items_refl (Class x) = names_refl x
items_refl (Method m) = methods_refl m

-- ---- who has an item

pub holder_after : (events : List Event) (e : Event) (i : Item)
    → holder (events ++ e ∷ []) i ≡ held_after (holder events) e i
holder_after events e i = ap (λ (held : Item → Option ℕ). held i) (fold-append held_after (λ j. None) events (e ∷ []))

-- an update at another item, and at the same one
pub updated_other : (held : Item → Option ℕ) (x i : Item) (o : Option ℕ) → same x i ≡ false
    → update same held x o i ≡ held i
updated_other held x i o e = ap (λ (t : Bool). cond t o (held i)) e

pub updated_same : (held : Item → Option ℕ) (x i : Item) (o : Option ℕ) → same x i ≡ true
    → update same held x o i ≡ o
updated_same held x i o e = ap (λ (t : Bool). cond t o (held i)) e

-- ---- what is told of an item leaves the others

or_same : (a b c d : Bool) → a ≡ c → b ≡ d → (a || b) ≡ (c || d)
or_same a b c d e f = ap (λ (t : Bool). t || b) e ∙ ap (λ (t : Bool). c || t) f

class_elsewhere : (classes : List ClassFile) (c : ClassFile) (name : List ℕ) → bytes_eq c.this_class.name name ≡ false
    → class_in (classes ++ c ∷ []) name ≡ class_in classes name
unfolding class_in
class_elsewhere classes c name e =
    find-append (λ (x : ClassFile). bytes_eq name x.this_class.name) classes (c ∷ [])
    ∙ ap (λ (t : Bool). option_or (class_in classes name) (cond t (Some c) None)) (other
    (bytes_eq name c.this_class.name) refl)
    ∙ or_none (class_in classes name)
  where
    other : (t : Bool) → bytes_eq name c.this_class.name ≡ t → bytes_eq name c.this_class.name ≡ false
    other false f = f
    other true f =
        absurd (false≢true (sym e
        ∙ (bytes_eq-Decides c.this_class.name name).1 (sym ((bytes_eq-Decides name c.this_class.name).0 f))))

    or_none : (o : Option ClassFile) → option_or o None ≡ o
    or_none None = refl
    or_none (Some d) = refl

unread_elsewhere : (o : Option Unread) (name other : List ℕ) (f : List ℕ → Option Unread) → bytes_eq name other ≡ false
    → put_unread o name f other ≡ f other
unread_elsewhere None name other f e = refl
unread_elsewhere (Some why) name other f e = ap (λ (t : Bool). cond t (Some why) (f other)) e

pub given_elsewhere : (t u : Told) (x : Item) (told : Facts) (i : Item) → IsTold t x told u → Fits x told
    → same x i ≡ false → is_given u i ≡ is_given t i
given_elsewhere t u (Class name) (facts.Class c) (Class other) is fits e =
    or_same _ _ _ _
    (ap (λ (l : List ClassFile). is_some (class_in l other)) is.classes
    ∙ ap is_some (class_elsewhere t.given.classes c other (ap (λ (n : List ℕ). bytes_eq n other) fits ∙ e)))
    (ap is_some (is.unread other))
given_elsewhere t u (Class name) facts.Absent (Class other) is fits e =
    or_same _ _ _ _ (ap (λ (l : List ClassFile). is_some (class_in l other)) is.classes)
    (ap is_some (is.unread other ∙ unread_elsewhere (unread_of facts.Absent) name other t.unread e))
given_elsewhere t u (Class name) facts.TooLong (Class other) is fits e =
    or_same _ _ _ _ (ap (λ (l : List ClassFile). is_some (class_in l other)) is.classes)
    (ap is_some (is.unread other ∙ unread_elsewhere (unread_of facts.TooLong) name other t.unread e))
given_elsewhere t u (Class name) (facts.Malformed fault) (Class other) is fits e =
    or_same _ _ _ _ (ap (λ (l : List ClassFile). is_some (class_in l other)) is.classes)
    (ap is_some (is.unread other ∙ unread_elsewhere (unread_of (facts.Malformed fault)) name other t.unread e))
given_elsewhere t u (Class name) (facts.Method list) i is fits e = absurd fits
given_elsewhere t u (Class name) told (Method m) is fits e = ap is_some (is.facts m)
given_elsewhere t u (Method m) (facts.Method list) (Class other) is fits e =
    or_same _ _ _ _ (ap (λ (l : List ClassFile). is_some (class_in l other)) is.classes) (ap is_some (is.unread other))
given_elsewhere t u (Method m) (facts.Method list) (Method n) is fits e =
    ap is_some (is.facts n ∙ ap (λ (b : Bool). cond b (Some list) (t.given.facts n)) e)
given_elsewhere t u (Method m) told i is fits e = absurd fits

-- ---- an item that a worker has was not given

-- who has an item after one event more: by the event, where it is of this item, and else as before
module _ (before : List Event) (event : Event) (x i : Item) (o now : Option ℕ)
    (is : holder (before ++ event ∷ []) i ≡ update same (holder before) x o i)
    (e : holder (before ++ event ∷ []) i ≡ now) where
  pub after_cases : (P : Type 0) → (x ≡ i → same x i ≡ true → o ≡ now → P)
      → (same x i ≡ false → holder before i ≡ now → P) → P
  after_cases P this other = by (same x i) refl
    where
      by : (b : Bool) → same x i ≡ b → P
      by true f = this (same_items x i f) f (sym (updated_same (holder before) x i o f) ∙ sym is ∙ e)
      by false f = other f (sym (updated_other (holder before) x i o f) ∙ sym is ∙ e)

pub held_not_given : (j : Job) (events : List Event) (t : Told) (i : Item) (worker : ℕ) → IsRun j events t
    → holder events i ≡ Some worker → is_given t i ≡ false
held_not_given j events t i worker (runs.start _ nothing) e = absurd (none-some worker e)
held_not_given j events t i worker (runs.taken before _ w x run pending) e =
    after_cases before (Take w x) x i (Some w) (Some worker) (holder_after before (Take w x) i) e
    (is_given t i ≡ false)
    (λ at f g. subst (λ (y : Item). is_given t y ≡ false) at pending.not_given)
    (λ f g. held_not_given j before t i worker run g)
held_not_given j events u i worker (runs.given before t _ w x told run held fits is) e =
    after_cases before (Give w x) x i None (Some worker) (holder_after before (Give w x) i) e
    (is_given u i ≡ false)
    (λ at f g. absurd (none-some worker g))
    (λ f g. given_elsewhere t u x told i is fits f ∙ held_not_given j before t i worker run g)
held_not_given j events t i worker (runs.back before _ w x run held) e =
    after_cases before (Back w x) x i None (Some worker) (holder_after before (Back w x) i) e
    (is_given t i ≡ false)
    (λ at f g. absurd (none-some worker g))
    (λ f g. held_not_given j before t i worker run g)

-- what is pending after a take was pending before, and is another item
pub pending_before : (j : Job) (t : Told) (events : List Event) (worker : ℕ) (x i : Item)
    → IsPending j t (events ++ Take worker x ∷ []) i → IsPending j t events i × (x ≡ i → ⊥)
pending_before j t events worker x i pending =
    after_cases events (Take worker x) x i (Some worker) None (holder_after events (Take worker x) i) pending.not_held
    (IsPending j t events i × (x ≡ i → ⊥))
    (λ at f g. absurd (none-some worker (sym g)))
    (λ f g. (
      record { asked = pending.asked; not_held = g; not_given = pending.not_given },
      (λ at. false≢true (sym f ∙ subst (λ (y : Item). same x y ≡ true) at (items_refl x))),
    ))

-- ---- what is told is more

-- a table without a class under a name
no_facts : (t : Told) (m : MethodId) → is_given t (Method m) ≡ false → t.given.facts m ≡ None
no_facts t m e = by (t.given.facts m) e
  where
    by : (o : Option (List Fact)) → is_some o ≡ false → o ≡ None
    by None f = refl
    by (Some list) f = absurd (false≢true (sym f))

module _ (added : AddedGrows) (t u : Told) where
  same_classes : u.given.classes ≡ t.given.classes → Grows t.given.classes u.given.classes
      × KeepsFiles t.given.classes u.given.classes
  same_classes e =
      subst (λ (l : List ClassFile). Grows t.given.classes l × KeepsFiles t.given.classes l) (sym e)
      ((λ name k is. is), (λ name c is. is))

  more_classes : (c : ClassFile) → u.given.classes ≡ t.given.classes ++ c ∷ []
      → Grows t.given.classes u.given.classes × KeepsFiles t.given.classes u.given.classes
  more_classes c e =
      subst (λ (l : List ClassFile). Grows t.given.classes l × KeepsFiles t.given.classes l) (sym e)
      (added t.given.classes c)

  grown_by : Grows t.given.classes u.given.classes × KeepsFiles t.given.classes u.given.classes
      → ((m : MethodId) (list : List Fact) → t.given.facts m ≡ Some list → u.given.facts m ≡ Some list)
      → Grown t.given u.given
  grown_by both kept = record { grows = both.0; files = both.1; facts = kept }

  facts_kept : (m : MethodId) (list : List Fact) → is_given t (Method m) ≡ false
      → ((n : MethodId) → u.given.facts n ≡ update (method_eq.ghosts).eq t.given.facts m (Some list) n)
      → (n : MethodId) (old : List Fact) → t.given.facts n ≡ Some old → u.given.facts n ≡ Some old
  facts_kept m list new is n old e = by ((method_eq.ghosts).eq m n) refl
    where
      by : (b : Bool) → (method_eq.ghosts).eq m n ≡ b → u.given.facts n ≡ Some old
      by true f =
          absurd (none-some old (sym (no_facts t m new)
          ∙ ap t.given.facts (same_methods m n f) ∙ e))
      by false f = is n ∙ ap (λ (b : Bool). cond b (Some list) (t.given.facts n)) f ∙ e

  as_it_was : ((m : MethodId) → u.given.facts m ≡ t.given.facts m) → (m : MethodId) (list : List Fact)
      → t.given.facts m ≡ Some list → u.given.facts m ≡ Some list
  as_it_was is m list e = is m ∙ e

  pub told_grown : (x : Item) (told : Facts) → IsTold t x told u → Fits x told → is_given t x ≡ false
      → Grown t.given u.given
  told_grown (Class name) (facts.Class c) is fits new = grown_by (more_classes c is.classes) (as_it_was is.facts)
  told_grown (Class name) facts.Absent is fits new = grown_by (same_classes is.classes) (as_it_was is.facts)
  told_grown (Class name) facts.TooLong is fits new = grown_by (same_classes is.classes) (as_it_was is.facts)
  told_grown (Class name) (facts.Malformed fault) is fits new =
      grown_by (same_classes is.classes) (as_it_was is.facts)
  told_grown (Class name) (facts.Method list) is fits new = absurd fits
  told_grown (Method m) (facts.Method list) is fits new =
      grown_by (same_classes is.classes) (facts_kept m list new is.facts)
  told_grown (Method m) told is fits new = absurd fits
