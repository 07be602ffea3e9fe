-- The steps that frames stand for, and the names that can be met.
use Rattle.std.proofs.Common.{◌≡◌, ℕ, suc, Bool, true, false, cond, List, [], ◌∷◌, ◌++◌, Option, Some, None}
use Rattle.std.proofs.Common.{map, sym, ◌∙◌, ap, refl, subst, true≢false, is_some, append-nil}
use Rattle.std.specs.Prelude.{slice_get}
use Rattle.std.specs.List.{find}
use Rattle.std.specs.Str.{bytes_eq}
use Rattle.std.proofs.lemmas.List.{map-append, reverse-append}
use Rattle.std.proofs.lemmas.Option.{same_Some, none-some}
use Rattle.std.proofs.lemmas.Slice.Eq.{bytes_eq-Decides}
use Rattle.cf_class.specs.declared.class_file.ClassFile.{ClassFile}
use Rattle.lib_rows.specs.declared.class.Builtin.{Builtin}
use Rattle.lib_rows.specs.Classes.{class_name}
use Rattle.lib_rows.specs.Classes as builtin
use Rattle.hi_tree.specs.declared.known.Above.{Above}
use Rattle.hi_tree.specs.declared.known.Up.{Up}
use Rattle.hi_tree.specs.declared.walk.Frame.{Frame}
use Rattle.hi_tree.specs.Classes.{builtin_of, class_in, known_class, first_known}
use Rattle.hi_tree.proofs.KnownLemmas.{find_passes, builtin_has_name}
use Rattle.hi_tree.specs.Calls.Steps.{above_name}
use Rattle.hi_tree.specs.Calls.Walking.{step_of, steps_of, names_met}

pub steps_push : (up : Up) (frames : List Frame) (f : Frame)
    → steps_of up (frames ++ f ∷ []) ≡ step_of up f ∷ steps_of up frames
steps_push up frames f = simp (map-append, reverse-append)

pub met_more : (old new : List Above) (a : Above) → new ≡ old ++ a ∷ []
    → names_met new ≡ above_name a ∷ names_met old
met_more old new a e =
    ap (λ (l : List Above). names_met l) e ∙ met_push old a
  where
    met_push : (old : List Above) (a : Above) → names_met (old ++ a ∷ []) ≡ above_name a ∷ names_met old
    met_push old a = simp (map-append, reverse-append)

-- the names that can be known
unfoldable pub universe : List ClassFile → List (List ℕ)
universe classes = map class_name builtin.classes ++ map (λ c. c.this_class.name) classes

found_place : {X : Type 0} (test : X → Bool) (f : X → List ℕ) (xs : List X) (more : List (List ℕ)) (x : X)
    → find test xs ≡ Some x
    → (i : ℕ) × (slice_get (map f xs ++ more) i ≡ Some (f x))
found_place test f [] more x e = absurd (none-some x e)
found_place {X} test f (y ∷ ys) more x e = by (test y) refl (λ h. found_place test f ys more x h)
  where
    by : (t : Bool) → test y ≡ t → (find test ys ≡ Some x → (i : ℕ) × (slice_get (map f ys ++ more) i ≡ Some (f x)))
        → (i : ℕ) × (slice_get (map f (y ∷ ys) ++ more) i ≡ Some (f x))
    by true is rest = (
      0,
      ap (λ (z : X). Some (f z)) (same_Some y x (sym (ap (λ (t : Bool). cond t (Some y)
          (find test ys)) is) ∙ e)),
    )
    by false is rest = let r = rest (sym (ap (λ (t : Bool). cond t (Some y) (find test ys)) is) ∙ e) in (suc r.0, r.1)

later_place : (xs ys : List (List ℕ)) (y : List ℕ) → (i : ℕ) × (slice_get ys i ≡ Some y) → (i : ℕ)
    × (slice_get (xs ++ ys) i ≡ Some y)
later_place [] ys y at = at
later_place (x ∷ xs) ys y at = let r = later_place xs ys y at in (suc r.0, r.1)

module _ (classes : List ClassFile) (name : List ℕ) where
  read_place : (c : ClassFile) → class_in classes name ≡ Some c → (i : ℕ)
      × (slice_get (universe classes) i ≡ Some name)
  unfolding class_in universe
  read_place c e =
      let r = found_place (λ (d : ClassFile). bytes_eq name d.this_class.name) (λ
      (d : ClassFile). d.this_class.name) classes [] c e in
      let same = (bytes_eq-Decides name c.this_class.name).0 (find_passes (λ
      (d : ClassFile). bytes_eq name d.this_class.name) classes c e) in
      let at = later_place (map class_name builtin.classes) (map (λ
      (d : ClassFile). d.this_class.name) classes) name (
        r.0,
        subst (λ (l : List (List ℕ)). slice_get l r.0 ≡ Some name) (append-nil (map (λ
            (d : ClassFile). d.this_class.name) classes)) (r.1 ∙ ap (λ (n : List ℕ). Some n) (sym same)),
      ) in
      at

  builtin_place : (class : Builtin) → builtin_of name ≡ Some class → (i : ℕ)
      × (slice_get (universe classes) i ≡ Some name)
  unfolding builtin_of universe
  builtin_place class e =
      let r = found_place (λ (d : Builtin). bytes_eq name (class_name d)) class_name builtin.classes (map (λ
      (d : ClassFile). d.this_class.name) classes) class e in
      (r.0, r.1 ∙ ap (λ (n : List ℕ). Some n) (sym (builtin_has_name name class e)))

  -- a name that is known is one of them
  pub known_place : is_some (known_class classes name) ≡ true → (i : ℕ) × (slice_get (universe classes) i ≡ Some name)
  unfolding known_class
  known_place known = by (builtin_of name) (class_in classes name) refl refl
    where
      by : (o : Option Builtin) (p : Option ClassFile) → builtin_of name ≡ o → class_in classes name ≡ p
          → (i : ℕ) × (slice_get (universe classes) i ≡ Some name)
      by (Some class) p e f = builtin_place class e
      by None (Some c) e f = read_place c f
      by None None e f =
          absurd (true≢false (sym known
          ∙ ap (λ (o : Option Builtin). is_some (first_known o (class_in classes name))) e
          ∙ ap (λ (p : Option ClassFile). is_some (first_known None p)) f))
