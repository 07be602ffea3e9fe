-- Which built-in classes are under java.lang.Throwable, and which names are of classes that are no interfaces.
use Rattle.std.proofs.Common.{◌≡◌, ◌⊎◌, ◌↔◌, ℕ, ◌<◌, ◌+◌, List, [], ◌∷◌, false, map, length, drop}
use Rattle.std.proofs.Common.{slice_index_or, inl, inr, Option, Some, None, refl, sym, subst}
use Rattle.std.proofs.lemmas.List.{drop_more}
use Rattle.std.proofs.lemmas.Option.{none-some, same_Some}
use Rattle.jv_list.proofs.MemberLemmas.{none_member, first_member, later_member, member_cases}
use Rattle.cf_class.specs.declared.class_file.ClassFile.{ClassFile}
use Rattle.cf_class.specs.declared.named.Named.{Named}
use Rattle.lib_rows.specs.declared.class.Builtin.{Builtin}
use Rattle.lib_rows.specs.declared.class.Builtin.TheVariants as builtins
use Rattle.lib_rows.specs.Classes.{superclass_of}
use Rattle.bd_refusals.specs.Suited.{IsThrowable, itself, under, HasKind, HasUnsuited, closed, interface}
use Rattle.bd_refusals.specs.Suited.{no_object, as_interface}
use Rattle.bd_refusals.specs.Calls.Suits.{HasClassAbove, HasUnsuitedSuper}

object_is_not : IsThrowable builtins.Object → ⊥
object_is_not (under b super e above) = none-some super e

-- a class directly under Object is Throwable, or is not under it
pub below_object : (b : Builtin) → superclass_of b ≡ Some builtins.Object → (b ≡ builtins.Throwable → ⊥)
    → IsThrowable b → ⊥
below_object b e ne itself = ne refl
below_object b e ne (under _ super f above) =
    let is_object = same_Some super builtins.Object (subst (λ o. o ≡ Some builtins.Object) f e) in
    object_is_not (subst IsThrowable is_object above)

-- an alternative more
pub or_else : {rest : Type 0} (class b : Builtin) → IsThrowable b → (rest → IsThrowable class)
    → (class ≡ b) ⊎ rest → IsThrowable class
or_else class b h other (inl e) = subst IsThrowable (sym e) h
or_else class b h other (inr r) = other r

pub exception : IsThrowable builtins.Exception
exception = under builtins.Exception builtins.Throwable refl itself

pub error : IsThrowable builtins.Error
error = under builtins.Error builtins.Throwable refl itself

pub of_runtime : IsThrowable builtins.RuntimeException
of_runtime = under builtins.RuntimeException builtins.Exception refl exception

pub of_index : IsThrowable builtins.IndexOutOfBoundsException
of_index = under builtins.IndexOutOfBoundsException builtins.RuntimeException refl of_runtime

pub of_argument : IsThrowable builtins.IllegalArgumentException
of_argument = under builtins.IllegalArgumentException builtins.RuntimeException refl of_runtime

-- ---- one of the names is that of a class

module _ (classes : List ClassFile) where
  pub class_here : (x : Named) (xs : List Named) → HasKind classes x.name false → HasClassAbove classes (x ∷ xs)
  class_here x xs kind = (x.name, first_member x.name (map (λ n. n.name) xs), kind)

  pub class_later : (x : Named) (xs : List Named) → HasClassAbove classes xs → HasClassAbove classes (x ∷ xs)
  class_later x xs (name, there, kind) = (name, later_member x.name (map (λ n. n.name) xs) name there, kind)

  pub class_beyond : (x : Named) (xs : List Named) → (HasKind classes x.name false → ⊥)
      → HasClassAbove classes (x ∷ xs) → HasClassAbove classes xs
  class_beyond x xs none (name, there, kind) = elim (member_cases x.name (map (λ n. n.name) xs) name there) [
    | inl same ↦ absurd (none (subst (λ (n : List ℕ). HasKind classes n false) (sym same) kind))
    | inr later ↦ (name, later, kind)
  ]

  pub no_class : HasClassAbove classes [] → ⊥
  no_class (name, there, kind) = none_member name there

  -- one further, where the one here is none
  pub none_here : (names : List Named) (i : ℕ) (d : Named) → i < length names
      → (HasKind classes (slice_index_or names i d).name false → ⊥)
      → HasClassAbove classes (drop i names) ↔ HasClassAbove classes names
      → HasClassAbove classes (drop (i + 1) names) ↔ HasClassAbove classes names
  none_here names i d within none is =
      let e : drop i names ≡ slice_index_or names i d ∷ drop (i + 1) names = drop_more names i d within in
      let x : Named = slice_index_or names i d in (
        λ later. is.0 (subst (HasClassAbove classes) (sym e) (class_later x (drop (i + 1) names) later)),
        λ all. class_beyond x (drop (i + 1) names) none (subst (HasClassAbove classes) e (is.1 all)),
      )

-- ---- a supertype is unsuited

module _ (classes : List ClassFile) (c : ClassFile) where
  pub super_unsuited : HasUnsuitedSuper classes c → HasUnsuited classes c
  super_unsuited (inl (b, e, no_open)) = closed b e no_open
  super_unsuited (inr (inl above)) = interface above
  super_unsuited (inr (inr (kind, above, is_one, other))) = no_object kind above is_one other

  pub class_unsuited : HasClassAbove classes c.interfaces → HasUnsuited classes c
  class_unsuited (name, there, kind) = as_interface name there kind

  pub unsuited_cases : HasUnsuited classes c → HasUnsuitedSuper classes c ⊎ HasClassAbove classes c.interfaces
  unsuited_cases (closed b e no_open) = inl (inl (b, e, no_open))
  unsuited_cases (interface above) = inl (inr (inl above))
  unsuited_cases (no_object kind above is_one other) = inl (inr (inr (kind, above, is_one, other)))
  unsuited_cases (as_interface name there kind) = inr (name, there, kind)
