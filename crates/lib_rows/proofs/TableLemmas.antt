-- The rule of the tables: no two rows of a class have one name and one descriptor. It is computed over each table.
use Rattle.std.proofs.Common.{◌≡◌, ◌∙◌, ℕ, List, [], ◌∷◌, Option, Some, refl, sym, ap, subst, Contains}
use Rattle.std.specs.Prelude.{IfSome}
use Rattle.std.specs.List.{All, AllByRecursion}
use Rattle.std.proofs.lemmas.List.Elements.{All-contains, All-cons, All-nil}
use Rattle.lib_rows.specs.declared.class.Builtin.{Builtin}
use Rattle.lib_rows.specs.declared.class.Builtin.TheVariants.{Object, String, StringBuilder, Class, System}
use Rattle.lib_rows.specs.declared.class.Builtin.TheVariants.{PrintStream, AssertionError}
use Rattle.lib_rows.specs.declared.class.Builtin.TheVariants.{Comparable, CharSequence, Cloneable, Serializable}
use Rattle.lib_rows.specs.declared.method.LibMethod.{LibMethod}
use Rattle.jv_base.specs.declared.method.MethodId.{MethodId}
use Rattle.lib_rows.specs.Classes.{class_name}
use Rattle.lib_rows.specs.Rows.{Row, row, rows_of, IsRow, named}
use Rattle.lib_rows.proofs.ClassLemmas.{one_class}
use Rattle.lib_rows.proofs.RowLemmas.{weaker, row_found}

-- the row is the first with its name and its descriptor
abbrev IsFirst : List Row → Row → Type 0
IsFirst rows r = named rows r.name r.desc ≡ Some r.method

from_recursion : {X : Type 0} (P : X → Type 0) (xs : List X) → AllByRecursion P xs → All P xs
from_recursion P [] h = All-nil P
from_recursion P (x ∷ xs) h = All-cons P x xs h.0 (from_recursion P xs h.1)

firsts : (class : Builtin) → AllByRecursion (IsFirst (rows_of class)) (rows_of class)
firsts Object = (refl, (refl, cc))
firsts String = (
  refl,
  (
    refl,
    (
      refl,
      (
        refl,
        (
          refl,
          (
            refl,
            (
              refl,
              (
                refl,
                (
                  refl,
                  (
                    refl,
                    (
                      refl,
                      (
                        refl,
                        (
                          refl,
                          (
                            refl,
                            cc,
                          ),
                        ),
                      ),
                    ),
                  ),
                ),
              ),
            ),
          ),
        ),
      ),
    ),
  ),
)
firsts StringBuilder = (refl, (refl, (refl, (refl, (refl, (refl, (refl, (refl, (refl, cc)))))))))
firsts Class = (refl, cc)
firsts PrintStream = (refl, (refl, (refl, (refl, (refl, (refl, (refl, (refl, (refl, (refl, (refl, cc)))))))))))
firsts AssertionError = (refl, (refl, (refl, (refl, (refl, (refl, cc))))))
firsts System = cc
firsts Comparable = cc
firsts CharSequence = cc
firsts Cloneable = cc
firsts Serializable = cc
firsts other = (refl, (refl, cc))

-- a row of a class is found by its name and its descriptor
pub row_only : (class : Builtin) (name desc : List ℕ) (method : LibMethod)
    → Contains (rows_of class) (row name desc method)
    → named (rows_of class) name desc ≡ Some method
row_only class name desc method h =
    All-contains (IsFirst (rows_of class)) (rows_of class) (row name desc method)
    (from_recursion (IsFirst (rows_of class)) (rows_of class) (firsts class)) h

-- what the search in the rows of a method's class gives
module _ (method : MethodId) (class : Builtin) (is : method.class ≡ class_name class) (found : Option LibMethod)
    (search : found ≡ named (rows_of class) method.name method.desc) where
  pub searched : IfSome found (λ row. IsRow method row)
  searched =
      subst (λ (o : Option LibMethod). IfSome o (λ row. IsRow method row)) (sym search)
      (weaker (λ m. Contains (rows_of class) (row method.name method.desc m)) (λ m. IsRow method m)
      (named (rows_of class) method.name method.desc) (λ m h. record { class = class; named = is; listed = h })
      (row_found (rows_of class) method.name method.desc))

  pub searched_only : ((other : Builtin) → method.class ≡ class_name other → Some class ≡ Some other) → (m : LibMethod)
      → IsRow method m → found ≡ Some m
  searched_only one m h =
      let same : Some class ≡ Some h.class = one h.class h.named in
      let told : class ≡ h.class = cc same in
      search ∙ subst (λ (k : Builtin). named (rows_of k) method.name method.desc ≡ Some m) (sym told)
      (row_only h.class method.name method.desc m h.listed)

-- so no two rows have one class, name and descriptor
pub one_row : (method : MethodId) (a b : LibMethod) → IsRow method a → IsRow method b → a ≡ b
one_row method a b p q =
    let told : p.class ≡ q.class = one_class p.class q.class (sym p.named ∙ q.named) in
    let first : named (rows_of p.class) method.name method.desc ≡ Some a =
    row_only p.class method.name method.desc a p.listed in
    let second : named (rows_of q.class) method.name method.desc ≡ Some b =
    row_only q.class method.name method.desc b q.listed in
    let same : Some a ≡ Some b =
    sym first ∙ ap (λ (k : Builtin). named (rows_of k) method.name method.desc) told ∙ second in
    cc same
