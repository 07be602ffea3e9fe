-- What searches in the tables find.
use Rattle.std.proofs.Common.{◌≡◌, ℕ, Bool, true, false, ◌&&◌, List, [], ◌∷◌, Option, Some, None, refl, sym, subst}
use Rattle.std.proofs.Common.{◌∙◌, ap, Contains}
use Rattle.std.specs.Prelude.{IfSome, if◌then◌else◌}
use Rattle.std.specs.List.{All, AllByRecursion}
use Rattle.std.specs.Str.{bytes_eq}
use Rattle.std.proofs.lemmas.Bool.{and_parts}
use Rattle.std.proofs.lemmas.Slice.Eq.{bytes_eq-Decides}
use Rattle.std.proofs.lemmas.List.Elements.{All-contains, All-cons, All-nil}
use Rattle.jv_list.proofs.MemberLemmas.{first_member, later_member}
use Rattle.lib_rows.specs.declared.class.Builtin.{Builtin}
use Rattle.lib_rows.specs.declared.method.LibMethod.{LibMethod}
use Rattle.lib_rows.specs.Classes.{class_name}
use Rattle.lib_rows.specs.Rows.{Row, row, named}
use Rattle.lib_rows.specs.Calls.{class_in}

-- what holds of the one that a test chooses, and of what is found without it
chosen : {X : Type 0} (P : X → Type 0) (x : X) (o : Option X) (t : Bool) → (t ≡ true → P x) → IfSome o P
    → IfSome (if t then Some x else o) P
chosen P x o true = λ yes rest. yes refl
chosen P x o false = λ yes rest. rest

-- what follows of what is found
pub weaker : {X : Type 0} (P Q : X → Type 0) (o : Option X) → ((x : X) → P x → Q x) → IfSome o P → IfSome o Q
weaker P Q None f h = cc
weaker P Q (Some x) f h = f x h

-- a class that is found has the name
pub class_found : (classes : List Builtin) (name : List ℕ)
    → IfSome (class_in classes name) (λ class. name ≡ class_name class)
class_found [] name = cc
class_found (class ∷ classes) name =
    chosen (λ c. name ≡ class_name c) class (class_in classes name) (bytes_eq (class_name class) name)
    (λ t. sym ((bytes_eq-Decides (class_name class) name).0 t)) (class_found classes name)

-- a row with both texts is the one that they make
same_row : (r : Row) (name desc : List ℕ) → (bytes_eq r.name name && bytes_eq r.desc desc) ≡ true
    → r ≡ row name desc r.method
same_row r name desc t =
    let both = and_parts (bytes_eq r.name name) (bytes_eq r.desc desc) t in
    let first : r.name ≡ name = (bytes_eq-Decides r.name name).0 both.0 in
    let second : r.desc ≡ desc = (bytes_eq-Decides r.desc desc).0 both.1 in
    ap (λ (n : List ℕ). row n r.desc r.method) first ∙ ap (λ (d : List ℕ). row name d r.method) second

first_found : (r : Row) (rows : List Row) (name desc : List ℕ) → (bytes_eq r.name name && bytes_eq r.desc desc) ≡ true
    → Contains (r ∷ rows) (row name desc r.method)
first_found r rows name desc t =
    subst (λ (x : Row). Contains (r ∷ rows) x) (same_row r name desc t) (first_member r rows)

-- a row that is found is one of them
pub row_found : (rows : List Row) (name desc : List ℕ)
    → IfSome (named rows name desc) (λ method. Contains rows (row name desc method))
row_found [] name desc = cc
row_found (r ∷ rows) name desc =
    chosen (λ m. Contains (r ∷ rows) (row name desc m)) r.method (named rows name desc)
    (bytes_eq r.name name && bytes_eq r.desc desc) (first_found r rows name desc)
    (weaker (λ m. Contains rows (row name desc m)) (λ m. Contains (r ∷ rows) (row name desc m)) (named rows name desc)
    (λ m h. later_member r rows (row name desc m) h) (row_found rows name desc))
