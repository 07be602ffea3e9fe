-- A literal whose clauses are those of a table has the table's value.
use Rattle.std.proofs.Common.{◌≡◌, ◌<◌, ℕ, Bool, true, false, not, ◌&&◌, ◌||◌, List, [], ◌∷◌, ◌++◌, take, drop, refl}
use Rattle.std.proofs.Common.{sym, ap, ◌∙◌, subst, Option, Some, None}
use Rattle.std.specs.List.{list_all}
use Rattle.std.proofs.lemmas.List.Folds.{list_all-append}
use Rattle.std.proofs.lemmas.Bool.{and_parts}
use Rattle.std.proofs.lemmas.List.{take-append-drop}
use Rattle.cn_clauses.specs.declared.lit.Lit.{Lit}
use Rattle.cn_clauses.specs.Literals.{variable_of, lit_value}
use Rattle.cn_clauses.specs.Satisfaction.{clause_holds, all_hold, IsClauseBelow}
use Rattle.cn_clauses.specs.Extension.{same}
use Rattle.cn_clauses.specs.Laws.{OppositeValue, OppositeVariable}
use Rattle.bb_gates.specs.declared.table.Row.{Row}
use Rattle.bb_gates.specs.declared.table.Operands.{Operands}
use Rattle.bb_gates.specs.Calls.Table.{signed_lit, named_lits, row_lits, table_lits, signed_value, named_value}
use Rattle.bb_gates.specs.Calls.Table.{row_holds, rows_hold, table_value, everywhere, is_table}

or_false : (x : Bool) → (x || false) ≡ x
or_false true = refl
or_false false = refl

-- a clause of literals has the value of the row
module _ (opposite : OppositeValue) (a : ℕ → Bool) where
  signed_is : (lit : Lit) (sign : Bool) → lit_value a (signed_lit lit sign) ≡ signed_value (lit_value a lit) sign
  signed_is lit true = refl
  signed_is lit false = opposite a lit

  named_is : (lit : Lit) (sign : Option Bool) (rest : List Lit)
      → clause_holds a (named_lits lit sign ++ rest) ≡ (named_value (lit_value a lit) sign || clause_holds a rest)
  named_is lit None rest = refl
  named_is lit (Some sign) rest = ap (λ (x : Bool). x || clause_holds a rest) (signed_is lit sign)

  named_alone : (lit : Lit) (sign : Option Bool)
      → clause_holds a (named_lits lit sign) ≡ named_value (lit_value a lit) sign
  named_alone lit None = refl
  named_alone lit (Some sign) =
      ap (λ (x : Bool). x || false) (signed_is lit sign) ∙ or_false (signed_value (lit_value a lit) sign)

  row_is : (own : Lit) (xs : Operands) (row : Row) → clause_holds a (row_lits own xs row)
      ≡ row_holds (lit_value a own) (lit_value a xs.0) (lit_value a xs.1) (lit_value a xs.2) row
  row_is own xs row =
      let last = named_lits xs.2 row.3 in
      let third = ap (λ (r : Bool). named_value (lit_value a xs.1) row.2 || r) (named_alone xs.2 row.3) in
      let second = named_is xs.1 row.2 last ∙ third in
      let first = named_is xs.0 row.1 (named_lits xs.1 row.2 ++ last)
      ∙ ap (λ (r : Bool). named_value (lit_value a xs.0) row.1 || r) second in
      ap (λ (x : Bool). x || clause_holds a (named_lits xs.0 row.1 ++ (named_lits xs.1 row.2 ++ last)))
      (signed_is own row.0)
      ∙ ap (λ (r : Bool). signed_value (lit_value a own) row.0 || r) first

  pub rows_are : (own : Lit) (xs : Operands) (rows : List Row) → all_hold a (table_lits own xs rows)
      ≡ rows_hold rows (lit_value a own) (lit_value a xs.0) (lit_value a xs.1) (lit_value a xs.2)
  rows_are own xs [] = refl
  rows_are own xs (row ∷ rows) =
      ap (λ (x : Bool). x && all_hold a (table_lits own xs rows)) (row_is own xs row)
      ∙ ap (λ (r : Bool). row_holds (lit_value a own) (lit_value a xs.0) (lit_value a xs.1) (lit_value a xs.2) row && r)
      (rows_are own xs rows)

pub same_eq : (x y : Bool) → same x y ≡ true → x ≡ y
same_eq true y h = sym h
same_eq false true h = h
same_eq false false h = refl

pub same_refl : (x : Bool) → same x x ≡ true
same_refl true = refl
same_refl false = refl

-- a test of two values that holds for all four
four_at : (q : Bool → Bool → Bool)
    → (q true true && (q true false && (q false true && q false false))) ≡ true → (y z : Bool) → q y z ≡ true
four_at q h true true = (and_parts (q true true) _ h).0
four_at q h true false = (and_parts (q true false) _ (and_parts (q true true) _ h).1).0
four_at q h false true =
    (and_parts (q false true) _ (and_parts (q true false) _ (and_parts (q true true) _ h).1).1).0
four_at q h false false =
    (and_parts (q false true) _ (and_parts (q true false) _ (and_parts (q true true) _ h).1).1).1

pub everywhere_at : (p : Bool → Bool → Bool → Bool) → everywhere p ≡ true → (x y z : Bool) → p x y z ≡ true
everywhere_at p h true = four_at (p true) (and_parts _ _ h).0
everywhere_at p h false = four_at (p false) (and_parts _ _ h).1

-- the clauses of a table hold where its literal has the value
pub table_is : (rows : List Row) → is_table rows ≡ true → (own x y z : Bool)
    → rows_hold rows own x y z ≡ same own (table_value rows x y z)
table_is rows table true x y z = refl
table_is rows table false x y z =
    same_eq (rows_hold rows false x y z) (not (table_value rows x y z))
    (everywhere_at (λ x y z. same (rows_hold rows false x y z) (not (table_value rows x y z))) table x y z)

-- some of the clauses hold where all do
pub first_hold : (p : Row → Bool) (rows : List Row) (k : ℕ) → list_all p rows ≡ true → list_all p (take k rows) ≡ true
first_hold p rows k h =
    (and_parts (list_all p (take k rows)) (list_all p (drop k rows))
    (sym (list_all-append p (take k rows) (drop k rows)) ∙ ap (list_all p) (take-append-drop k rows) ∙ h)).0

-- the literals of a clause are of the formula
module _ (opposite : OppositeVariable) (n : ℕ) where
  signed_below : (lit : Lit) (sign : Bool) → variable_of lit < n → variable_of (signed_lit lit sign) < n
  signed_below lit true below = below
  signed_below lit false below = subst (λ (v : ℕ). v < n) (sym (opposite lit)) below

  named_below : (lit : Lit) (sign : Option Bool) (rest : List Lit) → variable_of lit < n → IsClauseBelow n rest
      → IsClauseBelow n (named_lits lit sign ++ rest)
  named_below lit None rest below more = more
  named_below lit (Some sign) rest below more = (signed_below lit sign below, more)

  named_alone_below : (lit : Lit) (sign : Option Bool) → variable_of lit < n → IsClauseBelow n (named_lits lit sign)
  named_alone_below lit None below = tt
  named_alone_below lit (Some sign) below = (signed_below lit sign below, tt)

  pub row_below : (own : Lit) (xs : Operands) (row : Row) → IsClauseBelow n (own ∷ xs.0 ∷ xs.1 ∷ xs.2 ∷ [])
      → IsClauseBelow n (row_lits own xs row)
  row_below own xs row below = (
    signed_below own row.0 below.0,
    named_below xs.0 row.1 (named_lits xs.1 row.2 ++ named_lits xs.2 row.3) below.1.0
        (named_below xs.1 row.2 (named_lits xs.2 row.3) below.1.1.0 (named_alone_below xs.2 row.3 below.1.1.1.0)),
  )
