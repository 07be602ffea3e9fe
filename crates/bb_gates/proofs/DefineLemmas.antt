-- A formula that took a fresh variable and the clauses of a table, or the first few of them.
use Rattle.std.proofs.Common.{◌≡◌, ◌+◌, ℕ, Bool, true, false, List, [], ◌∷◌, ◌++◌, take, sym, ap, ◌∙◌, arith}
use Rattle.std.proofs.lemmas.List.Folds.{list_all-append}
use Rattle.std.proofs.lemmas.Bool.{and_from}
use Rattle.cn_clauses.specs.declared.lit.Lit.{Lit}
use Rattle.cn_clauses.specs.declared.formula.Formula.{Formula}
use Rattle.cn_clauses.specs.Literals.{literal, lit_value}
use Rattle.cn_clauses.specs.Satisfaction.{clause_holds, all_hold, Satisfies}
use Rattle.cn_clauses.specs.Formulas.{variables_of, clauses_of, known_of}
use Rattle.cn_clauses.specs.Extension.{IsGate, IsFresh, IsOver, same}
use Rattle.cn_clauses.specs.Laws.{OppositeValue, OverLiterals, DefinedIsGate}
use Rattle.bb_gates.specs.declared.table.Row.{Row}
use Rattle.bb_gates.specs.declared.table.Operands.{Operands}
use Rattle.bb_gates.specs.Growth.{AreOf, IsConservative}
use Rattle.bb_gates.specs.Calls.Table.{table_lits, row_holds, rows_hold, table_value, is_table, value_of_table}
use Rattle.bb_gates.proofs.TableLemmas.{rows_are, table_is, first_hold, same_refl}

module _ (opposite : OppositeValue) (over : OverLiterals) (old : Formula) (own : Lit) (xs : Operands)
    (rows : List Row) (named : AreOf old (xs.0 ∷ xs.1 ∷ xs.2 ∷ [])) (table : is_table rows ≡ true) where
  over_old : IsOver old (value_of_table rows xs)
  over_old = over old (table_value rows) xs.0 xs.1 xs.2 named.0 named.1.0 named.1.1.0

  holds_where_same : (a : ℕ → Bool)
      → all_hold a (table_lits own xs rows) ≡ same (lit_value a own) (value_of_table rows xs a)
  holds_where_same a = rows_are opposite a own xs rows
      ∙ table_is rows table (lit_value a own) (lit_value a xs.0) (lit_value a xs.1) (lit_value a xs.2)

  pub gate_defined : DefinedIsGate → (new : Formula) → own ≡ literal (variables_of old) false
      → variables_of new ≡ variables_of old + 1 → clauses_of new ≡ clauses_of old ++ table_lits own xs rows
      → known_of new ≡ known_of old → IsGate old new own (value_of_table rows xs)
  gate_defined defined new next more pushed known = defined old new own (value_of_table rows xs) (record {
    next = next;
    variables = more;
    rest = table_lits own xs rows;
    clauses = pushed;
    known = λ k is. known ∙ is;
    over = over_old;
    holds = holds_where_same;
  })

  -- some of the clauses hold where the literal has the value
  first_clauses : (b : ℕ → Bool) (k : ℕ) → lit_value b own ≡ value_of_table rows xs b
      → all_hold b (table_lits own xs (take k rows)) ≡ true
  first_clauses b k is =
      let test = row_holds (lit_value b own) (lit_value b xs.0) (lit_value b xs.1) (lit_value b xs.2) in
      let all : rows_hold rows (lit_value b own) (lit_value b xs.0) (lit_value b xs.1) (lit_value b xs.2) ≡ true =
      table_is rows table (lit_value b own) (lit_value b xs.0) (lit_value b xs.1) (lit_value b xs.2)
      ∙ ap (λ (x : Bool). same x (value_of_table rows xs b)) is ∙ same_refl (value_of_table rows xs b) in
      rows_are opposite b own xs (take k rows) ∙ first_hold test rows k all

  pub few_conservative : (mid new : Formula) (k : ℕ) → IsFresh old mid own → clauses_of mid ≡ clauses_of old
      → variables_of new ≡ variables_of old + 1
      → clauses_of new ≡ clauses_of old ++ table_lits own xs (take k rows) → known_of new ≡ known_of old
      → IsConservative old new
  few_conservative mid new k fresh same_clauses more pushed known = record {
    continues = record {
      grows = omega (arith, more);
      rest = table_lits own xs (take k rows);
      clauses = pushed;
      known = λ k is. known ∙ is;
    };
    extends = λ a h.
        let p = fresh.extends a h (value_of_table rows xs a) in
        let older : Satisfies p.0 (clauses_of old) = ap (all_hold p.0) (sym same_clauses) ∙ p.1.satisfies in
        let is = p.2 ∙ over_old a p.0 p.1.agrees in
        let some = first_clauses p.0 k is in (
          p.0,
          record {
            agrees = p.1.agrees;
            satisfies = ap (all_hold p.0) pushed
                ∙ list_all-append (clause_holds p.0) (clauses_of old) (table_lits own xs (take k rows))
                ∙ and_from (all_hold p.0 (clauses_of old)) (all_hold p.0 (table_lits own xs (take k rows))) older some;
          },
        );
  }
