-- Whether an instruction has what it needs is decided, and so is whether a row is one of a code.
use Rattle.std.proofs.Common.{◌≡◌, ℕ, ◌<◌, ◌≤◌, List, [], ◌∷◌, Option, Some, None, refl, ap, inl}
use Rattle.std.proofs.Common.{inr, ◌⊎◌, arith}
use Rattle.std.specs.Prelude.{slice_get, Contains}
use Rattle.jv_list.proofs.DecidedLemmas.{Decided, both, either, other, numbers, below, member}
use Rattle.cf_pool.specs.declared.entry.PoolEntry.{PoolEntry}
use Rattle.cf_pool.specs.declared.entry.PoolEntry.TheVariants as entries
use Rattle.cf_structure.specs.declared.code.Row.{Row}
use Rattle.cf_code.specs.declared.code.Placed.{Placed}
use Rattle.cf_judge.specs.Laws.{PlainClassDecided}
use Rattle.cf_bodies.specs.declared.need.PoolKind.{PoolKind}
use Rattle.cf_bodies.specs.declared.need.PoolKind.TheVariants as kinds
use Rattle.cf_bodies.specs.declared.need.Need.{Need}
use Rattle.cf_bodies.specs.declared.need.Need.TheVariants.{Nothing, Pooled, ElementType}
use Rattle.cf_bodies.specs.Needs.{need, IsOneWord, IsTwoWords, IsFieldEntry, IsMethodEntry, IsInterfaceMethodEntry}
use Rattle.cf_bodies.specs.Needs.{IsAnyMethodEntry, IsCallSite, IsClassEntry, IsOfKind, FindsKind, HasKind, IsMet}
use Rattle.cf_bodies.specs.Rows.{IsRowOf}
use Rattle.cf_bodies.specs.Calls.Unmet.{AreMet, IsFirstUnmet}
use Rattle.cf_bodies.proofs.KindLemmas.{is_of, none_found}

one_word : (e : PoolEntry) → Decided (IsOneWord e)
one_word (entries.Integer n) = inl tt
one_word (entries.Float n) = inl tt
one_word (entries.Class n) = inl tt
one_word (entries.Str n) = inl tt
one_word (entries.MethodHandle k n) = inl tt
one_word (entries.MethodType n) = inl tt
one_word e = inr (λ h. h)

two_words : (e : PoolEntry) → Decided (IsTwoWords e)
two_words (entries.Long n) = inl tt
two_words (entries.Double n) = inl tt
two_words e = inr (λ h. h)

field : (e : PoolEntry) → Decided (IsFieldEntry e)
field (entries.Field a b) = inl tt
field e = inr (λ h. h)

method : (e : PoolEntry) → Decided (IsMethodEntry e)
method (entries.Method a b) = inl tt
method e = inr (λ h. h)

interface_method : (e : PoolEntry) → Decided (IsInterfaceMethodEntry e)
interface_method (entries.InterfaceMethod a b) = inl tt
interface_method e = inr (λ h. h)

any_method : (e : PoolEntry) → Decided (IsAnyMethodEntry e)
any_method (entries.Method a b) = inl tt
any_method (entries.InterfaceMethod a b) = inl tt
any_method e = inr (λ h. h)

call_site : (e : PoolEntry) → Decided (IsCallSite e)
call_site (entries.InvokeDynamic a b) = inl tt
call_site e = inr (λ h. h)

class : (e : PoolEntry) → Decided (IsClassEntry e)
class (entries.Class n) = inl tt
class e = inr (λ h. h)

of_kind : (kind : PoolKind) (e : PoolEntry) → Decided (IsOfKind kind e)
of_kind kinds.OneWord e = one_word e
of_kind kinds.TwoWords e = two_words e
of_kind kinds.Field e = field e
of_kind kinds.Method e = method e
of_kind kinds.AnyMethod e = any_method e
of_kind kinds.InterfaceMethod e = interface_method e
of_kind kinds.CallSite e = call_site e
of_kind kinds.Class e = class e
of_kind kinds.PlainClass e = class e

finds_kind : (pool : List PoolEntry) (kind : PoolKind) (index : ℕ) → Decided (FindsKind pool kind index)
finds_kind pool kind index = by_entry (slice_get pool index) refl
  where
    by_entry : (e : Option PoolEntry) → slice_get pool index ≡ e → Decided (FindsKind pool kind index)
    by_entry None at = inr (λ h. none_found pool index kind at h)
    by_entry (Some e) at = other (IsOfKind kind e) (FindsKind pool kind index) (λ h. (e, at, h))
        (λ h. is_of pool index kind e at h) (of_kind kind e)

module _ (law : PlainClassDecided) (pool : List PoolEntry) where
  has_kind : (kind : PoolKind) (index : ℕ) → Decided (HasKind pool kind index)
  has_kind kinds.OneWord index = finds_kind pool kinds.OneWord index
  has_kind kinds.TwoWords index = finds_kind pool kinds.TwoWords index
  has_kind kinds.Field index = finds_kind pool kinds.Field index
  has_kind kinds.Method index = finds_kind pool kinds.Method index
  has_kind kinds.AnyMethod index = finds_kind pool kinds.AnyMethod index
  has_kind kinds.InterfaceMethod index = finds_kind pool kinds.InterfaceMethod index
  has_kind kinds.CallSite index = finds_kind pool kinds.CallSite index
  has_kind kinds.Class index = finds_kind pool kinds.Class index
  has_kind kinds.PlainClass index = law pool index

  met : (n : Need) → Decided (IsMet pool n)
  met Nothing = inl tt
  met (Pooled kind index) = has_kind kind index
  met (ElementType n) =
      other ((3 < n) × (n < 12)) ((4 ≤ n) × (n ≤ 11)) (λ h. (omega (arith, h.0), omega (arith, h.1)))
      (λ h. (omega (arith, h.0), omega (arith, h.1))) (both (3 < n) (n < 12) (below 3 n) (below n 12))

  -- the first instruction that lacks something, or that none does
  pub first_unmet : (code : List Placed) → ((pc : ℕ) × IsFirstUnmet pool code pc) ⊎ AreMet pool code
  first_unmet [] = inr tt
  first_unmet (x ∷ code) = elim (met (need x.instr)) [
    | inr unmet ↦
        inl (
          x.pc,
          record {
            before = [];
            placed = x;
            after = code;
            parts = refl;
            met = tt;
            unmet = unmet;
            pc_is =
                refl;
          },
        )
    | inl is ↦ elim (first_unmet code) [
      | inr others ↦ inr (is, others)
      | inl u ↦ inl (u.0, further x code u.0 is u.1)
    ]
  ]
    where
      further : (x : Placed) (code : List Placed) (pc : ℕ) → IsMet pool (need x.instr) → IsFirstUnmet pool code pc
          → IsFirstUnmet pool (x ∷ code) pc
      further x code pc is u = record {
        before = x ∷ u.before;
        placed = u.placed;
        after = u.after;
        parts = ap (λ (xs : List Placed). x ∷ xs) u.parts;
        met = (is, u.met);
        unmet = u.unmet;
        pc_is = u.pc_is;
      }

pub row_of : (starts : List ℕ) (size : ℕ) (row : Row) → Decided (IsRowOf starts size row)
row_of starts size row =
    let end : Type 0 = Contains starts row.end ⊎ (row.end ≡ size) in
    other ((row.start < row.end) × (Contains starts row.start × (Contains starts row.handler × end)))
    (IsRowOf starts size row) (λ h. record { below = h.0; start = h.1.0; handler = h.1.1.0; end = h.1.1.1 })
    (λ h. (h.below, (h.start, (h.handler, h.end))))
    (both (row.start < row.end) _ (below row.start row.end)
    (both (Contains starts row.start) _ (member starts row.start)
    (both (Contains starts row.handler) end (member starts row.handler)
    (either (Contains starts row.end) (row.end ≡ size) (member starts row.end) (numbers row.end size)))))
