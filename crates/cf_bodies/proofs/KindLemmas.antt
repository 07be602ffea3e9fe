-- An entry of a kind stands at an index, or it does not.
use Rattle.std.proofs.Common.{◌≡◌, ◌≢◌, ℕ, List, Bool, true, false, Option, Some, None, refl, sym, ap, ◌∙◌, subst}
use Rattle.std.proofs.Common.{inl, inr, ◌⊎◌}
use Rattle.std.specs.Prelude.{slice_get, is_some, not}
use Rattle.std.proofs.lemmas.Bool.{true≢false, false≢true}
use Rattle.cf_pool.specs.declared.entry.PoolEntry.{PoolEntry}
use Rattle.cf_pool.specs.declared.fault.What.{What}
use Rattle.cf_pool.specs.declared.fault.What.TheVariants.{BadIndex}
use Rattle.cf_judge.specs.declared.index.Wanted.TheVariants.{PlainClass}
use Rattle.cf_judge.specs.Indices.{IsWrongIndex, HasPlainClass}
use Rattle.cf_judge.specs.Calls.Words.{TellsWord}
use Rattle.cf_bodies.specs.declared.need.PoolKind.{PoolKind}
use Rattle.cf_bodies.specs.declared.need.PoolKind.TheVariants as kinds
use Rattle.cf_bodies.specs.Needs.{IsOfKind, FindsKind, HasKind}

module _ (pool : List PoolEntry) (index : ℕ) where
  -- but for a plain class, the entry tells
  pub finds : (kind : PoolKind) → kind ≢ kinds.PlainClass → FindsKind pool kind index → HasKind pool kind index
  finds kinds.OneWord other h = h
  finds kinds.TwoWords other h = h
  finds kinds.Field other h = h
  finds kinds.Method other h = h
  finds kinds.AnyMethod other h = h
  finds kinds.InterfaceMethod other h = h
  finds kinds.CallSite other h = h
  finds kinds.Class other h = h
  finds kinds.PlainClass other h = absurd (other refl)

  pub found : (kind : PoolKind) → kind ≢ kinds.PlainClass → HasKind pool kind index → FindsKind pool kind index
  found kinds.OneWord other h = h
  found kinds.TwoWords other h = h
  found kinds.Field other h = h
  found kinds.Method other h = h
  found kinds.AnyMethod other h = h
  found kinds.InterfaceMethod other h = h
  found kinds.CallSite other h = h
  found kinds.Class other h = h
  found kinds.PlainClass other h = absurd (other refl)

  same_entry : (a b : PoolEntry) → Some a ≡ Some b → a ≡ b
  same_entry a b e = cc

  -- the entry that stands there is of the kind
  pub is_of : (kind : PoolKind) (entry : PoolEntry) → slice_get pool index ≡ Some entry → FindsKind pool kind index
      → IsOfKind kind entry
  is_of kind entry at h = subst (IsOfKind kind) (same_entry h.0 entry (sym h.1 ∙ at)) h.2

  pub none_found : (kind : PoolKind) → slice_get pool index ≡ None → FindsKind pool kind index → ⊥
  none_found kind at h = let e : None ≡ Some h.0 = sym at ∙ h.1 in absurd cc

-- a class that is no array is there where no word says that it is wrong
module _ (pool : List PoolEntry) (index : ℕ) (decided : HasPlainClass pool index ⊎ (HasPlainClass pool index → ⊥)) where
  pub plain_there : (r : Option What) (none : Bool) → TellsWord (IsWrongIndex pool PlainClass index) r
      → is_some r ≡ not none
      → none ≡ true
      → HasPlainClass pool index
  plain_there (Some what) none tells e t = absurd (true≢false (e ∙ ap not t))
  plain_there None none tells e t = elim decided [
    | inl is ↦ is
    | inr other ↦ absurd (tells BadIndex (refl, other))
  ]

  pub nothing_wrong : (r : Option What) (none : Bool) → TellsWord (IsWrongIndex pool PlainClass index) r
      → is_some r ≡ not none
      → HasPlainClass pool index
      → none ≡ true
  nothing_wrong None true tells e is = refl
  nothing_wrong None false tells e is = absurd (false≢true e)
  nothing_wrong (Some what) none tells e is = absurd (tells.0.1 is)
