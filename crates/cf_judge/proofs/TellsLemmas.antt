-- A part of a class file before another.
use Rattle.std.proofs.Common.{◌≡◌, ℕ, List, ◌++◌, Result, Ok, Err, subst}
use Rattle.cf_pool.specs.declared.entry.PoolEntry.{PoolEntry}
use Rattle.cf_pool.specs.declared.fault.Fault.{Fault}
use Rattle.cf_structure.specs.declared.fault.ClassFault.{ClassFault}
use Rattle.cf_structure.specs.declared.fault.ClassFault.TheVariants.{Malformed, NoMemory}
use Rattle.cf_structure.specs.ClassFile.{Names}
use Rattle.cf_judge.specs.Demands.{Demand}
use Rattle.cf_judge.specs.Calls.Tells.{IsKept, IsBroken, AreKept, IsFirstBroken, Tells}
use Rattle.jv_list.proofs.FirstLemmas.{all_append, first_behind, first_front}

module _ (pool : List PoolEntry) where
  pub kept_append : (xs ys : List Demand) → AreKept pool xs → AreKept pool ys → AreKept pool (xs ++ ys)
  unfolding AreKept
  kept_append xs ys k l = all_append (IsKept pool) xs ys k l

  broken_behind : (xs ys : List Demand) (fault : Fault) → AreKept pool xs → IsFirstBroken pool ys fault
      → IsFirstBroken pool (xs ++ ys) fault
  unfolding AreKept IsFirstBroken
  broken_behind xs ys fault k l = first_behind (IsKept pool) (λ d. IsBroken pool d fault) xs ys k l

  broken_front : (xs ys : List Demand) (fault : Fault) → IsFirstBroken pool xs fault
      → IsFirstBroken pool (xs ++ ys) fault
  unfolding IsFirstBroken
  broken_front xs ys fault h = first_front (IsKept pool) (λ d. IsBroken pool d fault) xs ys h

  -- a refusal for the front is one for the whole
  pub refused_front : (xs ys : List Demand) (refusal : ClassFault) → Names (IsFirstBroken pool xs) refusal
      → Names (IsFirstBroken pool (xs ++ ys)) refusal
  refused_front xs ys (Malformed fault) h = broken_front xs ys fault h
  refused_front xs ys NoMemory h = tt

  -- where the front is in order, what tells of the part behind it tells of the whole
  pub tells_behind : (xs ys : List Demand) (end : ℕ) (r : Result ℕ ClassFault) → AreKept pool xs → Tells pool ys end r
      → Tells pool (xs ++ ys) end r
  tells_behind xs ys end (Ok place) k l = (l.0, kept_append xs ys k l.1)
  tells_behind xs ys end (Err (Malformed fault)) k l = broken_behind xs ys fault k l
  tells_behind xs ys end (Err NoMemory) k l = tt

  -- the same with the place where it ends written in another way
  pub ends_at : (ds : List Demand) (m n : ℕ) (r : Result ℕ ClassFault) → m ≡ n → Tells pool ds m r → Tells pool ds n r
  ends_at ds m n r e h = subst (λ (k : ℕ). Tells pool ds k r) e h
