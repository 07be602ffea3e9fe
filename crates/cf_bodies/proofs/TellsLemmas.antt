-- One part of the checks before another.
use Rattle.std.proofs.Common.{◌≡◌, List, [], ◌∷◌, ◌++◌, sym, subst}
use Rattle.jv_list.proofs.FirstLemmas.{all_append, first_behind, first_front, first_one}
use Rattle.cf_pool.specs.declared.entry.PoolEntry.{PoolEntry}
use Rattle.cf_pool.specs.declared.fault.Fault.{Fault}
use Rattle.cf_structure.specs.declared.fault.ClassFault.{ClassFault}
use Rattle.cf_structure.specs.declared.fault.ClassFault.TheVariants.{Malformed, NoMemory}
use Rattle.cf_structure.specs.ClassFile.{Names}
use Rattle.cf_bodies.specs.Checks.{CheckAt}
use Rattle.cf_bodies.specs.Calls.Tells.{IsPassed, IsFailed, ArePassed, IsFirstFailed}

module _ (pool : List PoolEntry) where
  abbrev Fails_with : Fault → CheckAt → Type 0
  Fails_with fault c = IsFailed pool c fault

  pub one_failed : (c : CheckAt) (refusal : ClassFault) (fault : Fault) → refusal ≡ Malformed fault
      → IsFailed pool c fault
      → Names (IsFirstFailed pool (c ∷ [])) refusal
  one_failed c refusal fault e failed =
      subst (Names (IsFirstFailed pool (c ∷ []))) (sym e) (first_one (IsPassed pool) (Fails_with fault) c failed)

  pub passed_append : (xs ys : List CheckAt) → ArePassed pool xs → ArePassed pool ys → ArePassed pool (xs ++ ys)
  passed_append xs ys h k = all_append (IsPassed pool) xs ys h k

  -- a refusal for the front is one for the whole
  pub refused_front : (xs ys : List CheckAt) (refusal : ClassFault) → Names (IsFirstFailed pool xs) refusal
      → Names (IsFirstFailed pool (xs ++ ys)) refusal
  refused_front xs ys (Malformed fault) h = first_front (IsPassed pool) (Fails_with fault) xs ys h
  refused_front xs ys NoMemory h = tt

  -- so is one for what is behind a front that is passed
  pub refused_behind : (xs ys : List CheckAt) (refusal : ClassFault) → ArePassed pool xs
      → Names (IsFirstFailed pool ys) refusal
      → Names (IsFirstFailed pool (xs ++ ys)) refusal
  refused_behind xs ys (Malformed fault) passed h = first_behind (IsPassed pool) (Fails_with fault) xs ys passed h
  refused_behind xs ys NoMemory passed h = tt

  -- and one in the middle
  pub refused_within : (done next rest all : List CheckAt) → all ≡ (done ++ next) ++ rest → (refusal : ClassFault)
      → ArePassed pool done
      → Names (IsFirstFailed pool next) refusal
      → Names (IsFirstFailed pool all) refusal
  refused_within done next rest all parts refusal passed h =
      subst (λ (cs : List CheckAt). Names (IsFirstFailed pool cs) refusal) (sym parts)
      (refused_front (done ++ next) rest refusal (refused_behind done next refusal passed h))
