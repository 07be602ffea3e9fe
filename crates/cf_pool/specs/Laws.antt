-- What holds of the definitions: exactly one of content and fault stands for each input, and what was read is spelled as it was.
use Rattle.std.specs.Prelude.{◌≡◌, ℕ, ◌^◌, ◌<◌, ◌-◌, List, take, drop, All, ◌⊎◌}
use Rattle.cf_pool.specs.declared.entry.PoolEntry.{PoolEntry}
use Rattle.cf_pool.specs.ModifiedUtf8.{AreUnitsOf, IsBadUnit}
use Rattle.cf_pool.specs.Spelling.{pool_text}
use Rattle.cf_pool.specs.ConstantPool.{IsPool, IsPoolFault}

-- exactly one of content and fault stands: for each content and each fault there are no others
pub record ExactlyOne {C F : Type 0} (IsContent : C → Type 0) (IsFault : F → Type 0) : Type 0 where
  pub one : ((c : C) × IsContent c) ⊎ ((f : F) × IsFault f)
  pub one_content : (c d : C) → IsContent c → IsContent d → c ≡ d
  pub one_fault : (f g : F) → IsFault f → IsFault g → f ≡ g
  pub not_both : (c : C) (f : F) → IsContent c → IsFault f → ⊥

abbrev pub IsBytes : List ℕ → Type 0
IsBytes bytes = All (λ b. b < 2 ^ 8) bytes

-- a text has its units, or the place of its first unit at fault
abbrev pub OneText : Type 0
OneText = (text : List ℕ) → ExactlyOne (AreUnitsOf text) (IsBadUnit text)

-- a file has its pool and the place after it, or the pool's first fault
abbrev pub OnePool : Type 0
OnePool = (bytes : List ℕ) → IsBytes bytes → ExactlyOne (λ (c : List PoolEntry × ℕ). IsPool bytes c.0 c.1) (IsPoolFault bytes)

-- the bytes from place 8 to the place after the pool are the pool's spelling
abbrev pub RoundTrip : Type 0
RoundTrip = (bytes : List ℕ) (pool : List PoolEntry) (place : ℕ) → IsPool bytes pool place → pool_text pool ≡ take (place - 8) (drop 8 bytes)
