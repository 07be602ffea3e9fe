-- Which demands a class file breaks, and the first of them.
use Rattle.std.specs.Prelude.{◌≡◌, ◌≢◌, ℕ, ◌<◌, ◌≤◌, ◌/◌, ◌%◌, List, ◌⊎◌}
use Rattle.std.specs.List.{Contains}
use Rattle.cf_pool.specs.declared.entry.PoolEntry.{PoolEntry}
use Rattle.cf_pool.specs.declared.fault.What.{What}
use Rattle.cf_pool.specs.declared.fault.What.TheVariants as words
use Rattle.cf_pool.specs.declared.fault.Fault.{Fault}
use Rattle.cf_structure.specs.Raw.{RawMember, RawFile}
use Rattle.cf_judge.specs.Forms.{HaveOneText}
use Rattle.cf_judge.specs.Indices.{IsWrongIndex, FitsField}
use Rattle.cf_judge.specs.Words.{rank}
use Rattle.cf_judge.specs.Demands.{Rule, finds, fits, is_new, has_codes, Demand, demands}

-- an earlier member has the same name and the same descriptor, by their texts (4.5, 4.6)
pub record IsSecond (pool : List PoolEntry) (earlier : List RawMember) (m : RawMember) : Type 0 where
  pub other : RawMember
  pub is_earlier : Contains earlier other
  pub name : HaveOneText pool other.name m.name
  pub desc : HaveOneText pool other.desc m.desc

-- the flag NATIVE (0100) or ABSTRACT (0400) is set (4.6, table 4.6-A)
abbrev pub HasNoBody : ℕ → Type 0
HasNoBody flags = (flags / 0x100 % 2 ≡ 1) ⊎ (flags / 0x400 % 2 ≡ 1)

-- a method with one of these flags has a Code, or one without them has not exactly one (4.7.3)
abbrev pub BreaksCodeRule : ℕ → ℕ → Type 0
BreaksCodeRule flags codes = (HasNoBody flags × (codes ≢ 0)) ⊎ ((HasNoBody flags → ⊥) × (codes ≢ 1))

-- a field is not as it has to be; this is the word for it
abbrev pub Breaks : List PoolEntry → Rule → What → Type 0
Breaks pool (finds wanted index) what = IsWrongIndex pool wanted index what
Breaks pool (fits desc index) what = (what ≡ words.BadIndex) × (FitsField pool desc index → ⊥)
Breaks pool (is_new earlier m) what = (what ≡ words.Duplicate) × IsSecond pool earlier m
Breaks pool (has_codes flags codes) what = (what ≡ words.CodeRule) × BreaksCodeRule flags codes

-- the field at that place is at fault with that word
pub record IsWrong (pool : List PoolEntry) (all : List Demand) (fault : Fault) : Type 0 where
  pub broken : Demand
  pub is_demanded : Contains all broken
  pub place_is : fault.place ≡ broken.place
  pub breaks : Breaks pool broken.rule fault.what

-- a fault is not behind another
abbrev pub IsFirst : Fault → Fault → Type 0
IsFirst a b = (a.place < b.place) ⊎ ((a.place ≡ b.place) × (rank a.what ≤ rank b.what))

-- nothing is wrong with the names, the descriptors and the indices of a file
abbrev pub IsJudged : RawFile → Type 0
IsJudged file = (fault : Fault) → IsWrong file.pool (demands file) fault → ⊥

-- the first fault of names, descriptors and indices
pub record IsJudgedFault (file : RawFile) (fault : Fault) : Type 0 where
  pub wrong : IsWrong file.pool (demands file) fault
  pub first : (other : Fault) → IsWrong file.pool (demands file) other → IsFirst fault other
