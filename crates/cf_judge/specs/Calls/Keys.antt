-- What tells members apart: the first indices of the texts of their names and their descriptors.
use Rattle.std.specs.Prelude.{ℕ, List, Bool, ◌&&◌, nat_eq, IsTrue, ◌↔◌}
use Rattle.std.specs.List.{Contains}
use Rattle.std.specs.HashSet.{HashSet, contains}
use Rattle.cf_pool.specs.declared.entry.PoolEntry.{PoolEntry}
use Rattle.cf_structure.specs.Raw.{RawMember}
use Rattle.cf_judge.specs.declared.member.Key.{Key}
use Rattle.cf_judge.specs.Forms.{HasText}
use Rattle.cf_judge.specs.Texts.{IsFirstIndex}

pub record IsKeyOf (pool : List PoolEntry) (m : RawMember) (name desc : ℕ) : Type 0 where
  pub name_units : List ℕ
  pub desc_units : List ℕ
  pub has_name : HasText pool m.name name_units
  pub has_desc : HasText pool m.desc desc_units
  pub first_name : IsFirstIndex pool name_units name
  pub first_desc : IsFirstIndex pool desc_units desc

-- the set has a key
abbrev pub is_same : Key → Key → Bool
is_same a b = nat_eq a.name b.name && nat_eq a.desc b.desc

abbrev pub has_key : {S : Type 0} → HashSet Key S → ℕ → ℕ → Bool
has_key seen name desc = contains is_same seen (record { name = name; desc = desc })

-- the set has the keys of these members
abbrev pub AreSeen : {S : Type 0} → List PoolEntry → List RawMember → HashSet Key S → Type 0
AreSeen pool members seen = (name desc : ℕ)
    → IsTrue (has_key seen name desc) ↔ ((m : RawMember) × Contains members m × IsKeyOf pool m name desc)
