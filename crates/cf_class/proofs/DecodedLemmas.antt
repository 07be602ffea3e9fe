-- Code in which nothing fails is instructions.
use Rattle.std.proofs.Common.{◌+◌, List, [], ◌∷◌, ◌++◌, refl, inl, inr}
use Rattle.std.specs.List.{flat_map, AllByRecursion}
use Rattle.std.proofs.lemmas.List.Elements.{Contains-append_left, Contains-append_right}
use Rattle.jv_list.proofs.MemberLemmas.{first_member}
use Rattle.cf_pool.specs.declared.entry.PoolEntry.{PoolEntry}
use Rattle.cf_pool.specs.declared.fault.Fault.{Fault}
use Rattle.cf_pool.specs.declared.fault.What.TheVariants as words
use Rattle.cf_structure.specs.Raw.{RawFile}
use Rattle.cf_code.specs.declared.code.Placed.{Placed}
use Rattle.cf_code.specs.declared.decoding.End.{End}
use Rattle.cf_code.specs.declared.decoding.End.TheVariants.{Whole, BadOpcode, BadTarget}
use Rattle.cf_code.specs.Decoding.{EndsAs}
use Rattle.cf_code.specs.Laws.{IsCodeDecided}
use Rattle.cf_bodies.specs.Places.{PlacedCode, codes}
use Rattle.cf_bodies.specs.Checks.{CheckAt, check_at, is_code, code_checks}
use Rattle.cf_bodies.specs.Bodies.{IsShort, AreShort}
use Rattle.cf_bodies.specs.Judged.{IsFailure, HasGoodBodies}
use Rattle.cf_class.proofs.ContentLemmas.{IsDecoded}

module _ (decided : IsCodeDecided) (pool : List PoolEntry) where
  -- none of these checks fails
  NoneFails : List CheckAt → Type 0
  NoneFails all = (fault : Fault) → IsFailure pool all fault → ⊥

  module _ (xs ys : List CheckAt) (none : NoneFails (xs ++ ys)) where
    none_front : NoneFails xs
    unfolding NoneFails
    none_front fault f = none fault (record {
      failed = f.failed;
      offset = f.offset;
      is_checked = Contains-append_left xs ys f.failed f.is_checked;
      place_is = f.place_is;
      fails = f.fails;
    })

    none_behind : NoneFails ys
    unfolding NoneFails
    none_behind fault f = none fault (record {
      failed = f.failed;
      offset = f.offset;
      is_checked = Contains-append_right xs ys f.failed f.is_checked;
      place_is = f.place_is;
      fails = f.fails;
    })

  module _ (c : PlacedCode) where
    abbrev first : CheckAt
    first = check_at (c.place + 8) (is_code c.content.code)

    by_end : (rest : List CheckAt) → NoneFails (first ∷ rest) → (code : List Placed) (end : End)
        → EndsAs c.content.code code end
        → IsDecoded c.content
    unfolding NoneFails
    by_end rest none code Whole ends = (code, ends)
    by_end rest none code (BadOpcode pc) ends = absurd
        (none (record { place = c.place + 8 + pc; what = words.BadOpcode }) (record {
          failed = first;
          offset = pc;
          is_checked = first_member first rest;
          place_is = refl;
          fails = inl (refl, ends.0);
        }))
    by_end rest none code (BadTarget pc) ends = absurd
        (none (record { place = c.place + 8 + pc; what = words.BadTarget }) (record {
          failed = first;
          offset = pc;
          is_checked = first_member first rest;
          place_is = refl;
          fails = inr (inl (refl, ends.0));
        }))

  decoded_all : (cs : List PlacedCode) → AllByRecursion IsShort cs → NoneFails (flat_map code_checks cs)
      → AllByRecursion (λ c. IsDecoded c.content) cs
  decoded_all [] short none = tt
  decoded_all (c ∷ cs) short none =
      let d = decided c.content.code short.0 in (
        by_end c _ (none_front (code_checks c) (flat_map code_checks cs) none) d.0 d.1 d.3,
        decoded_all cs short.1 (none_behind (code_checks c) (flat_map code_checks cs) none),
      )

pub good_decoded : IsCodeDecided → (file : RawFile) → AreShort file → HasGoodBodies file
    → AllByRecursion (λ c. IsDecoded c.content) (codes file)
unfolding NoneFails
good_decoded decided file short good = decoded_all decided file.pool (codes file) short good
