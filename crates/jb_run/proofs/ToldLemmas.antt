-- What a folder answers, as the world has it.
use Rattle.std.proofs.Common.{◌≡◌, ℕ, Bool, true, false, cond, nat_lt, List, length, Option, Some, None, refl, ap}
use Rattle.io_edges.specs.declared.folder.File.{File}
use Rattle.io_edges.specs.declared.folder.Got.TheVariants as got
use Rattle.io_edges.specs.Folder.{Answers, answer_of, file_at, longest_file}
use Rattle.hi_tree.specs.declared.world.Was.TheVariants.{Found, Absent, TooLong}
use Rattle.jb_run.specs.Cause.{was_of, IsTold}

found_cut : (b : Bool) (bytes file : List ℕ) → got.Found bytes ≡ cond b got.TooLong (got.Found file)
    → Found bytes ≡ cond b TooLong (Found file)
found_cut true bytes file e = absurd cc
found_cut false bytes file e = let same : bytes ≡ file = cc in ap (λ (bs : List ℕ). Found bs) same

absent_cut : (b : Bool) (file : List ℕ) → got.Absent ≡ cond b got.TooLong (got.Found file) → ⊥
absent_cut true file e = absurd cc
absent_cut false file e = absurd cc

long_cut : (b : Bool) (file : List ℕ) → got.TooLong ≡ cond b got.TooLong (got.Found file) → TooLong ≡ cond b TooLong
    (Found file)
long_cut true file e = refl
long_cut false file e = absurd cc

found_was : (file : Option (List ℕ)) (bytes : List ℕ) → got.Found bytes ≡ answer_of file → Found bytes ≡ was_of file
found_was None bytes e = absurd cc
found_was (Some file) bytes e = found_cut (nat_lt longest_file (length file)) bytes file e

absent_was : (file : Option (List ℕ)) → got.Absent ≡ answer_of file → Absent ≡ was_of file
absent_was None e = refl
absent_was (Some file) e = absurd (absent_cut (nat_lt longest_file (length file)) file e)

long_was : (file : Option (List ℕ)) → got.TooLong ≡ answer_of file → TooLong ≡ was_of file
long_was None e = absurd cc
long_was (Some file) e = long_cut (nat_lt longest_file (length file)) file e

pub told_found : (told : Option (List File)) (path bytes : List ℕ) → Answers told path (got.Found bytes)
    → IsTold told path (Found bytes)
told_found None path bytes h = tt
told_found (Some files) path bytes h = found_was (file_at files path) bytes h

pub told_absent : (told : Option (List File)) (path : List ℕ) → Answers told path got.Absent → IsTold told path Absent
told_absent None path h = tt
told_absent (Some files) path h = absent_was (file_at files path) h

pub told_long : (told : Option (List File)) (path : List ℕ) → Answers told path got.TooLong → IsTold told path TooLong
told_long None path h = tt
told_long (Some files) path h = long_was (file_at files path) h
