-- What a folder answers, by the files that it has.
use Rattle.std.specs.Prelude.{◌≡◌, ℕ, List, [], ◌∷◌, ◌++◌, length, find, Option, None, Some, IfSome, nat_lt, if◌then◌else◌}
use Rattle.std.specs.Option.{option_map}
use Rattle.std.specs.Str.{bytes_eq}
use Rattle.io_edges.specs.declared.folder.File.{File}
use Rattle.io_edges.specs.declared.folder.Got.{Got}
use Rattle.io_edges.specs.declared.folder.Got.TheVariants.{Found, Absent, TooLong, Failed, NoMemory}

-- the most bytes that a file may have to be read
abbrev pub longest_file : ℕ
longest_file = 16777216

-- the bytes of the file at a path; of two files of one path the first counts
abbrev pub file_at : List File → List ℕ → Option (List ℕ)
file_at files path = option_map (λ file. file.bytes) (find (λ file. bytes_eq file.path path) files)

-- the answer of the file that is there, or of none
abbrev pub answer_of : Option (List ℕ) → Got
answer_of None = Absent
answer_of (Some bytes) = if nat_lt longest_file (length bytes) then TooLong else Found bytes

-- an answer is that of the file, unless the folder failed or memory was refused
abbrev pub IsAnswer : Option (List ℕ) → Got → Type 0
IsAnswer file Failed = Unit {0}
IsAnswer file NoMemory = Unit {0}
IsAnswer file got = got ≡ answer_of file

-- where the files are told, an answer is that of the file at the path
abbrev pub Answers : Option (List File) → List ℕ → Got → Type 0
Answers told path got = IfSome told (λ files. IsAnswer (file_at files path) got)

-- where the asked paths are told, a read adds its path, unless memory was refused
abbrev pub Asks : Option (List (List ℕ)) → List ℕ → Got → Option (List (List ℕ)) → Type 0
Asks old path NoMemory new = new ≡ old
Asks old path got new = new ≡ option_map (λ paths. paths ++ path ∷ []) old
