-- Where the file of a class lies.
use Rattle.std.specs.Prelude.{ℕ, List, ◌++◌, codes}

-- the file of a class in a folder: the folder, `/`, the name of the class, `.class`
abbrev pub class_path : List ℕ → List ℕ → List ℕ
class_path dir class = dir ++ codes "/" ++ class ++ codes ".class"
