-- What a folder in memory that never fails holds.
use Rattle.std.specs.Prelude.{ℕ, List}
use Rattle.io_edges.specs.declared.folder.File.{File}
use Rattle.io_edges.specs.declared.sure_folder.SureFolder.{SureFolder}

-- its files
abbrev pub sure_files : SureFolder → List File
sure_files folder = folder.known.files

-- the paths that were asked for so far
abbrev pub sure_asked : SureFolder → List (List ℕ)
sure_asked folder = folder.known.asked
