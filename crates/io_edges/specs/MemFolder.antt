-- What a folder in memory holds.
use Rattle.std.specs.Prelude.{ℕ, List}
use Rattle.io_edges.specs.declared.folder.File.{File}
use Rattle.io_edges.specs.declared.mem_folder.MemFolder.{MemFolder}

-- its files
abbrev pub told_files : MemFolder → List File
told_files folder = folder.known.files

-- the paths that were asked for so far
abbrev pub asked_paths : MemFolder → List (List ℕ)
asked_paths folder = folder.known.asked

-- the numbers, from 0, of the reads that it fails
abbrev pub failing_calls : MemFolder → List ℕ
failing_calls folder = folder.failing

-- how many reads there were, which is the number of the next one
abbrev pub calls_so_far : MemFolder → ℕ
calls_so_far folder = folder.calls

-- how many reads failed
abbrev pub fault_count : MemFolder → ℕ
fault_count folder = folder.faults
