-- What an opened file means.
use Rattle.std.specs.Prelude.{ℕ, List, Ok, Err, vec_items, Result}
use Rattle.tasks.specs.declared.refusal.Refusal.{Refusal}
use Rattle.tasks.specs.Task.{Priced}
use Rattle.packed.specs.declared.file.File.{File}
use Rattle.packed.specs.Decoding.{decoded}

abbrev pub contents : File → List ℕ
contents f = vec_items f.bytes

-- the task of a file, where it was opened
abbrev pub task_of : Result File Refusal → Result Priced Refusal
task_of (Ok f) = Ok (decoded (contents f))
task_of (Err e) = Err e
