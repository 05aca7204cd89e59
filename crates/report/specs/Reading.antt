-- What a list's reader has left after a line of the list was read. Assumes nothing: these are definitions.
use Rattle.std.specs.Prelude.{ℕ, ⊤, List, Option, None, Some, Result, Ok, Err}
use Rattle.std.specs.declared.io.Error.{Error}
use Rattle.std.specs.Io.KnownBytes.{Consumes, IsAtEnd}

-- a line are the next bytes; where there is none, no byte is left
abbrev pub ReadsLine : Result (Option (List ℕ)) Error → Option (List ℕ) → Option (List ℕ) → Type 0
ReadsLine (Ok (Some line)) old new = Consumes old new line
ReadsLine (Ok None) old new = IsAtEnd new
ReadsLine (Err why) old new = ⊤
