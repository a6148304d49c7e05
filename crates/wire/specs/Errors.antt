-- Why a file is not read, and why an edit is not made. Want of memory tells nothing.
use Rattle.std.specs.Prelude.{ℕ, List, Option, None, Some}
use Rattle.wire.specs.declared.error.WireError.{WireError}
use Rattle.wire.specs.declared.error.WireError.TheVariants.{Json, Shape, Version, Edit, Memory}
use Rattle.wire.specs.declared.error.Wrong.{Wrong}
use Rattle.wire.specs.declared.error.Wrong.TheVariants.{At, Memory as NoMemory}

-- what an error tells of the file
abbrev pub fault : WireError → Option WireError
fault Json = Some Json
fault (Shape path) = Some (Shape path)
fault (Version n) = Some (Version n)
fault (Edit n) = Some (Edit n)
fault Memory = None

-- the path of the wrong part
abbrev pub wrong_path : Wrong → Option (List ℕ)
wrong_path (At path) = Some path
wrong_path NoMemory = None

-- the error of the whole file
abbrev pub whole_error : Wrong → WireError
whole_error (At path) = Shape path
whole_error NoMemory = Memory
