-- What a sink took of a text whose writing failed.
use Rattle.std.specs.Prelude.{ℕ, ◌<◌, List, length, take, Option}
use Rattle.std.specs.Io.KnownBytes.{Appends}

-- The sink took a part of the text, from its front, and not all of it.
abbrev pub TookPart : Option (List ℕ) → Option (List ℕ) → List ℕ → Type 0
TookPart before now text = (n : ℕ) × (n < length text) × Appends before now (take n text)
