-- A file whose last byte is a newline.
use Rattle.std.specs.Prelude.{◌≡◌, ℕ, List, [], ◌∷◌, ◌++◌, Ok}
use Rattle.wire.specs.declared.certificate.Certificate.{Certificate}
use Rattle.wire.specs.Files.{certificate_of}

-- a newline behind a certificate file is read over
abbrev pub NewlineIsReadOver : Type 0
NewlineIsReadOver = (bytes : List ℕ) (file : Certificate) → certificate_of bytes ≡ Ok file
    → certificate_of (bytes ++ 10 ∷ []) ≡ Ok file
