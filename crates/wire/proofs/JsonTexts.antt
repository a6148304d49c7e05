-- The value of bytes as JSON.
use Rattle.std.proofs.Common.{◌≡◌, ℕ, Bool, true, false, List, ap, ◌∙◌, refl}
use Rattle.std.specs.Prelude.{None, Some, Ok, Err}
use Rattle.std.specs.Str.{IsUtf8, is_utf8}
use Rattle.std.proofs.lemmas.Str.{IsUtf8-from_is_utf8, is_utf8-from_IsUtf8}
use Rattle.serde_json.specs.Data.{Data}
use Rattle.serde_json.proofs.Views.{items_len-items_view}
use Rattle.serde_json.specs.Read.{read}
use Rattle.wire.specs.declared.error.WireError.TheVariants.{Json}
use Rattle.wire.specs.Files.{certificate_in, certificate_of, if_json, json_of}
use Rattle.wire.specs.Written.{certificate_data}
use Rattle.wire.specs.declared.certificate.Certificate.{Certificate}
use Rattle.items.specs.Gives.{◌>>=◌}

pub json_of-read : (bytes : List ℕ) (d : Data) → IsUtf8 bytes → read bytes ≡ Some d → json_of bytes ≡ Ok d
unfolding json_of
json_of-read bytes d utf8 reads = (rw (is_utf8-from_IsUtf8 bytes utf8) (ap if_json reads))

pub json_of-none : (bytes : List ℕ) → (IsUtf8 bytes → read bytes ≡ None) → json_of bytes ≡ Err Json
unfolding json_of
json_of-none bytes unread = none (is_utf8 bytes) refl where
  none : (b : Bool) → is_utf8 bytes ≡ b → json_of bytes ≡ Err Json
  none false e = (rw e refl)
  none true e = (rw e (ap if_json (unread (IsUtf8-from_is_utf8 bytes e))))

-- a file's text reads as the file
pub certificate_of-text : (bytes : List ℕ) (file : Certificate) → IsUtf8 bytes → read bytes ≡ Some (certificate_data file)
    → certificate_in (certificate_data file) ≡ Ok file → certificate_of bytes ≡ Ok file
certificate_of-text bytes file utf8 reads back = ap (λ r. r >>= certificate_in) (json_of-read bytes (certificate_data file) utf8 reads) ∙ back

pub ruleset json_texts = (json_of-read, json_of-none)

pub ruleset lengths = (items_len-items_view)
