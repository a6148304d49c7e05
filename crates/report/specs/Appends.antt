-- What a call that writes does.
use Rattle.std.specs.Prelude.{◌≡◌, ℕ, List, ◌++◌, Result, OnOk}

-- it puts more bytes behind those of a text
abbrev pub Appends : {A E : Type 0} → List ℕ → List ℕ → Result A E → List ℕ → Type 0
Appends old new result more = OnOk result (new ≡ old ++ more)
