-- What a call that writes does.
use Rattle.std.specs.Prelude.{◌≡◌, ℕ, List, ◌++◌, Result, OnOk}
use Rattle.replay.specs.declared.text.TraceText.{TraceText}

-- it puts more bytes behind those of a text
abbrev pub Appends : {A E : Type 0} → TraceText → TraceText → Result A E → List ℕ → Type 0
Appends old new result more = OnOk result (new.bytes.items ≡ old.bytes.items ++ more)
