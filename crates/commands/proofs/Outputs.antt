-- Writing in pieces: what the sink took is what is done of the text.
use Rattle.std.proofs.Common.{◌≡◌, ℕ, ◌+◌, ◌-◌, List, ◌++◌, length, take, drop, length-drop, arith, Option, subst, sym, ap, ◌∙◌}
use Rattle.std.proofs.Math.Seq.{take-add}
use Rattle.std.proofs.lemmas.List.{take_all}
use Rattle.std.proofs.KnownBytes.{Appends-trans}
use Rattle.std.specs.Io.KnownBytes.{Appends}

-- a slice from a place on is all that stands behind the place
slice_from : (text : List ℕ) (done : ℕ) → take (length text - done) (drop done text) ≡ drop done text
slice_from text done = take_all (length text - done) (drop done text) (simp length-drop (omega arith))

-- the sink took n bytes more of the text
pub taken_more : (before now after : Option (List ℕ)) (text : List ℕ) (done n : ℕ) → Appends before now (take done text)
    → Appends now after (take n (take (length text - done) (drop done text))) → Appends before after (take (done + n) text)
taken_more before now after text done n p q =
    let piece = take n (take (length text - done) (drop done text)) in
    subst (Appends before after) (ap (λ rest. take done text ++ take n rest) (slice_from text done) ∙ sym (take-add done n text))
    (Appends-trans before now after (take done text) piece p q)
