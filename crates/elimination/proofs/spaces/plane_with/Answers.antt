use Rattle.std.proofs.Common.{◌≡◌, pos, sym, ◌∙◌, arith}
use Rattle.std.proofs.lemmas.Int.{ints}
use Rattle.elimination.proofs.Extensions.{plane_kept, plane_to_whole}
use Rattle.elimination.proofs.spaces.plane_with.Goals as goal

pub returns-then-dot-eq0 : goal.returns-then-dot-eq0
returns-then-dot-eq0 c =
    let zero : c.dot.result ≡ pos 0 = omega (arith, ints) in
    plane_kept c.args.n.now c.args.v.now c.requires.proper (sym c.dot.ensures ∙ zero)

pub returns : goal.returns
returns c =
    let some : c.dot.result ≡ pos 0 → ⊥ = λ e. let same : c.dot.result ≡ pos 0 = e in omega (arith, ints) in
    plane_to_whole c.args.n.now c.args.v.now (λ e. some (c.dot.ensures ∙ e))
