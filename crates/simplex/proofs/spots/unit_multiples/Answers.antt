use Rattle.std.proofs.Common.{◌≡◌, ℕ, ◌++◌, ◌∷◌, ◌+◌, [], drop, get_or, sym, ap, ◌∙◌, arith, rules, Ok, ℤ, pos}
use Rattle.std.proofs.lemmas.List.{drop_more}
use Rattle.farkas_check.specs.Ratios.{Fraction}
use Rattle.farkas_check.specs.Relations.{entry}
use Rattle.simplex.specs.Exchange.{behind}
use Rattle.simplex.specs.Spots.{unit_multiple, multiples_from}
use Rattle.simplex.proofs.Behind.{behind-next}
use Rattle.simplex.proofs.spots.unit_multiples.Goals as goal

pub loop-spot-preserved : goal.loop-spot-preserved
loop-spot-preserved c =
    let line = c.args.line.now in
    let own = entry line c.args.unknown in
    let scales = c.args.scales.now in
    let i = c.loop-spot.spot in
    let scale : ℤ = get_or scales i (pos 0) in
    let r : Fraction = c.in_ok-unit_multiple.field-0 in
    let more : c.push.new.self ≡ c.loop-spot.made ++ r ∷ [] = search rules in
    let first : unit_multiple line own (c.args.count + i) scale ≡ Ok r = search rules in
    let next : c.args.count + (i + 1) ≡ c.args.count + i + 1 = omega arith in
    ap (λ (n : ℕ). behind c.push.new.self (multiples_from line own n (drop (i + 1) scales))) next
    ∙ behind-next c.loop-spot.made c.push.new.self r (unit_multiple line own (c.args.count + i) scale) (multiples_from line own (c.args.count + i + 1) (drop (i + 1) scales)) more first
    ∙ ap (λ ns. behind c.loop-spot.made (multiples_from line own (c.args.count + i) ns)) (sym (drop_more scales i (pos 0) c.loop-spot-test.true))
    ∙ c.loop-spot.invariant
