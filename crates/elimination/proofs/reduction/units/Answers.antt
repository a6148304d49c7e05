use Rattle.std.proofs.Common.{◌≡◌, List, [], ◌∷◌, ◌++◌, take, sym, subst, ap, ◌∙◌}
use Rattle.farkas_check.specs.Ratios.{Fraction}
use Rattle.elimination.specs.declared.spaces.Space.TheVariants.{Whole}
use Rattle.elimination.specs.Spaces.{IsBasisOf}
use Rattle.elimination.proofs.Bases.{whole_by_units}
use Rattle.elimination.proofs.reduction.units.Goals as goal

pub returns : goal.returns
returns c =
    let pushed : c.push.new.self ≡ c.in_ok-lines.lines ++ c.in_ok-line.field-0 ∷ [] = c.in_ok-push.ensures.ok in
    let lines : c.in_ok-lines.lines ≡ take c.args.width (c.whole-one.result ∷ c.whole-zero.result ∷ c.whole-zero.result ∷ []) ∷ take c.args.width (c.whole-zero.result ∷ c.whole-one.result ∷ c.whole-zero.result ∷ []) ∷ [] = c.in_ok-lines.ensures in
    let line : c.in_ok-line.field-0 ≡ take c.args.width (c.whole-zero.result ∷ c.whole-zero.result ∷ c.whole-one.result ∷ []) = c.in_ok-line.ensures in
    subst (λ (lines : List (List Fraction)). IsBasisOf c.args.width Whole lines)
    (sym (pushed ∙ ap (λ (front : List (List Fraction)). front ++ c.in_ok-line.field-0 ∷ []) lines ∙ ap (λ (last : List Fraction). take c.args.width (c.whole-one.result ∷ c.whole-zero.result ∷ c.whole-zero.result ∷ []) ∷ take c.args.width (c.whole-zero.result ∷ c.whole-one.result ∷ c.whole-zero.result ∷ []) ∷ last ∷ []) line))
    (whole_by_units c.args.width c.whole-zero.result c.whole-one.result c.requires.few c.requires.width c.whole-zero.ensures c.whole-one.ensures)
