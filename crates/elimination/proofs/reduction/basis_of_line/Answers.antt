use Rattle.std.proofs.Common.{◌≡◌, List, [], ◌∷◌, take, sym, subst, arith, pos}
use Rattle.std.proofs.lemmas.Int.{ints}
use Rattle.std.proofs.lemmas.Result.{IfOk-weaker}
use Rattle.farkas_check.specs.Ratios.{Fraction}
use Rattle.elimination.specs.declared.spaces.Space.TheVariants.{Line}
use Rattle.elimination.specs.Spaces.{IsBasisOf}
use Rattle.elimination.proofs.Bases.{line_by_x, line_by_y, line_by_z}
use Rattle.elimination.proofs.reduction.basis_of_line.Goals as goal

pub returns-then-p-ne0 : goal.returns-then-p-ne0
returns-then-p-ne0 c =
    let p = c.args.p.now in
    let apart : p.x ≡ pos 0 → ⊥ = λ e. let same : p.x ≡ pos 0 = e in omega (arith, ints) in
    IfOk-weaker c.one_line.result (λ (lines : List (List Fraction)). lines ≡ take c.args.width (c.whole-one.result ∷ c.ratio.result ∷ c.ratio-then-p-ne0.result ∷ []) ∷ []) (λ (lines : List (List Fraction)). IsBasisOf c.args.width (Line p) lines)
    (λ lines e. subst (λ (lines : List (List Fraction)). IsBasisOf c.args.width (Line p) lines) (sym e)
    (line_by_x p c.args.width c.whole-one.result c.ratio.result c.ratio-then-p-ne0.result c.requires.few c.requires.width c.requires.proper.some apart c.whole-one.ensures c.ratio.ensures c.ratio-then-p-ne0.ensures)) c.one_line.ensures

pub returns-then-p-ne0-2 : goal.returns-then-p-ne0-2
returns-then-p-ne0-2 c =
    let p = c.args.p.now in
    let ex : p.x ≡ pos 0 = omega (arith, ints) in
    let apart : p.y ≡ pos 0 → ⊥ = λ e. let same : p.y ≡ pos 0 = e in omega (arith, ints) in
    IfOk-weaker c.one_line-then-p-ne0-2.result (λ (lines : List (List Fraction)). lines ≡ take c.args.width (c.whole-zero.result ∷ c.whole-one.result ∷ c.ratio-then-p-ne0-2.result ∷ []) ∷ []) (λ (lines : List (List Fraction)). IsBasisOf c.args.width (Line p) lines)
    (λ lines e. subst (λ (lines : List (List Fraction)). IsBasisOf c.args.width (Line p) lines) (sym e)
    (line_by_y p c.args.width c.whole-zero.result c.whole-one.result c.ratio-then-p-ne0-2.result c.requires.few c.requires.width c.requires.proper.some ex apart c.whole-zero.ensures c.whole-one.ensures c.ratio-then-p-ne0-2.ensures)) c.one_line-then-p-ne0-2.ensures

pub returns : goal.returns
returns c =
    let p = c.args.p.now in
    let ex : p.x ≡ pos 0 = omega (arith, ints) in
    let ey : p.y ≡ pos 0 = omega (arith, ints) in
    IfOk-weaker c.one_line-2.result (λ (lines : List (List Fraction)). lines ≡ take c.args.width (c.whole-zero.result ∷ c.whole-zero.result ∷ c.whole-one.result ∷ []) ∷ []) (λ (lines : List (List Fraction)). IsBasisOf c.args.width (Line p) lines)
    (λ lines e. subst (λ (lines : List (List Fraction)). IsBasisOf c.args.width (Line p) lines) (sym e)
    (line_by_z p c.args.width c.whole-zero.result c.whole-one.result c.requires.few c.requires.width c.requires.proper.some ex ey c.whole-zero.ensures c.whole-one.ensures)) c.one_line-2.ensures
