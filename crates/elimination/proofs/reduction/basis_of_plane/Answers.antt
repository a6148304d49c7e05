use Rattle.std.proofs.Common.{◌≡◌, ℤ, List, [], ◌∷◌, take, sym, subst, arith, pos}
use Rattle.std.specs.Prelude.{neg_ℤ}
use Rattle.std.proofs.lemmas.Int.{ints}
use Rattle.std.proofs.lemmas.Result.{IfOk-weaker}
use Rattle.farkas_check.specs.Ratios.{Fraction}
use Rattle.elimination.specs.declared.spaces.Space.TheVariants.{Plane}
use Rattle.elimination.specs.Spaces.{IsBasisOf, IsRatioOf}
use Rattle.elimination.proofs.Bases.{plane_by_x, plane_by_y, plane_by_z}
use Rattle.elimination.proofs.Magnitudes.{read_turned}
use Rattle.elimination.proofs.reduction.basis_of_plane.Goals as goal

pub returns-then-n-ne0 : goal.returns-then-n-ne0
returns-then-n-ne0 c =
    let n = c.args.n.now in
    let apart : n.z ≡ pos 0 → ⊥ = λ e. let same : n.z ≡ pos 0 = e in omega (arith, ints) in
    let first : IsRatioOf c.ratio.result (neg_ℤ n.x) n.z = subst (λ (z : ℤ). IsRatioOf c.ratio.result z n.z) (read_turned n.x c.requires.proper.small.x) c.ratio.ensures in
    let second : IsRatioOf c.ratio-then-n-ne0.result (neg_ℤ n.y) n.z = subst (λ (z : ℤ). IsRatioOf c.ratio-then-n-ne0.result z n.z) (read_turned n.y c.requires.proper.small.y) c.ratio-then-n-ne0.ensures in
    IfOk-weaker c.two_lines.result
    (λ (lines : List (List Fraction)). lines ≡ take c.args.width (c.whole-one.result ∷ c.whole-zero.result ∷ c.ratio.result ∷ []) ∷ take c.args.width (c.whole-zero.result ∷ c.whole-one.result ∷ c.ratio-then-n-ne0.result ∷ []) ∷ [])
    (λ (lines : List (List Fraction)). IsBasisOf c.args.width (Plane n) lines)
    (λ lines e. subst (λ (lines : List (List Fraction)). IsBasisOf c.args.width (Plane n) lines) (sym e)
    (plane_by_z n c.args.width c.whole-zero.result c.whole-one.result c.ratio.result c.ratio-then-n-ne0.result c.requires.few c.requires.width apart c.whole-zero.ensures c.whole-one.ensures first second)) c.two_lines.ensures

pub returns-then-n-ne0-2 : goal.returns-then-n-ne0-2
returns-then-n-ne0-2 c =
    let n = c.args.n.now in
    let ez : n.z ≡ pos 0 = omega (arith, ints) in
    let apart : n.y ≡ pos 0 → ⊥ = λ e. let same : n.y ≡ pos 0 = e in omega (arith, ints) in
    let first : IsRatioOf c.ratio-then-n-ne0-2.result (neg_ℤ n.x) n.y = subst (λ (z : ℤ). IsRatioOf c.ratio-then-n-ne0-2.result z n.y) (read_turned n.x c.requires.proper.small.x) c.ratio-then-n-ne0-2.ensures in
    IfOk-weaker c.two_lines-then-n-ne0-2.result
    (λ (lines : List (List Fraction)). lines ≡ take c.args.width (c.whole-one.result ∷ c.ratio-then-n-ne0-2.result ∷ c.whole-zero.result ∷ []) ∷ take c.args.width (c.whole-zero.result ∷ c.whole-zero.result ∷ c.whole-one.result ∷ []) ∷ [])
    (λ (lines : List (List Fraction)). IsBasisOf c.args.width (Plane n) lines)
    (λ lines e. subst (λ (lines : List (List Fraction)). IsBasisOf c.args.width (Plane n) lines) (sym e)
    (plane_by_y n c.args.width c.whole-zero.result c.whole-one.result c.ratio-then-n-ne0-2.result c.requires.few c.requires.width ez apart c.whole-zero.ensures c.whole-one.ensures first)) c.two_lines-then-n-ne0-2.ensures

pub returns : goal.returns
returns c =
    let n = c.args.n.now in
    let ez : n.z ≡ pos 0 = omega (arith, ints) in
    let ey : n.y ≡ pos 0 = omega (arith, ints) in
    IfOk-weaker c.two_lines-2.result
    (λ (lines : List (List Fraction)). lines ≡ take c.args.width (c.whole-zero.result ∷ c.whole-one.result ∷ c.whole-zero.result ∷ []) ∷ take c.args.width (c.whole-zero.result ∷ c.whole-zero.result ∷ c.whole-one.result ∷ []) ∷ [])
    (λ (lines : List (List Fraction)). IsBasisOf c.args.width (Plane n) lines)
    (λ lines e. subst (λ (lines : List (List Fraction)). IsBasisOf c.args.width (Plane n) lines) (sym e)
    (plane_by_x n c.args.width c.whole-zero.result c.whole-one.result c.requires.few c.requires.width c.requires.proper.some ez ey c.whole-zero.ensures c.whole-one.ensures)) c.two_lines-2.ensures
