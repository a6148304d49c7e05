use Rattle.std.proofs.Common.{◌≡◌, All, false, subst, refl, ◌∙◌, arith, rules}
use Rattle.std.proofs.lemmas.Bool.{false≢true}
use Rattle.std.proofs.lemmas.List.{take_all}
use Rattle.linear_terms.specs.Replacement.{IsBelow}
use Rattle.linear_terms.proofs.Steps.{test_fails}
use Rattle.linear_terms.proofs.poly.Poly.is_covered.Goals as goal

pub returns-then-not-is_below : goal.returns-then-not-is_below
returns-then-not-is_below c =
    let same : c.as_slice-mono-items.result.now ≡ c.args.self.now.terms = search rules in
    let failed : c.is_below.result ≡ false = search rules in (
      λ h. absurd (false≢true h),
      λ all. absurd (test_fails (λ m. All (IsBelow c.args.at c.args.aux) m) c.as_slice-mono-items.result.now c.loop-mono.mono-index c.loop-mono-item.result c.is_below.result (omega arith) c.loop-mono-item.is c.is_below.ensures failed (rw same all)),
    )

pub returns : goal.returns
returns c =
    let same : c.as_slice-mono-items.result.now ≡ c.args.self.now.terms = search rules in
    let whole = take_all c.loop-mono.mono-index c.as_slice-mono-items.result.now (omega arith) in
    (λ h. subst (All (λ t. All (IsBelow c.args.at c.args.aux) t.0)) (whole ∙ same) c.loop-mono.invariant, λ h. refl)
