use Rattle.std.proofs.Common.{◌≡◌, ◌∙◌, length, replicate, ap, sym}
use Rattle.std.specs.Prelude.{None}
use Rattle.std.proofs.lemmas.Result.{IfOk-weaker}
use Rattle.std.proofs.lemmas.Slice.Zip.{AllZip-long}
use Rattle.posing.specs.Follows.{IsGood}
use Rattle.kept_groups.specs.Kept.{Anything, IsPartOf, kept_summaries}
use Rattle.kept_groups.specs.OneGroup.{summaries_with}
use Rattle.kept_groups.proofs.AlikeSearch.{known-kept}
use Rattle.kept_groups.proofs.alike.kept_summaries.Goals as goal

pub summaries_with-requires : goal.summaries_with-requires
summaries_with-requires c =
    let kept = c.args.kept.now in
    ap length c.as_slice-2.ensures ∙ AllZip-long (IsPartOf (IsGood Anything) kept.program (kept_summaries kept)) kept.plan kept.parts c.requires.parts ∙ sym (ap length c.as_slice.ensures)

pub returns : goal.returns
returns c =
    let kept = c.args.kept.now in
    let known = c.in_ok-known.ensures ∙ ap (λ n. replicate n None) c.len.ensures in
    IfOk-weaker c.summaries_with.result (λ next. next ≡ summaries_with c.in_ok-known.known c.as_slice.result.now c.as_slice-2.result.now) (λ next. next ≡ kept_summaries kept)
    (λ next is. is ∙ (λ i. summaries_with (known i) (c.as_slice.ensures i) (c.as_slice-2.ensures i)) ∙ known-kept kept) c.summaries_with.ensures
