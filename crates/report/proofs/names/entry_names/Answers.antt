use Rattle.std.proofs.Common.{◌++◌, ◌∷◌, [], ℕ, arith, sym, ◌∙◌}
use Rattle.std.proofs.lemmas.List.FromFn.{map-range_with_len_more}
use Rattle.report.specs.Text.{shown_name}
use Rattle.report.proofs.names.entry_names.Goals as goal

pub loop-i-preserved : goal.loop-i-preserved
loop-i-preserved c =
    let name = λ (i : ℕ). shown_name c.args.before.now i i in
    c.in_ok-push.ensures.ok ∙ (λ k. c.loop-i.invariant k ++ c.in_ok-shown_name.ensures k ∷ [])
    ∙ sym (map-range_with_len_more name 0 c.loop-i.i c.loop-i.i (omega arith))
