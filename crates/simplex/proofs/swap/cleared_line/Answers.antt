use Rattle.std.proofs.Common.{rules, ◌≡◌, ◌+◌, ◌∙◌, ◌∷◌, [], ℤ, pos, List, Ok, drop, length, get_or, sym, ap, subst}
use Rattle.std.proofs.lemmas.List.{drop_more, get_or_read}
use Rattle.farkas_check.specs.Relations.{entry}
use Rattle.simplex.specs.Endings.{cleared_line}
use Rattle.simplex.specs.Exchange.{line_without}
use Rattle.simplex.proofs.Numbers.{line_without-length}
use Rattle.simplex.proofs.OtherGoals.{cleared-next, zero-cleared}
use Rattle.simplex.proofs.swap.cleared_line.Goals as goal
use Rattle.simplex.proofs.swap.cleared_line.Goals.{then-deref-column-ne0+in_ok-made, else-deref-column-ne0}

pub loop-k-preserved : goal.loop-k-preserved
loop-k-preserved c =
    let pivot : List ℤ = get_or c.args.lines.now c.loop-k.k [] in
    let rest : drop c.loop-k.k c.args.lines.now ≡ pivot ∷ drop (c.loop-k.k + 1) c.args.lines.now = drop_more c.args.lines.now c.loop-k.k [] (search rules) in
    elim c.if-deref-column-ne0.branch [
      | then-deref-column-ne0+in_ok-made w ↦
          let own : w.as_slice.result.now ≡ pivot = get_or_read c.args.lines.now c.loop-k.k w.as_slice.result.now (search rules) (search rules) [] in
          let made : line_without (get_or c.args.chosen.now c.loop-k.k 0) pivot c.loop-k.made ≡ Ok w.in_ok-made.made =
          ap (λ (p : List ℤ). line_without (get_or c.args.chosen.now c.loop-k.k 0) p c.loop-k.made) (sym own) ∙ w.in_ok-made.ensures.exact in
          subst (λ (zs : List ℤ). (length zs ≡ length c.args.line) × (cleared_line (drop (c.loop-k.k + 1) c.args.lines.now) c.args.chosen.now (c.loop-k.k + 1) zs ≡ cleared_line c.args.lines.now c.args.chosen.now 0 c.args.line)) (sym w.made-is) (
            line_without-length (get_or c.args.chosen.now c.loop-k.k 0) pivot c.loop-k.made w.in_ok-made.made (c.loop-k.invariant.0 ∙ sym (c.requires.wide c.loop-k.k (search rules))) made ∙ c.loop-k.invariant.0,
            cleared-next c.args.lines.now c.args.chosen.now c.loop-k.k pivot c.loop-k.made w.in_ok-made.made rest made ∙ c.loop-k.invariant.1,
          )
      | else-deref-column-ne0 w ↦
          let zero : entry c.loop-k.made (get_or c.args.chosen.now c.loop-k.k 0) ≡ pos 0 = search rules in
          subst (λ (zs : List ℤ). (length zs ≡ length c.args.line) × (cleared_line (drop (c.loop-k.k + 1) c.args.lines.now) c.args.chosen.now (c.loop-k.k + 1) zs ≡ cleared_line c.args.lines.now c.args.chosen.now 0 c.args.line)) (sym w.made-is) (
            c.loop-k.invariant.0,
            cleared-next c.args.lines.now c.args.chosen.now c.loop-k.k pivot c.loop-k.made c.loop-k.made rest (zero-cleared (get_or c.args.chosen.now c.loop-k.k 0) pivot c.loop-k.made zero) ∙ c.loop-k.invariant.1,
          )
    ]
