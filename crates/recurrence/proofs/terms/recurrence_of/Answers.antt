use Rattle.std.proofs.Common.{Ok, map, ap, ◌∙◌}
use Rattle.linear_terms.specs.declared.col.Col.TheVariants.{At}
use Rattle.linear_terms.specs.Expressions.{◌⊞◌, whole, linear, combination}
use Rattle.recurrence.specs.declared.terms.Recurrence.{Recurrence}
use Rattle.recurrence.proofs.terms.recurrence_of.Goals as goal

pub returns : goal.returns
returns c =
    let lower = c.args.lower.now in
    let r = c.args.relation.now in
    let start = c.in_ok-start.ensures ∙ ap (λ ns. linear ns (map (λ v. At v) c.args.variables.now)) c.as_slice.ensures in
    let first = c.in_ok-first.ensures (combination r.b (map (λ (l : Recurrence). Ok l.start) lower) ⊞ whole r.c) c.first_of.ensures in
    let second = c.in_ok-second.ensures (combination c.as_slice-2.result.now (map (λ (l : Recurrence). l.first) lower)) c.combined_part.ensures ∙ ap (λ ns. combination ns (map (λ (l : Recurrence). l.first) lower)) c.as_slice-2.ensures in
    let third = c.in_ok-third.ensures (combination c.as_slice-3.result.now (map (λ (l : Recurrence). l.second) lower)) c.combined_part-2.ensures ∙ ap (λ ns. combination ns (map (λ (l : Recurrence). l.second) lower)) c.as_slice-3.ensures in
    let fourth = c.in_ok-fourth.ensures (combination c.as_slice-4.result.now (map (λ (l : Recurrence). l.third) lower)) c.combined_part-3.ensures ∙ ap (λ ns. combination ns (map (λ (l : Recurrence). l.third) lower)) c.as_slice-4.ensures in
    λ i. record { start = start i; first = first i; second = second i; third = third i; fourth = fourth i }
