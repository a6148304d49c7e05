use Rattle.std.proofs.Common.{length, sym, subst, ap, ◌∙◌}
use Rattle.polyhedra.specs.Bounds.{IsCovered}
use Rattle.linear_terms.specs.Polynomial.{mono_of}
use Rattle.recurrence.specs.Products.{growth, grown}
use Rattle.recurrence.specs.Words.{IsCoveredIfMade}
use Rattle.recurrence.proofs.KnownCoverage.{mono-covered, growth-covered, grown-covered}
use Rattle.recurrence.proofs.growing.sequence_of.Goals as goal

pub growth-requires-clause-below : goal.growth-requires-clause-below
growth-requires-clause-below c = subst (IsCovered (length c.args.next.now)) (sym c.in_ok-start.ensures) (mono-covered (length c.args.next.now) c.args.mono.now c.requires.below)

pub next_growth-requires-clause-below : goal.next_growth-requires-clause-below
next_growth-requires-clause-below c =
    let next = c.args.next.now in
    let m = c.args.mono.now in
    let first = c.in_ok-first.ensures (growth next c.in_ok-start.start) c.growth.ensures ∙ ap (growth next) c.in_ok-start.ensures in
    subst (IsCoveredIfMade (length next)) (sym first) (growth-covered next (mono_of m) c.requires.covered (mono-covered (length next) m c.requires.below))

pub next_growth-requires-2-clause-below : goal.next_growth-requires-2-clause-below
next_growth-requires-2-clause-below c =
    let next = c.args.next.now in
    let m = c.args.mono.now in
    let first = c.in_ok-first.ensures (growth next c.in_ok-start.start) c.growth.ensures ∙ ap (growth next) c.in_ok-start.ensures in
    let second = c.in_ok-second.ensures (grown next c.in_ok-first.first) c.next_growth.ensures ∙ ap (grown next) first in
    subst (IsCoveredIfMade (length next)) (sym second)
    (grown-covered next (growth next (mono_of m)) c.requires.covered (growth-covered next (mono_of m) c.requires.covered (mono-covered (length next) m c.requires.below)))

pub next_growth-requires-3-clause-below : goal.next_growth-requires-3-clause-below
next_growth-requires-3-clause-below c =
    let next = c.args.next.now in
    let m = c.args.mono.now in
    let first = c.in_ok-first.ensures (growth next c.in_ok-start.start) c.growth.ensures ∙ ap (growth next) c.in_ok-start.ensures in
    let second = c.in_ok-second.ensures (grown next c.in_ok-first.first) c.next_growth.ensures ∙ ap (grown next) first in
    let third = c.in_ok-third.ensures (grown next c.in_ok-second.second) c.next_growth-2.ensures ∙ ap (grown next) second in
    subst (IsCoveredIfMade (length next)) (sym third)
    (grown-covered next (grown next (growth next (mono_of m))) c.requires.covered
    (grown-covered next (growth next (mono_of m)) c.requires.covered (growth-covered next (mono_of m) c.requires.covered (mono-covered (length next) m c.requires.below))))

pub returns : goal.returns
returns c =
    let next = c.args.next.now in
    let start = c.in_ok-start.ensures in
    let first = c.in_ok-first.ensures (growth next c.in_ok-start.start) c.growth.ensures ∙ ap (growth next) start in
    let second = c.in_ok-second.ensures (grown next c.in_ok-first.first) c.next_growth.ensures ∙ ap (grown next) first in
    let third = c.in_ok-third.ensures (grown next c.in_ok-second.second) c.next_growth-2.ensures ∙ ap (grown next) second in
    let fourth = c.in_ok-fourth.ensures (grown next c.in_ok-third.third) c.next_growth-3.ensures ∙ ap (grown next) third in
    λ i. record { start = start i; first = first i; second = second i; third = third i; fourth = fourth i }
