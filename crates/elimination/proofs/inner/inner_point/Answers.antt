use Rattle.std.proofs.Common.{rules, ◌≡◌, ◌+◌, true, false, List, ℤ, length, sym, subst, ◌∙◌}
use Rattle.std.specs.Prelude.{Option, MatchOption}
use Rattle.std.specs.List.{list_all}
use Rattle.elimination.specs.Descents.{AreSmallLines, IsDescent, HasNoDescent, is_open}
use Rattle.elimination.proofs.InnerRooms.{not_open, no_inner, small_lines, inner_found}
use Rattle.elimination.proofs.inner.inner_point.Goals as goal

pub returns-then-not-are_open-clause-none : goal.returns-then-not-are_open-clause-none
returns-then-not-are_open-clause-none c =
    let closed : list_all is_open c.args.rows.now ≡ false = search rules in
    λ e room. not_open c.args.rows.now c.canonical_rows.ensures closed room

pub descent-requires : goal.descent-requires
descent-requires c = subst (AreSmallLines (length c.args.columns.now + 1)) (sym (c.as_slice.ensures ∙ c.in_ok-lines.ensures)) (small_lines c.args.columns.now c.args.rows.now c.requires.small c.requires.columns)

pub returns-in-Some-clause-point : goal.returns-in-Some-clause-point
returns-in-Some-clause-point c =
    let opened : list_all is_open c.args.rows.now ≡ true = search rules in
    let found : IsDescent (length c.args.columns.now + 1) c.as_slice.result.now c.in-Some.numbers = subst (λ (o : Option (List ℤ)). MatchOption o (HasNoDescent (length c.args.columns.now + 1) c.as_slice.result.now) (IsDescent (length c.args.columns.now + 1) c.as_slice.result.now)) c.in-Some.is c.in_ok-numbers.ensures in
    inner_found c.args.columns.now c.args.rows.now c.inner_of.result c.in-Some.numbers opened (subst (λ lines. IsDescent (length c.args.columns.now + 1) lines c.in-Some.numbers) (c.as_slice.ensures ∙ c.in_ok-lines.ensures) found) c.inner_of.ensures

pub returns-clause-none : goal.returns-clause-none
returns-clause-none c =
    let opened : list_all is_open c.args.rows.now ≡ true = search rules in
    let none : HasNoDescent (length c.args.columns.now + 1) c.as_slice.result.now = subst (λ (o : Option (List ℤ)). MatchOption o (HasNoDescent (length c.args.columns.now + 1) c.as_slice.result.now) (IsDescent (length c.args.columns.now + 1) c.as_slice.result.now)) c.in-None.is c.in_ok-numbers.ensures in
    λ e room. no_inner c.args.columns.now c.args.rows.now c.requires.columns c.canonical_rows.ensures opened (subst (HasNoDescent (length c.args.columns.now + 1)) (c.as_slice.ensures ∙ c.in_ok-lines.ensures) none) room
