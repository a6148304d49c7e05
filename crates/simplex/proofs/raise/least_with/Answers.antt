use Rattle.std.proofs.Common.{◌≡◌, subst, true, List, ℤ, [], get_or, Option, ℕ, pos, ◌<ℤ◌, rules, arith}
use Rattle.simplex.specs.Exchange.{numbers_of}
use Rattle.farkas_check.specs.Relations.{entry}
use Rattle.std.proofs.lemmas.Int.{ints}
use Rattle.std.proofs.lemmas.List.{get_or_read}
use Rattle.simplex.specs.Raise.{LeavingOf, NoneLeaves, leaves_at}
use Rattle.simplex.proofs.LeavingLines.{LeavingOf-first}
use Rattle.simplex.proofs.raise.least_with.Goals as goal

pub returns-in-None-clause-least : goal.returns-in-None-clause-least
returns-in-None-clause-least c =
    let none : NoneLeaves c.args.i c.args.raise.enters.now c.args.column c.args.t.now =
    subst (λ (found : Option ℕ). LeavingOf c.args.i c.args.raise.enters.now c.args.raise.constants c.args.raise.keys.now c.args.column c.args.t.now found) c.in-None.is c.requires.before in
    let leaves : leaves_at c.args.raise.enters.now c.args.t.now c.args.i ≡ true = search rules in
    let own : c.as_slice-line.result.now ≡ get_or c.args.t.now.lines c.args.i [] = get_or_read c.args.t.now.lines c.args.i c.as_slice-line.result.now c.requires.line (search rules) [] in
    let above : pos 0 <ℤ entry c.as_slice-line.result.now c.args.column = omega (arith, ints, c.if-line-column-le0.false) in
    let positive : pos 0 <ℤ numbers_of c.args.t.now c.args.i c.args.column = subst (λ (line : List ℤ). pos 0 <ℤ entry line c.args.column) own above in
    LeavingOf-first c.args.i c.args.raise.enters.now c.args.raise.constants c.args.raise.keys.now c.args.column c.args.t.now none leaves positive
