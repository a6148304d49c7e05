use Rattle.std.proofs.Common.{◌≤◌, sym, subst, ◌∙◌, arith, ℤ}
use Rattle.std.specs.Prelude.{unsigned_abs}
use Rattle.elimination.proofs.Magnitudes.{read}
use Rattle.elimination.proofs.Sides.{read_at-column, read_at-constant, read_at-past, read_at-small}
use Rattle.elimination.proofs.probes.read.Goals as goal

pub returns-then-place-columns-clause-value : goal.returns-then-place-columns-clause-value
returns-then-place-columns-clause-value c =
    let value = c.coefficient.ensures ∙ sym (read_at-column c.args.columns.now c.args.place c.args.poly.now c.index-columns-place.result (omega arith) c.index-columns-place.is) in
    let small : unsigned_abs c.coefficient.result ≤ 4 = subst (λ (z : ℤ). unsigned_abs z ≤ 4) (sym value) (read_at-small c.args.columns.now c.args.place c.args.poly.now c.requires) in
    read c.coefficient.result (omega (arith, small)) ∙ value

pub returns-then-place-columns-clause-small : goal.returns-then-place-columns-clause-small
returns-then-place-columns-clause-small c =
    let value = c.coefficient.ensures ∙ sym (read_at-column c.args.columns.now c.args.place c.args.poly.now c.index-columns-place.result (omega arith) c.index-columns-place.is) in
    let small : unsigned_abs c.coefficient.result ≤ 4 = subst (λ (z : ℤ). unsigned_abs z ≤ 4) (sym value) (read_at-small c.args.columns.now c.args.place c.args.poly.now c.requires) in
    rw (read c.coefficient.result (omega (arith, small))) small

pub returns-then-place-columns-2-clause-value : goal.returns-then-place-columns-2-clause-value
returns-then-place-columns-2-clause-value c =
    let small : unsigned_abs c.rest.result ≤ 4 = subst (λ (z : ℤ). unsigned_abs z ≤ 4) (sym c.rest.ensures) c.requires.rest in
    read c.rest.result (omega (arith, small)) ∙ c.rest.ensures ∙ sym (read_at-constant c.args.columns.now c.args.place c.args.poly.now (omega arith))

pub returns-clause-value : goal.returns-clause-value
returns-clause-value c = sym (read_at-past c.args.columns.now c.args.place c.args.poly.now (omega arith))
