use Rattle.std.proofs.Common.{◌≡◌, Some, None, sym, ap, subst, ◌∙◌, length}
use Rattle.std.proofs.lemmas.List.FromFn.{length-map-range_with_len}
use Rattle.items.specs.Gives.{Gives}
use Rattle.linear_terms.specs.Expressions.{or_zero}
use Rattle.linear_terms.specs.TermError.{cause}
use Rattle.polyhedra.specs.declared.changes.Moves.{Moves}
use Rattle.polyhedra.specs.Bounds.{IsCovered, for_entries}
use Rattle.polyhedra.specs.Changes.{change}
use Rattle.polyhedra.specs.Tables.{first_fault}
use Rattle.linear_terms.specs.Expressions.{put_into}
use Rattle.polyhedra.proofs.ChangeTables.{put_into-fault, put_into-made, fails_by-same}
use Rattle.polyhedra.proofs.changes.objective.Goals as goal

pub returns-in-Some : goal.returns-in-Some
returns-in-Some c = λ one n case table.
    let few = ap (λ (m : Moves). length m.polys) table ∙ length-map-range_with_len (λ v. or_zero (change one case v)) 0 n in
    let told : first_fault c.args.moves.now.faults c.args.d.now.terms ≡ Some c.in-Some.error =
    (λ i. first_fault (sym c.as_slice.ensures i) (sym c.terms.ensures.terms i)) ∙ sym c.first_fault.ensures ∙ c.in-Some.is in
    fails_by-same c.in-Some.error (put_into (for_entries (change one case)) c.args.d.now)
    (put_into-fault one case n c.args.moves.now table c.args.d.now (subst (λ k. IsCovered k c.args.d.now) few c.requires) c.in-Some.error told)

pub returns-in-None : goal.returns-in-None
returns-in-None c = λ one n case table.
    let few = ap (λ (m : Moves). length m.polys) table ∙ length-map-range_with_len (λ v. or_zero (change one case v)) 0 n in
    let told : first_fault c.args.moves.now.faults c.args.d.now.terms ≡ None =
    (λ i. first_fault (sym c.as_slice.ensures i) (sym c.terms.ensures.terms i)) ∙ sym c.first_fault.ensures ∙ c.in-None.is in
    subst (λ stated. Gives cause (λ p. p) c.subst.result stated) (sym (put_into-made one case n c.args.moves.now table c.args.d.now (subst (λ k. IsCovered k c.args.d.now) few c.requires) told))
    (rw c.as_slice-in-None.ensures at c.subst.ensures.exact)
