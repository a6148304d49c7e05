use Rattle.std.proofs.Common.{◌≡◌, ◌-◌, ◌∙◌, Bool, true, false, List, [], ◌∷◌, ◌++◌, ap, length, sym}
use Rattle.std.specs.Prelude.{get_or}
use Rattle.std.specs.List.{range_with_len}
use Rattle.std.proofs.lemmas.List.{append-nil}
use Rattle.std.proofs.lemmas.Option.{get_or_from_slice_get}
use Rattle.syntax_tree.specs.declared.program.Proc.{Proc}
use Rattle.syntax_tree.specs.declared.program.Program.{Program}
use Rattle.syntax_tree.specs.WellFormed.{width_of}
use Rattle.leaf_cases.specs.Conditions.{columns_in}
use Rattle.proc_summary.specs.Summary.{ends_of, exit_places, value_place}
use Rattle.context.proofs.PlaceColumns.{full-columns}
use Rattle.point_steps.proofs.stepping.exit_places.Goals.{then-as_slice-proc+in_ok-push, else-as_slice-proc}
use Rattle.point_steps.proofs.stepping.exit_places.Goals as goal

places-of : (program : Program) (p : Proc) (returns : Bool) → p.returns ≡ returns
    → range_with_len 0 (length program.globals) ++ value_place returns (width_of program p) ≡ exit_places (ends_of program p)
places-of program p returns e = λ i. range_with_len 0 (length program.globals) ++ value_place (sym e i) (sym (full-columns program p) i)

pub returns : goal.returns
returns c = λ p is.
    let program = c.args.source.program.now in
    let same : get_or c.as_slice.result.now c.args.source.proc c.index-as_slice-proc.result ≡ p =
    ap (λ (procs : List Proc). get_or procs c.args.source.proc c.index-as_slice-proc.result) c.as_slice.ensures
    ∙ get_or_from_slice_get program.procs c.args.source.proc p c.index-as_slice-proc.result is in
    let first : c.in_ok-places.places ≡ range_with_len 0 (length program.globals) = c.in_ok-places.ensures ∙ ap (range_with_len 0) c.len.ensures in
    elim c.if-as_slice-proc.branch [
      | then-as_slice-proc+in_ok-push w ↦ rw w.places-is
          (w.in_ok-push.ensures.ok
          ∙ (λ i. first i ++ ((w.columns_of.ensures ∙ ap (columns_in program) is) i - 1) ∷ [])
          ∙ places-of program p true (ap (λ (q : Proc). q.returns) (sym same) ∙ w.if-as_slice-proc.true))
      | else-as_slice-proc w ↦ rw w.places-is
          (first ∙ sym (append-nil (range_with_len 0 (length program.globals)))
          ∙ places-of program p false (ap (λ (q : Proc). q.returns) (sym same) ∙ w.if-as_slice-proc.false))
    ]
