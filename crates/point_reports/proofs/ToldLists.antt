-- Rows that are told one behind the other: the steps of the loops over heads and procedures.
use Rattle.std.proofs.Common.{◌≡◌, ◌≢◌, ℕ, ◌+◌, ◌<◌, ◌≤◌, List, [], ◌∷◌, ◌++◌, length, drop, get_or, refl, sym, ap, ◌∙◌, append-nil, append_assoc, arith}
use Rattle.std.specs.Prelude.{◌==◌, OnOk, Result, Ok, Err, Some, true, false, slice_get}
use Rattle.std.proofs.lemmas.Bool.{eqb-true, false≢true}
use Rattle.std.proofs.lemmas.List.{drop_all, drop_more}
use Rattle.std.proofs.lemmas.Option.{slice_get_read}
use Rattle.linear_terms.specs.declared.row.Row.{Row}
use Rattle.syntax_tree.specs.declared.program.Proc.{Proc}
use Rattle.syntax_tree.specs.declared.program.Program.{Program}
use Rattle.syntax_tree.specs.WellFormed.{IsWellFormed}
use Rattle.flow_graph.specs.FlowGraph.{graph_of}
use Rattle.proc_summary.proofs.Graphs.{proc-fit}
use Rattle.point_induction.specs.Points.{heads_of}
use Rattle.report.specs.declared.points.PointRows.{PointRows}
use Rattle.report.specs.declared.points.RowsAt.{RowsAt}
use Rattle.report.specs.declared.points.RowsAt.TheVariants.{Loop}
use Rattle.point_rounds.specs.declared.table.PointTable.{PointTable}
use Rattle.point_rounds.specs.Table.{rows_at}
use Rattle.point_reports.specs.Parts.{AreHeadsOf}
use Rattle.point_reports.specs.Blocks.{names_after, names_at, rows_at_loops, rows_from, rows_of_proc, rows_told}

pub on_ok-more : {A E : Type 0} {P Q : Type 0} (r : Result A E) → (P → Q) → OnOk r P → OnOk r Q
on_ok-more (Ok x) more holds = more holds
on_ok-more (Err e) more holds = tt

module _ (program : Program) (table : PointTable) where
  pub loops-next : (proc : ℕ) (p : Proc) (n : ℕ) (heads : List ℕ) (i head d : ℕ) (told next whole : List PointRows) → i < length heads → head ≡ get_or heads i d
      → told ++ rows_at_loops program table proc p n (drop i heads) ≡ whole → next ≡ told ++ rows_told program proc p (Loop n) (rows_at program table proc head)
      → next ++ rows_at_loops program table proc p (n + 1) (drop (i + 1) heads) ≡ whole
  loops-next proc p n heads i head d told next whole lt is so_far more =
      let rest = rows_at_loops program table proc p (n + 1) (drop (i + 1) heads) in
      let split : drop i heads ≡ head ∷ drop (i + 1) heads = drop_more heads i d lt ∙ ap (λ h. h ∷ drop (i + 1) heads) (sym is) in
      ap (λ l. l ++ rest) more ∙ append_assoc told (rows_told program proc p (Loop n) (rows_at program table proc head)) rest
      ∙ ap (λ hs. told ++ rows_at_loops program table proc p n hs) (sym split) ∙ so_far

  pub loops-end : (proc : ℕ) (p : Proc) (n : ℕ) (heads : List ℕ) (i : ℕ) (told whole : List PointRows) → length heads ≤ i
      → told ++ rows_at_loops program table proc p n (drop i heads) ≡ whole → told ≡ whole
  loops-end proc p n heads i told whole le so_far = sym (append-nil told) ∙ ap (λ hs. told ++ rows_at_loops program table proc p n hs) (sym (drop_all i heads le)) ∙ so_far

  pub procs-next : (procs : List Proc) (i : ℕ) (p : Proc) (told next whole : List PointRows) → i < length procs → p ≡ get_or procs i p
      → told ++ rows_from program table i (drop i procs) ≡ whole → next ≡ told ++ rows_of_proc program table i p → next ++ rows_from program table (i + 1) (drop (i + 1) procs) ≡ whole
  procs-next procs i p told next whole lt is so_far more =
      let rest = rows_from program table (i + 1) (drop (i + 1) procs) in
      let split : drop i procs ≡ p ∷ drop (i + 1) procs = drop_more procs i p lt ∙ ap (λ x. x ∷ drop (i + 1) procs) (sym is) in
      ap (λ l. l ++ rest) more ∙ append_assoc told (rows_of_proc program table i p) rest ∙ ap (λ ps. told ++ rows_from program table i ps) (sym split) ∙ so_far

  pub procs-end : (procs : List Proc) (i : ℕ) (told whole : List PointRows) → length procs ≤ i → told ++ rows_from program table i (drop i procs) ≡ whole → told ≡ whole
  procs-end procs i told whole le so_far = sym (append-nil told) ∙ ap (λ ps. told ++ rows_from program table i ps) (sym (drop_all i procs le)) ∙ so_far

  pub parts-told : (old first second third : List PointRows) (a b c : List PointRows) → a ≡ old ++ first → b ≡ a ++ second → c ≡ b ++ third → c ≡ old ++ (first ++ (second ++ third))
  parts-told old first second third a b c e f g =
      g ∙ ap (λ l. l ++ third) (f ∙ ap (λ l. l ++ second) e) ∙ append_assoc (old ++ first) second third ∙ append_assoc old first (second ++ third)

-- ---- rows at one place

pub none-told : (program : Program) (proc : ℕ) (p : Proc) (at : RowsAt) (rows : List Row) (old : List PointRows) → rows ≡ [] → old ≡ old ++ rows_told program proc p at rows
none-told program proc p at rows old none = sym (ap (λ rs. old ++ rows_told program proc p at rs) none ∙ append-nil old)

pub some-told : (program : Program) (proc : ℕ) (p : Proc) (at : RowsAt) (rows : List Row) → rows ≢ []
    → record { proc = proc; name = p.name; at = at; columns = names_at program p at; after = names_after program at; rows = rows } ∷ [] ≡ rows_told program proc p at rows
some-told program proc p at [] some = absurd (some refl)
some-told program proc p at (row ∷ rows) some = refl

-- a procedure of the program with its heads can be told
pub record IsTellable (program : Program) (proc : ℕ) (p : Proc) (heads : List ℕ) : Type 0 where
  pub params : p.params ≤ length p.columns
  pub heads_are : heads ≡ heads_of (graph_of program proc)

pub told-proc : (program : Program) (procs : List Proc) (heads : List (List ℕ)) (place : ℕ) (p : Proc) (own : List ℕ) → IsWellFormed program → AreHeadsOf program heads → procs ≡ program.procs → place < length procs → p ≡ get_or procs place p
    → own ≡ get_or heads place own → IsTellable program place p own
told-proc program procs heads place p own formed are same lt is seen =
    let there : slice_get program.procs place ≡ Some p = ap (λ l. slice_get l place) (sym same) ∙ slice_get_read procs (length procs) place p refl lt is in
    let each = are.each in
    let long = ap length same in
    record {
      params = (proc-fit program place p formed there).first;
      heads_are = are.are place own (slice_get_read heads (length heads) place own refl (omega (arith, each, long, lt)) seen);
    }

pub none-of : (rows : List Row) → (length rows == 0) ≡ true → rows ≡ []
none-of [] e = refl
none-of (row ∷ rows) e = let same = eqb-true (length (row ∷ rows)) 0 e in absurd (omega (arith, same))

pub some-of : (rows : List Row) → (length rows == 0) ≡ false → rows ≢ []
some-of [] e none = false≢true (sym e)
some-of (row ∷ rows) e none = absurd (cc)
