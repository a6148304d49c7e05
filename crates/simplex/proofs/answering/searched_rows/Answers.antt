use Rattle.std.proofs.Common.{arith, refl, sym, ap, subst, ◌∙◌, ◌≡◌, [], length, rules}
use Rattle.farkas_check.specs.Columns.{columns, monos_of}
use Rattle.farkas_check.proofs.Walks.{IsOrdered, IsOrdered-columns}
use Rattle.simplex.specs.Rows.{framed_tableau, kinds_of}
use Rattle.simplex.proofs.RowTableaux.{kinds-length, solving-at}
use Rattle.simplex.proofs.Honest.{found_at, refusal_at}
use Rattle.simplex.proofs.answering.searched_rows.Goals as goal

pub framed_tableau-requires-clause-ordered : goal.framed_tableau-requires-clause-ordered
framed_tableau-requires-clause-ordered c =
    let own : c.as_slice.result.now ≡ columns c.args.rows.now [] = search rules in
    subst IsOrdered (sym own) (IsOrdered-columns (monos_of c.args.rows.now []))

pub search_answer-requires : goal.search_answer-requires
search_answer-requires c =
    let cs : c.len.result ≡ length c.in_ok-columns.columns = search rules in
    let t : c.in_ok-t.t ≡ framed_tableau c.in_ok-columns.columns c.args.rows.now = search rules in
    let kinds : c.as_slice-2.result.now ≡ kinds_of c.args.rows.now = search rules in
    let many : length c.as_slice-2.result.now ≡ length c.args.rows.now = ap length kinds ∙ kinds-length c.args.rows.now in (
      solving-at c.in_ok-columns.columns c.args.rows.now c.len.result (length c.args.rows.now) c.as_slice-2.result.now c.in_ok-t.t cs refl t kinds,
      (refl, (omega (arith, many), search rules)),
    )

pub returns-clause-found : goal.returns-clause-found
returns-clause-found c =
    let columns_are : c.in_ok-columns.columns ≡ columns c.args.rows.now [] = search rules in
    let cs : c.len.result ≡ length c.in_ok-columns.columns = search rules in
    let t : c.in_ok-t.t ≡ framed_tableau c.in_ok-columns.columns c.args.rows.now = search rules in
    let kinds : c.as_slice-2.result.now ≡ kinds_of c.args.rows.now = search rules in
    found_at c.args.rows.now c.args.budget c.len.result (length c.args.rows.now) c.in_ok-columns.columns c.as_slice-2.result.now c.in_ok-t.t c.search_answer.result columns_are cs refl kinds t c.search_answer.ensures.of

pub returns-clause-refusal : goal.returns-clause-refusal
returns-clause-refusal c =
    let columns_are : c.in_ok-columns.columns ≡ columns c.args.rows.now [] = search rules in
    let cs : c.len.result ≡ length c.in_ok-columns.columns = search rules in
    let t : c.in_ok-t.t ≡ framed_tableau c.in_ok-columns.columns c.args.rows.now = search rules in
    let kinds : c.as_slice-2.result.now ≡ kinds_of c.args.rows.now = search rules in
    refusal_at c.args.rows.now c.len.result (length c.args.rows.now) c.in_ok-columns.columns c.as_slice-2.result.now c.in_ok-t.t c.search_answer.result columns_are cs refl kinds t c.search_answer.ensures.refusal
