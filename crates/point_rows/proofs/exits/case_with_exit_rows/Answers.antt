use Rattle.std.proofs.Common.{◌∙◌, ◌++◌, ap}
use Rattle.std.specs.List.{each_same}
use Rattle.leaf_cases.specs.Guard.{columns_of}
use Rattle.point_rows.specs.Reading.{stood_rows}
use Rattle.point_rows.proofs.ExitColumns.{case_made, over-pair}
use Rattle.point_rows.proofs.exits.case_with_exit_rows.Goals as goal

pub add_stood_rows-requires : goal.add_stood_rows-requires
add_stood_rows-requires c =
    let pair = c.as_slice-2.ensures ∙ c.in_ok-pair.ensures ∙ ap (λ ps. columns_of c.args.from ++ ps) c.as_slice.ensures in
    over-pair c.args.from c.args.case.now.post c.as_slice-2.result.now c.args.rows.now pair c.requires

pub returns : goal.returns
returns c =
    let case = c.args.case.now in
    let rows = c.args.rows.now in
    let pair = c.as_slice-2.ensures ∙ c.in_ok-pair.ensures ∙ ap (λ ps. columns_of c.args.from ++ ps) c.as_slice.ensures in
    let own = each_same case.rows c.in_ok-all.all c.in_ok-all.ensures.cases in
    case_made c.args.from case rows c.add_stood_rows.new.all c.as_slice-2.result.now c.in_ok-post.post pair
    (c.in_ok-add_stood_rows.ensures ∙ ap (λ rs. rs ++ stood_rows c.as_slice-2.result.now rows) own) (each_same case.post c.in_ok-post.post c.in_ok-post.ensures.cases)
