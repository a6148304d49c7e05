use Rattle.std.proofs.Common.{length, refl, ap, ◌∙◌, arith}
use Rattle.posing.proofs.Following.{leads_none, loop_ends}
use Rattle.posing.proofs.Steps.{each_fails, each_next, in_other_words}
use Rattle.point_rounds.specs.Rounds.{with_numbers_from, with_row}
use Rattle.point_rounds.proofs.NumberedRows.{numbered-at, numbered-long, over-at}
use Rattle.point_rounds.proofs.falling.with_each_row.Goals as goal

pub loop-number-init : goal.loop-number-init
loop-number-init g c = record { leads = leads_none _ _ _ _; same = refl }

pub with_row-requires : goal.with_row-requires
with_row-requires g c = over-at (length c.args.posts.now) c.args.ends.rows.now c.loop-number.number c.index-rows-number.result c.requires c.loop-number-test.true c.index-rows-number.is

pub loop-number-preserved : goal.loop-number-preserved
loop-number-preserved g c =
    let rows = c.args.ends.rows.now in
    let place = c.args.ends.place in
    let lt = c.loop-number-test.true in
    let long = numbered-long 0 rows in
    record {
      leads = each_next (with_row place c.args.given c.args.posts.now) (with_numbers_from 0 rows) c.loop-number.number c.loop-number.invariant.leads (omega (arith, lt, long)) (numbered-at rows c.loop-number.number c.index-rows-number.result lt c.index-rows-number.is)
          (in_other_words (ap (λ given. with_row place given c.args.posts.now c.loop-number.all (c.loop-number.number, c.index-rows-number.result)) c.loop-number.invariant.same) c.in_ok-all.ensures.follows);
      same = c.in_ok-all.ensures.same ∙ c.loop-number.invariant.same;
    }

pub returns-in_err-all : goal.returns-in_err-all
returns-in_err-all g c =
    let rows = c.args.ends.rows.now in
    let place = c.args.ends.place in
    let lt = c.loop-number-test.true in
    let long = numbered-long 0 rows in
    each_fails (with_row place c.args.given c.args.posts.now) (with_numbers_from 0 rows) c.loop-number.number c.loop-number.invariant.leads (omega (arith, lt, long)) (numbered-at rows c.loop-number.number c.index-rows-number.result lt c.index-rows-number.is)
    (in_other_words (ap (λ given. with_row place given c.args.posts.now c.loop-number.all (c.loop-number.number, c.index-rows-number.result)) c.loop-number.invariant.same) c.in_err-all.ensures.follows) c.from_residual.ensures.1

pub returns : goal.returns
returns g c =
    let rows = c.args.ends.rows.now in
    let past = c.loop-number-test.false in
    let long = numbered-long 0 rows in
    loop_ends _ _ _ _ _ _ (with_row c.args.ends.place c.args.given c.args.posts.now) _ (with_numbers_from 0 rows) c.loop-number.number c.loop-number.invariant.leads (omega (arith, past, long))
