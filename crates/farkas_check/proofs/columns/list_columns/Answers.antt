use Rattle.std.proofs.Common.{rules, arith}
use Rattle.farkas_check.specs.Relations.{source_columns}
use Rattle.farkas_check.proofs.Listing.{blank_lists, list_more, all_listed, full_listed}
use Rattle.farkas_check.proofs.Walks.{columns_after-None}
use Rattle.farkas_check.proofs.columns.list_columns.Goals as goal

pub returns : goal.returns
returns c =
    full_listed c.loop-place.place c.loop-place.listed (source_columns c.args.source.now) c.loop-place.invariant.0 (let end = c.loop-place-test.false in omega (arith, end))

pub returns-then-is_none : goal.returns-then-is_none
returns-then-is_none c =
    all_listed c.loop-place.place c.loop-place.listed (source_columns c.args.source.now) c.loop-place.last c.next_of-next.result c.loop-place.invariant.0 c.loop-place.invariant.1 c.next_of-next.ensures (let told = c.is_none.ensures in let ends = c.if-is_none.true in grind (rules, told, ends))

pub loop-place-init : goal.loop-place-init
loop-place-init c = (blank_lists c.args.listed.now (source_columns c.args.source.now) c.requires, columns_after-None (source_columns c.args.source.now))

pub loop-place-preserved : goal.loop-place-preserved
loop-place-preserved c =
    list_more c.loop-place.listed (source_columns c.args.source.now) c.loop-place.last c.next_of-next.result c.loop-place.place (λ none. let told = c.is_none.ensures in let goes_on = c.if-is_none.false in grind (rules, none, told, goes_on)) c.next_of-next.ensures c.loop-place.invariant.1 c.loop-place.invariant.0
