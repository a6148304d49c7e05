use Rattle.std.proofs.Common.{◌≡◌, ◌+◌, arith, ap, length, ◌∙◌, drop, take}
use Rattle.std.specs.List.{count_by}
use Rattle.summary_cache.specs.Place.{column_at, column_behind, is_newline, line_at}
use Rattle.summary_cache.proofs.Places.{between-few, column-behind, column-few, line-behind}
use Rattle.summary_cache.proofs.place.place_from.Goals as goal

pub loop-byte-init : goal.loop-byte-init
loop-byte-init c =
    let text = c.args.text.now in
    let from = c.args.last.at in
    let bytes = c.between-byte-items.ensures in
    let line : c.args.last.line ≡ line_at text from = ap (λ p. p.line) c.requires.last in
    let column : c.args.last.column ≡ column_at text from = ap (λ p. p.column) c.requires.last in
    let lines = line-behind from c.args.at text c.requires.order in
    let columns = column-behind from c.args.at text c.requires.order in
    record {
      few_lines = omega arith;
      few_columns = omega arith;
      lines = ap (λ n. n + count_by is_newline c.between-byte-items.result.now) line ∙ ap (λ bytes. line_at text from + count_by is_newline bytes) bytes ∙ lines;
      columns = ap (λ n. column_behind n c.between-byte-items.result.now) column ∙ ap (λ bytes. column_behind (column_at text from) bytes) bytes ∙ columns;
    }

pub overflow_add-column : goal.overflow_add-column
overflow_add-column c =
    let text = c.args.text.now in
    let column : c.args.last.column ≡ column_at text c.args.last.at = ap (λ p. p.column) c.requires.last in
    let few = column-few text c.args.last.at in
    let between = between-few text c.args.last.at c.args.at in
    let bytes : length c.between-byte-items.result.now ≡ length (drop c.args.last.at (take c.args.at text)) = ap length c.between-byte-items.ensures in
    let most = c.loop-byte.invariant.few_columns in
    let turn = c.loop-byte-test.true in
    let short = c.requires.short in
    omega (arith, column, few, between, bytes, most, turn, short)
