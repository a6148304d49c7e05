use Rattle.std.proofs.Common.{rules}
use Rattle.wire.proofs.NumberTexts.{number_of-none}
use Rattle.wire.proofs.numbers.number.Goals as goal

pub returns-in_err-number : goal.returns-in_err-number
returns-in_err-number c = search (rules, number_of-none c.args.text.now, c.parse.ensures.value.0, c.ok.ensures.variant, c.in_err-number.was)
