use Rattle.std.proofs.Common.{rules}
use Rattle.wire.proofs.NumberTexts.{number_of-signed_decimal}
use Rattle.wire.proofs.numbers.I128Written.write.Goals as goal

pub returns-clause-back : goal.returns-clause-back
returns-clause-back c = search (rules, number_of-signed_decimal c.args.self.now, c.try_from_str.ensures, c.format.ensures.text)
