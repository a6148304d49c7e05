use Rattle.c_parser.proofs.Readings as readings
use Rattle.c_parser.proofs.laws.reading_is_one.Goals as goal

pub returns : goal.returns
returns c = readings.reading_is_one
