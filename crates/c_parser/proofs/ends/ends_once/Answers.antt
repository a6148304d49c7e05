use Rattle.c_parser.specs.Spots.{spots_of}
use Rattle.c_parser.proofs.LastToken.{ends_behind-once}
use Rattle.c_parser.proofs.ends.ends_once.Goals as goal

pub tokens-init : goal.tokens-init
tokens-init c = ends_behind-once (spots_of c.args.tokens.now)
