use Rattle.std.proofs.Common.{◌≡◌, drop}
use Rattle.c_parser.specs.Spots.{ends_once, spots_of}
use Rattle.c_parser.proofs.LastToken.{ends_behind}
use Rattle.c_parser.proofs.ends.ends_once.Given as goal

-- what is left, behind a token that may have been the end
abbrev pub invariant-tokens : goal.invariant-tokens
invariant-tokens l = ends_behind l.ended (spots_of (drop l.token-index l.tokens)) ≡ ends_once (spots_of l.tokens)
