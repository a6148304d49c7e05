use Rattle.c_parser.proofs.TokenForms as lexed
use Rattle.c_parser.proofs.laws.lexed_ends_once.Goals as goal

pub returns : goal.returns
returns c = lexed.lexed_ends_once
