use Rattle.simplex.proofs.raise.one_turn.Given as goal

abbrev pub ghost-exchange_column : goal.ghost-exchange_column
ghost-exchange_column g a = g.over
