use Rattle.commands.proofs.certifying.reply_to_analysed.Goals as goal

-- a text that is accepted is UTF-8
pub file_of-requires-clause-utf8 : goal.file_of-requires-clause-utf8
file_of-requires-clause-utf8 c = c.requires.analysed.planned.accepted.spells.tokenizes.utf8
