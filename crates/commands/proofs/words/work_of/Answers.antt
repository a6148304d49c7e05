use Rattle.std.proofs.Common.{ap, subst, ◌≡◌, ◌≢◌, ◌⊎◌, ◌∙◌, map, string_bytes, [], Option}
use Rattle.std.specs.Prelude.{IfOk}
use Rattle.commands.specs.declared.words.Work.{Work}
use Rattle.clap.specs.Words.{HasKind, fault_of, is_simple, is_simple_and_free, subcommand_of}
use Rattle.clap.specs.declared.error.kind.ErrorKind.TheVariants.{DisplayHelp, DisplayVersion, OutOfMemory}
use Rattle.commands.specs.Commands.{matched_work}
use Rattle.commands.proofs.ClapWords.{commands-exact, commands-simple, name-met, name_of, refused-unlisted, request-told, words-fit}
use Rattle.commands.proofs.words.work_of.Goals as goal

pub returns-in-Ok : goal.returns-in-Ok
returns-in-Ok c =
    let words = map string_bytes c.args.words.now in
    let is = c.in_ok-command.ensures in
    let fault = subst (λ a. fault_of a words ≡ []) is (c.in-Ok.ensures.kinds (ap is_simple_and_free is ∙ commands-simple)) in
    let rows = (c.in-Ok.ensures.matches (ap is_simple is ∙ commands-exact)).1 ∙ ap (λ a. subcommand_of a words) is in
    let met = name-met c.in-Ok.matches ∙ ap name_of rows in
    subst (λ (asked : Option Work). IfOk c.work_matched.result (λ work. work ≡ asked)) (ap (λ n. matched_work n words) met ∙ (words-fit words).matched fault) c.work_matched.ensures

pub returns-in-DisplayHelp : goal.returns-in-DisplayHelp
returns-in-DisplayHelp c =
    let words = map string_bytes c.args.words.now in
    let is = c.in_ok-command.ensures in
    let kinds = subst (λ a. HasKind (fault_of a words) c.in-Err.error) is (c.in-Err.ensures.kinds (ap is_simple_and_free is ∙ commands-simple)) in
    let request = subst (λ k. (k ≡ DisplayHelp) ⊎ (k ≡ DisplayVersion)) c.kind.ensures c.in-DisplayHelp.is in
    c.work_told.ensures ∙ request-told words c.in-Err.error kinds request

pub returns : goal.returns
returns c =
    let words = map string_bytes c.args.words.now in
    let is = c.in_ok-command.ensures in
    let kinds = subst (λ a. HasKind (fault_of a words) c.in-Err.error) is (c.in-Err.ensures.kinds (ap is_simple_and_free is ∙ commands-simple)) in
    refused-unlisted words c.in-Err.error kinds
    (subst (λ k. k ≢ OutOfMemory) c.kind.ensures c.in_default.not-OutOfMemory)
    (subst (λ k. k ≢ DisplayHelp) c.kind.ensures c.in_default.not-DisplayHelp)
    (subst (λ k. k ≢ DisplayVersion) c.kind.ensures c.in_default.not-DisplayVersion)
