use Rattle.commands.proofs.costing.case_cost.Goals as goal

-- the answers that the finder gave lead to it
pub returns-in-Ok : goal.returns-in-Ok
returns-in-Ok c =
    let leads = c.in-Ok.ensures.follows.comes in
    record { notes = leads.notes; answers = leads.answers; stated = leads.path; met = c.in-Ok.ensures.met; says = c.in-Ok.ensures.says }
