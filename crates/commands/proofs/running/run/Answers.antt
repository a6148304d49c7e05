use Rattle.std.proofs.Common.{◌≡◌, ◌⊎◌, inl, inr, subst, rules}
use Rattle.std.specs.Io.KnownBytes.{Appends}
use Rattle.report.specs.Text.{text_of}
use Rattle.commands.specs.declared.status.Status.{Status}
use Rattle.commands.specs.declared.status.Status.TheVariants.{AllProved, SomeUnproved, NoneFailed, SomeFailed, Certified, CheckFailed, CheckPassed, CostsTold, NoGlobal, TooLong, WantOfMemory}
use Rattle.commands.proofs.Complete.{complete, complete-certify, complete-facets, complete-prove, complete-replay}
use Rattle.commands.proofs.Costs.{complete-cost, sound-cost}
use Rattle.commands.proofs.Edits.{complete-edit, sound-edit, true-end}
use Rattle.commands.proofs.FilePasses.{certified-passes, certified-renewed, complete-check, complete-renew}
use Rattle.commands.proofs.Sentences.{facets-text, failing, proved-text, sound, sound-check, sound-facets, sound-prove, true-text}
use Rattle.commands.proofs.running.run.Goals as goal

or-memory : (status : Status) → (status ≡ AllProved) ⊎ (status ≡ SomeUnproved) → (status ≡ AllProved) ⊎ (status ≡ SomeUnproved) ⊎ (status ≡ WantOfMemory)
or-memory status (inl all) = inl all
or-memory status (inr some) = inr (inl some)

-- what was to be analysed has its report
pub returns-in-Ok-write_all-clause-complete : goal.returns-in-Ok-write_all-clause-complete
returns-in-Ok-write_all-clause-complete g c to_analyse source sink = or-memory c.in-Ok.reply.status (complete _ _ _ c.in-Ok.reply to_analyse c.in-Ok.ensures.answer)

-- what was to be proved has its report
pub returns-in-Ok-write_all-clause-complete_prove : goal.returns-in-Ok-write_all-clause-complete_prove
returns-in-Ok-write_all-clause-complete_prove g c to_prove source sink = or-memory c.in-Ok.reply.status (complete-prove _ _ _ c.in-Ok.reply to_prove c.in-Ok.ensures.answer)

-- what was to be bounded along facets has its report
pub returns-in-Ok-write_all-clause-complete_facets : goal.returns-in-Ok-write_all-clause-complete_facets
returns-in-Ok-write_all-clause-complete_facets g c to_facets source sink = or-memory c.in-Ok.reply.status (complete-facets _ _ _ c.in-Ok.reply to_facets c.in-Ok.ensures.answer)

-- what was to be edited has the report of its last version
pub returns-in-Ok-write_all-clause-complete_edit : goal.returns-in-Ok-write_all-clause-complete_edit
returns-in-Ok-write_all-clause-complete_edit g c to_edit source sink = or-memory c.in-Ok.reply.status (complete-edit _ _ _ c.in-Ok.reply to_edit c.in-Ok.ensures.answer)

or-memory-too : (status : Status) → (status ≡ NoneFailed) ⊎ (status ≡ SomeFailed) → (status ≡ NoneFailed) ⊎ (status ≡ SomeFailed) ⊎ (status ≡ WantOfMemory)
or-memory-too status (inl none) = inl none
or-memory-too status (inr some) = inr (inl some)

or-memory-certified : (status : Status) → (status ≡ Certified) ⊎ (status ≡ TooLong) → (status ≡ Certified) ⊎ (status ≡ TooLong) ⊎ (status ≡ WantOfMemory)
or-memory-certified status (inl told) = inl told
or-memory-certified status (inr long) = inr (inl long)

-- what was to be certified has its file
pub returns-in-Ok-write_all-clause-complete_certify : goal.returns-in-Ok-write_all-clause-complete_certify
returns-in-Ok-write_all-clause-complete_certify g c to_certify source sink =
    or-memory-certified c.in-Ok.reply.status (complete-certify _ _ _ c.in-Ok.reply to_certify c.in-Ok.ensures.answer)

-- what was to be replayed has its trace
pub returns-in-Ok-write_all-clause-complete_replay : goal.returns-in-Ok-write_all-clause-complete_replay
returns-in-Ok-write_all-clause-complete_replay g c to_replay source sink =
    or-memory-too c.in-Ok.reply.status (complete-replay _ _ _ c.in-Ok.reply to_replay c.in-Ok.ensures.answer)

or-memory-checked : (status : Status) → (status ≡ CheckPassed) ⊎ (status ≡ CheckFailed) → (status ≡ CheckPassed) ⊎ (status ≡ CheckFailed) ⊎ (status ≡ WantOfMemory)
or-memory-checked status (inl passed) = inl passed
or-memory-checked status (inr failed) = inr (inl failed)

-- what was to be checked passes or does not
pub returns-in-Ok-write_all-clause-complete_check : goal.returns-in-Ok-write_all-clause-complete_check
returns-in-Ok-write_all-clause-complete_check g c to_check source sink =
    or-memory-checked c.in-Ok.reply.status (complete-check _ _ _ c.in-Ok.reply to_check c.in-Ok.ensures.answer)

or-memory-renewed : (status : Status) → (status ≡ Certified) ⊎ (status ≡ TooLong) ⊎ (status ≡ CheckFailed)
    → (status ≡ Certified) ⊎ (status ≡ TooLong) ⊎ (status ≡ CheckFailed) ⊎ (status ≡ WantOfMemory)
or-memory-renewed status (inl told) = inl told
or-memory-renewed status (inr (inl long)) = inr (inl long)
or-memory-renewed status (inr (inr failed)) = inr (inr (inl failed))

-- what was to be renewed is, or does not pass
pub returns-in-Ok-write_all-clause-complete_renew : goal.returns-in-Ok-write_all-clause-complete_renew
returns-in-Ok-write_all-clause-complete_renew g c to_renew source sink =
    or-memory-renewed c.in-Ok.reply.status (complete-renew _ _ _ c.in-Ok.reply to_renew c.in-Ok.ensures.answer)

-- what `certify` printed passes
pub returns-in-Ok-write_all-clause-passes : goal.returns-in-Ok-write_all-clause-passes
returns-in-Ok-write_all-clause-passes g c to_check source sink =
    inl (certified-passes c.newline_is_read_over.ensures _ _ _ c.in-Ok.reply to_check c.in-Ok.ensures.answer)

-- and is renewed
pub returns-in-Ok-write_all-clause-passes_renew : goal.returns-in-Ok-write_all-clause-passes_renew
returns-in-Ok-write_all-clause-passes_renew g c to_renew source sink =
    or-memory-certified c.in-Ok.reply.status (certified-renewed c.newline_is_read_over.ensures _ _ _ c.in-Ok.reply to_renew c.in-Ok.ensures.answer)

-- what the end says of executions
pub returns-in-Ok-write_all-clause-sound : goal.returns-in-Ok-write_all-clause-sound
returns-in-Ok-write_all-clause-sound g c asked is = sound _ _ _ c.in-Ok.reply asked c.in-Ok.ensures.answer is

pub returns-in-Ok-write_all-clause-sound_prove : goal.returns-in-Ok-write_all-clause-sound_prove
returns-in-Ok-write_all-clause-sound_prove g c asked is = sound-prove _ _ _ c.in-Ok.reply asked c.in-Ok.ensures.answer is

pub returns-in-Ok-write_all-clause-told_prove : goal.returns-in-Ok-write_all-clause-told_prove
returns-in-Ok-write_all-clause-told_prove g c asked is =
    let written : Appends (g.W.Sink.taken c.args.sink.now) (g.W.Sink.taken c.write_all.new.sink) c.in-Ok.reply.text = search rules in
    (c.in-Ok.reply.text, proved-text _ _ _ c.in-Ok.reply asked c.in-Ok.ensures.answer, written)

pub returns-in-Ok-write_all-clause-sound_facets : goal.returns-in-Ok-write_all-clause-sound_facets
returns-in-Ok-write_all-clause-sound_facets g c asked is = sound-facets _ _ _ c.in-Ok.reply asked c.in-Ok.ensures.answer is

pub returns-in-Ok-write_all-clause-told_facets : goal.returns-in-Ok-write_all-clause-told_facets
returns-in-Ok-write_all-clause-told_facets g c asked is =
    let written : Appends (g.W.Sink.taken c.args.sink.now) (g.W.Sink.taken c.write_all.new.sink) c.in-Ok.reply.text = search rules in
    (c.in-Ok.reply.text, facets-text _ _ _ c.in-Ok.reply asked c.in-Ok.ensures.answer, written)

pub returns-in-Ok-write_all-clause-sound_edit : goal.returns-in-Ok-write_all-clause-sound_edit
returns-in-Ok-write_all-clause-sound_edit g c asked is = sound-edit _ _ _ c.in-Ok.reply asked c.in-Ok.ensures.answer is

pub returns-in-Ok-write_all-clause-told_edit : goal.returns-in-Ok-write_all-clause-told_edit
returns-in-Ok-write_all-clause-told_edit g c asked is =
    let written : Appends (g.W.Sink.taken c.args.sink.now) (g.W.Sink.taken c.write_all.new.sink) c.in-Ok.reply.text = search rules in
    let end = true-end _ _ _ c.in-Ok.reply asked c.in-Ok.ensures.answer in
    (end.lines, text_of end.report, end.true_text, subst (Appends (g.W.Sink.taken c.args.sink.now) (g.W.Sink.taken c.write_all.new.sink)) end.is written)

pub returns-in-Ok-write_all-clause-sound_check : goal.returns-in-Ok-write_all-clause-sound_check
returns-in-Ok-write_all-clause-sound_check g c asked is = sound-check _ _ _ c.in-Ok.reply asked c.in-Ok.ensures.answer is

pub returns-in-Ok-write_all-clause-failing : goal.returns-in-Ok-write_all-clause-failing
returns-in-Ok-write_all-clause-failing g c asked is = failing _ _ _ c.in-Ok.reply asked c.in-Ok.ensures.answer is

pub returns-in-Ok-write_all-clause-told : goal.returns-in-Ok-write_all-clause-told
returns-in-Ok-write_all-clause-told g c asked is =
    let written : Appends (g.W.Sink.taken c.args.sink.now) (g.W.Sink.taken c.write_all.new.sink) c.in-Ok.reply.text = search rules in
    (c.in-Ok.reply.text, true-text _ _ _ c.in-Ok.reply asked c.in-Ok.ensures.answer, written)

-- what is told of a global's change
pub returns-in-Ok-write_all-clause-sound_cost : goal.returns-in-Ok-write_all-clause-sound_cost
returns-in-Ok-write_all-clause-sound_cost g c asked is =
    let written : Appends (g.W.Sink.taken c.args.sink.now) (g.W.Sink.taken c.write_all.new.sink) c.in-Ok.reply.text = search rules in
    (c.in-Ok.reply.text, sound-cost _ _ _ c.in-Ok.reply asked c.in-Ok.ensures.answer is, written)

or-memory-costed : {P Q : Type 0} (status : Status) → ((status ≡ CostsTold) × P) ⊎ ((status ≡ NoGlobal) × Q) → ((status ≡ CostsTold) × P) ⊎ ((status ≡ NoGlobal) × Q) ⊎ (status ≡ WantOfMemory)
or-memory-costed status (inl told) = inl told
or-memory-costed status (inr none) = inr (inl none)

-- a text of which the costs were asked for has them, or has no such global
pub returns-in-Ok-write_all-clause-complete_cost : goal.returns-in-Ok-write_all-clause-complete_cost
returns-in-Ok-write_all-clause-complete_cost g c asked source sink = or-memory-costed c.in-Ok.reply.status (complete-cost _ _ _ c.in-Ok.reply asked c.in-Ok.ensures.answer)
