use Rattle.std.proofs.Common.{◌∙◌, sym, ap, subst}
use Rattle.posing.proofs.Steps.{in_other_words}
use Rattle.leaf_cases.specs.Conditions.{AreKnown}
use Rattle.newton_rounds.specs.Closure.{sides_of}
use Rattle.newton_rounds.proofs.KnownTables.{tabled-known}
use Rattle.newton_rounds.proofs.ReadyGroups.{procs-known}
use Rattle.newton_rounds.proofs.closure.sides_by.Goals as goal

pub with_table-requires : goal.with_table-requires
with_table-requires g c = procs-known c.args.group c.requires.group

pub sides_of-requires : goal.sides_of-requires
sides_of-requires g c =
    let group = c.args.group in
    let ready = c.requires.group in
    record {
      formed = ready.formed;
      there = ready.there;
      few = ready.few;
      members = ready.members;
      known =
          subst (AreKnown group.program.now) (sym (c.as_slice-known.ensures ∙ c.in_ok-all.ensures))
          (tabled-known group.program.now group.procs.now c.args.table.now group.known.now c.requires.table ready.known);
    }

pub returns-clause-follows : goal.returns-clause-follows
returns-clause-follows g c =
    in_other_words (ap (sides_of c.args.group.program.now c.args.group.procs.now) (c.as_slice-known.ensures ∙ c.in_ok-all.ensures)) c.sides_of.ensures.follows
