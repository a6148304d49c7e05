use Rattle.std.proofs.Common.{◌∙◌, sym, subst}
use Rattle.leaf_cases.specs.Conditions.{AreKnown}
use Rattle.newton_rounds.proofs.KnownTables.{untabled-known}
use Rattle.newton_rounds.proofs.ReadyGroups.{procs-known}
use Rattle.newton_rounds.proofs.bases.bases_of.Goals as goal

pub with_table-requires : goal.with_table-requires
with_table-requires g c = procs-known c.args.group c.requires

pub bases_by-requires : goal.bases_by-requires
bases_by-requires g c =
    let group = c.args.group in
    let ready = c.requires in
    record {
      formed = ready.formed;
      there = ready.there;
      few = ready.few;
      members = ready.members;
      known = subst (AreKnown group.program.now) (sym (c.as_slice-known.ensures ∙ c.in_ok-others.ensures)) (untabled-known group.program.now group.procs.now group.known.now ready.known);
    }
