use Rattle.std.proofs.Common.{◌≡◌, ◌++◌, drop, length}
use Rattle.typing.specs.Elaborated.{checks_in, procs_of}
use Rattle.typing.specs.Faults.{least_of, procs_faults}
use Rattle.typing.specs.Texts.{top}
use Rattle.typing.proofs.elaborator.Elaborator.procedures.Given as goal

abbrev pub invariant-loop-item : goal.invariant-loop-item
invariant-loop-item l = record {
  scopes : l.self.env.scopes ≡ l.fn.self.env.scopes;
  procs : l.procs ++ procs_of (top l.fn.self.env.scopes) l.globals (length l.checks) (drop l.item-index l.items) ≡ procs_of (top l.fn.self.env.scopes) l.globals (length l.fn.checks) l.items;
  checks : l.checks ++ checks_in (drop l.item-index l.items) ≡ l.fn.checks ++ checks_in l.items;
  least : least_of l.self.least (procs_faults (top l.fn.self.env.scopes) l.globals (length l.checks) (drop l.item-index l.items)) ≡ least_of l.fn.self.least (procs_faults (top l.fn.self.env.scopes) l.globals (length l.fn.checks) l.items);
}
