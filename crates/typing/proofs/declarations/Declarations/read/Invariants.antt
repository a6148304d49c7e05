use Rattle.std.proofs.Common.{◌≡◌, ◌+◌, [], ◌∷◌, ◌++◌, None, drop}
use Rattle.typing.specs.Faults.{declaration_faults, least_of}
use Rattle.typing.specs.Texts.{bodies, count_globals, declarations, top}
use Rattle.typing.proofs.declarations.Declarations.read.Given as goal

abbrev pub invariant-loop-item : goal.invariant-loop-item
invariant-loop-item l = record {
  one : l.made.scopes ≡ top l.made.scopes ∷ [];
  one_of_bodies : l.made.bodies ≡ top l.made.bodies ∷ [];
  scopes : top l.made.scopes ++ declarations l.made.globals l.made.procs (drop l.item-index l.items) ≡ declarations 0 0 l.items;
  bodies : top l.made.bodies ++ bodies l.made.procs (drop l.item-index l.items) ≡ bodies 0 l.items;
  globals : l.made.globals + count_globals (drop l.item-index l.items) ≡ count_globals l.items;
  least : least_of l.made.least (declaration_faults (top l.made.scopes) l.made.globals l.made.procs (drop l.item-index l.items)) ≡ least_of None (declaration_faults [] 0 0 l.items);
}
