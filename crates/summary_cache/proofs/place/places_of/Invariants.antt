use Rattle.std.proofs.Common.{◌≡◌, ◌≤◌, ◌++◌, ℕ, drop, IsTrue, map}
use Rattle.c_lexer.specs.Laws.{ascends_from}
use Rattle.summary_cache.specs.Stated.{text_place}
use Rattle.summary_cache.proofs.place.places_of.Given as goal

abbrev pub invariant-loop-at : goal.invariant-loop-at
invariant-loop-at l = record {
  last : l.last ≡ text_place l.text l.last.at;
  least : ℕ;
  order : l.last.at ≤ least;
  ascend : IsTrue (ascends_from least (drop l.at-index l.ats));
  made : l.places ++ map (text_place l.text) (drop l.at-index l.ats) ≡ map (text_place l.text) l.ats;
}
