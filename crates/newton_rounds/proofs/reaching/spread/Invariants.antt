use Rattle.std.proofs.Common.{◌≡◌, ◌||◌, length, drop}
use Rattle.newton_rounds.specs.Reached.{after_links, grow_over}
use Rattle.newton_rounds.proofs.reaching.spread.Given as goal

abbrev pub invariant-loop-link : goal.invariant-loop-link
invariant-loop-link l =
    record {
      long : length l.marks.items ≡ length l.initial.marks.items;
      marks : after_links l.marks.items (drop l.link-index l.links) ≡ after_links l.initial.marks.items l.links;
      grows : (l.changed || grow_over l.marks.items (drop l.link-index l.links)) ≡ grow_over l.initial.marks.items l.links;
    }
