-- The columns that are told at the exit.
use Rattle.std.proofs.Common.{◌≡◌, ℕ, ◌+◌, ◌<◌, ◌≤◌, Bool, true, false, length, refl, sym, ◌∙◌, length-append, arith}
use Rattle.std.specs.Prelude.{All}
use Rattle.std.specs.List.{AllByRecursion, range_with_len}
use Rattle.std.proofs.lemmas.List.Elements.{All-from_recursion}
use Rattle.std.proofs.lemmas.List.FromFn.{length-range_with_len}
use Rattle.items.proofs.Each.{each-append}
use Rattle.vocabularies.specs.Ends.{value_width}
use Rattle.proc_summary.specs.Summary.{exit_places, value_place}
pub use Rattle.proc_summary.proofs.CratesBelow.{range-below}
use Rattle.newton_rounds.specs.Pairs.{PairEnds}
use Rattle.newton_rounds.specs.Shapes.{AreEnds}

value-length : (returns : Bool) (columns : ℕ) → length (value_place returns columns) ≡ value_width returns
value-length true columns = refl
value-length false columns = refl

pub value-few : (returns : Bool) → value_width returns ≤ 1
value-few true = omega arith
value-few false = omega arith

value-below : (returns : Bool) (columns : ℕ) → 0 < columns → AllByRecursion (λ place. place < columns) (value_place returns columns)
value-below true columns lt = (omega (arith, lt), tt)
value-below false columns lt = tt

module _ (m : PairEnds) (ends : AreEnds m) where
  pub places-length : length (exit_places m.ends) ≡ m.ends.exit.columns
  places-length =
      length-append (range_with_len 0 m.ends.globals) (value_place m.ends.returns m.ends.full.columns)
      ∙ (λ i. length-range_with_len 0 m.ends.globals i + value-length m.ends.returns m.ends.full.columns i)
      ∙ sym ends.exit

  pub places-below : All (λ place. place < m.ends.full.columns) (exit_places m.ends)
  places-below =
      let entry = ends.entry in
      let globals = ends.globals_enter in
      All-from_recursion (λ place. place < m.ends.full.columns) (exit_places m.ends)
      (each-append (λ place. place < m.ends.full.columns) (range_with_len 0 m.ends.globals) (value_place m.ends.returns m.ends.full.columns)
      (range-below 0 m.ends.globals m.ends.full.columns (omega (arith, entry, globals))) (value-below m.ends.returns m.ends.full.columns (omega (arith, entry))))

  -- the exit's columns stand behind the entry's in the pair
  pub pair-holds : m.ends.entry.columns + length (exit_places m.ends) ≤ m.pair.columns
  pair-holds = let long = places-length in let pair = ends.pair in omega (arith, long, pair)

  pub exit-few : m.ends.exit.columns ≤ 17
  exit-few = let exit = ends.exit in let one = value-few m.ends.returns in let globals = ends.globals in omega (arith, exit, one, globals)
