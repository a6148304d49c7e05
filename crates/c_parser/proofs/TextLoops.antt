-- One step of each loop of the parser of declarations.
use Rattle.std.proofs.Common.{◌≡◌, ℕ, ◌<◌, true, false, Option, List, [], ◌∷◌, ◌++◌, length, ap}
use Rattle.std.specs.Prelude.{not, Ok}
use Rattle.items.specs.Gives.{◌>>=◌, FailsBy}
use Rattle.items.proofs.Gives.{FailsBy-bind}
use Rattle.c_lexer.specs.declared.mark.Mark.TheVariants as marks
use Rattle.c_parser.specs.declared.error.ParseError.{ParseError}
use Rattle.c_parser.specs.Descent.{begins_with, tail}
use Rattle.c_parser.specs.SourceItem.{SourceItem}
use Rattle.c_parser.specs.Spots.{Spot}
use Rattle.c_parser.specs.Texts.{Slots, at_end, comma_stands, declaration, goes_on, items_left, more_slots, next_shared, one_declaration, one_shared, one_slot, shared_list, slot, slots_go_on, slots_left, text}
use Rattle.c_parser.proofs.Repeats.{repeat-done, repeat-more, repeat-fails}

module _ (read : List SourceItem × List Spot) where
  pub shared-done : begins_with marks.Comma read.1 ≡ false → shared_list read ≡ Ok read
  shared-done e = repeat-done items_left comma_stands one_shared read e

  pub shared-more : (next : SourceItem × List Spot) → begins_with marks.Comma read.1 ≡ true → next_shared (tail read.1) ≡ Ok next
      → length next.1 < length read.1 → shared_list read ≡ shared_list (read.0 ++ next.0 ∷ [], next.1)
  shared-more next e made less =
      repeat-more items_left comma_stands one_shared read (read.0 ++ next.0 ∷ [], next.1) e
      (ap (λ came. came >>= λ next. Ok (read.0 ++ next.0 ∷ [], next.1)) made) less

  pub shared-fails : (cause : Option ParseError) → begins_with marks.Comma read.1 ≡ true → FailsBy cause (next_shared (tail read.1)) → FailsBy cause (shared_list read)
  shared-fails cause e fails =
      repeat-fails items_left comma_stands one_shared cause read e
      (FailsBy-bind cause (next_shared (tail read.1)) (λ next. Ok (read.0 ++ next.0 ∷ [], next.1)) fails)

module _ (slots : Slots) where
  pub slots-done : begins_with marks.Comma slots.rest ≡ false → more_slots slots ≡ Ok slots
  slots-done e = repeat-done slots_left slots_go_on one_slot slots e

  pub slots-more : (next : Slots) → begins_with marks.Comma slots.rest ≡ true → slot slots (tail slots.rest) ≡ Ok next → length next.rest < length slots.rest
      → more_slots slots ≡ more_slots next
  slots-more next e made less = repeat-more slots_left slots_go_on one_slot slots next e made less

  pub slots-fail : (cause : Option ParseError) → begins_with marks.Comma slots.rest ≡ true → FailsBy cause (slot slots (tail slots.rest)) → FailsBy cause (more_slots slots)
  slots-fail cause e fails = repeat-fails slots_left slots_go_on one_slot cause slots e fails

module _ (most levels : ℕ) (read : List SourceItem × List Spot) where
  pub text-done : at_end read.1 ≡ true → text most levels read ≡ Ok read
  text-done e = repeat-done items_left goes_on (one_declaration most levels) read (ap not e)

  pub text-more : (next : List SourceItem × List Spot) → at_end read.1 ≡ false → declaration most levels read.1 ≡ Ok next → length next.1 < length read.1
      → text most levels read ≡ text most levels (read.0 ++ next.0, next.1)
  text-more next e made less =
      repeat-more items_left goes_on (one_declaration most levels) read (read.0 ++ next.0, next.1) (ap not e)
      (ap (λ came. came >>= λ next. Ok (read.0 ++ next.0, next.1)) made) less

  pub text-fails : (cause : Option ParseError) → at_end read.1 ≡ false → FailsBy cause (declaration most levels read.1) → FailsBy cause (text most levels read)
  text-fails cause e fails =
      repeat-fails items_left goes_on (one_declaration most levels) cause read (ap not e)
      (FailsBy-bind cause (declaration most levels read.1) (λ next. Ok (read.0 ++ next.0, next.1)) fails)
