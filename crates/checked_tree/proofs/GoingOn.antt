-- Each step of the evaluation of a plan leaves one that is under way.
use Rattle.std.proofs.Common.{List, [], ◌∷◌, sym, subst, length}
use Rattle.path_expr.specs.PathExpr.{PathExpr}
use Rattle.path_expr.specs.Operations.{operations}
use Rattle.std.specs.Prelude.{slice_set}
use Rattle.posing.specs.Posing.{Done, ◌>>=◌, Always}
use Rattle.posing.proofs.Paths.{always_bind}
use Rattle.checked_tree.specs.Evaluation.{with_entry, paths_of}
use Rattle.checked_tree.specs.Plan.{ArePathsOf}
use Rattle.checked_tree.specs.ByNumber.{key_at, formula_by, entry_of, with_number}
use Rattle.checked_tree.specs.Ready.{AreReady}
use Rattle.checked_tree.specs.UnderWay.{IsKnown, IsUnderWay, PlansGoOn, PlansBegin}
use Rattle.checked_tree.proofs.Entries.{paths-entry, known-more}
use Rattle.checked_tree.proofs.SameByNumber.{same-formula, agrees-more, agrees-first}
use Rattle.checked_tree.proofs.EliminationSteps.{operations-ready}
use Rattle.checked_tree.proofs.Whole.{own-known}

pub plans-go-on : PlansGoOn
unfolding with_number
plans-go-on g source keys is distinct entries n rest way = by_paths way.paths way.ready way.numbers
  where
    by_paths : (paths : List PathExpr) → AreReady g (paths_of way.made) paths → ArePathsOf keys paths (n ∷ rest) →
        Always (λ next. IsUnderWay g keys next rest) (formula_by g entries (key_at keys n) >>= λ f. Done (slice_set entries n (entry_of g entries (key_at keys n) f)))
    by_paths [] ready numbers = absurd numbers
    by_paths (p ∷ paths) ready numbers =
        always_bind (IsKnown g p) (λ next. IsUnderWay g keys next rest) (formula_by g entries (key_at keys n)) (λ f. Done (slice_set entries n (entry_of g entries (key_at keys n) f)))
        (subst (Always (IsKnown g p)) (same-formula g keys distinct way.made entries p n way.agrees numbers.0 ready.0) (own-known g source is way.made way.known p ready.0))
        (λ f known. record {
          made = with_entry way.made p f;
          paths = paths;
          agrees = agrees-more g keys distinct way.made entries p n way.agrees numbers.0 ready.0 f;
          known = known-more (IsKnown g) way.made p f (λ q h other. way.known q h) known;
          ready = subst (λ ps. AreReady g ps paths) (sym (paths-entry way.made p f)) ready.1;
          numbers = numbers.1;
        })

pub plans-begin : PlansBegin
plans-begin g source keys order cells is planned = record {
  made = [];
  paths = operations (length g.nodes) g.links source;
  agrees = agrees-first g keys;
  known = λ p h. absurd h;
  ready = operations-ready g source is.graph is.source_is;
  numbers = planned.order_is;
}
