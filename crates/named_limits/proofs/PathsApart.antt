-- A path through a computation whose notes come with its value.
--     path-apart      it is one of the computation itself, with these notes
use Rattle.std.proofs.Common.{◌≡◌, List, [], ◌++◌, sym, ap, ◌∙◌, subst, append_assoc, append-nil}
use Rattle.farkas_check.specs.declared.answer.Answer.{Answer}
use Rattle.posing.specs.declared.note.Note.{Note}
use Rattle.posing.specs.Posing.{Posing, Done, Noted, Asked, here, noted, asked}
use Rattle.analysis.specs.Apart.{apart_from}
use Rattle.named_limits.specs.Leading.{LeadsTo}
use Rattle.named_limits.proofs.Cuts.{from-Asked, from-Done}

-- the notes of a computation whose notes come with its value, behind those before it
pub record IsApart {A : Type 0} (before : List Note) (p : Posing A) (notes : List Note) (answers : List Answer) (made : A × List Note) : Type 0 where
  pub quiet : notes ≡ []
  pub own : List Note
  pub own_are : made.1 ≡ before ++ own
  pub leads : LeadsTo p own answers (Done made.0)

pub path-apart : {A : Type 0} (before : List Note) (p : Posing A) (notes : List Note) (answers : List Answer) (made : A × List Note)
    → LeadsTo (apart_from before p) notes answers (Done made) → IsApart before p notes answers made
unfolding apart_from
path-apart before (Done x) notes answers made path =
    let end = from-Done (x, before) made notes answers path in
    record {
      quiet = end.notes_are;
      own = [];
      own_are = ap (λ m. m.1) end.same ∙ sym (append-nil before);
      leads = subst (λ y. LeadsTo (Done x) [] answers (Done y)) (sym (ap (λ m. m.0) end.same)) (subst (λ taken. LeadsTo (Done x) [] taken (Done x)) (sym end.answers_are) (here (Done x)));
    }
path-apart before (Noted first p) notes answers made path =
    let rest = path-apart (before ++ first) p notes answers made path in
    record {
      quiet = rest.quiet;
      own = first ++ rest.own;
      own_are = rest.own_are ∙ append_assoc before first rest.own;
      leads = noted first rest.own answers p (Done made.0) rest.leads;
    }
path-apart before (Asked question next) notes answers made path =
    let step = from-Asked question (λ a. apart_from before (next a)) notes answers made path in
    let rest = path-apart before (next step.answer) notes step.others made step.path in
    record {
      quiet = rest.quiet;
      own = rest.own;
      own_are = rest.own_are;
      leads = subst (λ taken. LeadsTo (Asked question next) rest.own taken (Done made.0)) (sym step.answers_are) (asked question step.answer next rest.own step.others (Done made.0) tt rest.leads);
    }
