-- What is called by an activation on top of a stack is on top of one.
use Rattle.std.proofs.Common.{◌≡◌, ℕ, Option, Some, None, List, [], ◌∷◌, ◌++◌, length, take, drop, refl, sym, subst}
use Rattle.std.proofs.lemmas.List.{take-append-drop}
use Rattle.syntax_tree.specs.declared.program.Program.{Program}
use Rattle.syntax_tree.specs.Code.{Call, code_of}
use Rattle.syntax_tree.specs.Term.{Term}
use Rattle.syntax_tree.specs.Value.{State}
use Rattle.execution.specs.Execution.{initial_globals}
use Rattle.execution.specs.Machine.{Config, Do, Frame, Item, pending}
use Rattle.execution.specs.Step.{values_of}
use Rattle.flow_graph.specs.Stack.{Beginning, IsChain, StandsOver}
use Rattle.flow_graph.specs.Walks.{Stands}
use Rattle.flow_graph.proofs.Theorems.{calls_are_walks}
use Rattle.point_induction.specs.Induction.{IsFirstState, start_of}
use Rattle.point_rounds.specs.Chains.{CalledStandOnChains, MainStandsOnChain, StandsOnChain}

module _ (program : Program) where
  -- the frame with which an activation begins, whose value goes into a column of its caller
  first-frame : (proc : ℕ) (globals args first : State) → Option ℕ → IsFirstState program proc globals args first → Frame
  first-frame proc globals args first into f = record { proc = proc; own = args ++ f.others; items = pending (code_of f.callee.body) []; into = into }

  -- an activation stands where it begins
  stands-first : (proc : ℕ) (globals args first : State) (f : IsFirstState program proc globals args first)
      → Stands program proc globals args (pending (code_of f.callee.body) []) (globals ++ (args ++ f.others))
  unfolding first-frame
  stands-first proc globals args first f =
      let frame : Frame = first-frame proc globals args first None f in record {
        first = record { globals = globals; frames = frame ∷ [] };
        begins = record {
          width = f.width;
          frame = frame;
          entered = record { callee = f.callee; is = f.is; params = f.params; others = f.others; width = f.columns; frame_is = refl };
          first_is = refl;
        };
        steps = [];
        now = globals;
        frame = frame;
        runs = refl;
        items_are = refl;
        state_is = refl;
      }

  -- the frames below stay as they are where the top one goes on to other items
  stands-on : (bottom top : Beginning) (globals now : State) (items more : List Item) (frame : Frame) (own : State) (left : List Item) (below : List Frame)
      → StandsOver program bottom top globals items frame below → Stands program top.proc top.globals top.args more (now ++ own)
      → StandsOver program bottom top now more (record { proc = top.proc; own = own; items = left; into = frame.into }) below
  stands-on bottom top globals now items more frame own left [] over stands = (over.0, refl, stands)
  stands-on bottom top globals now items more frame own left (caller ∷ below) over stands = (refl, stands, over.2, over.3, over.4, over.5)

  called : (caller : Beginning) (config : Config) (chain : IsChain program (start_of program) config) → chain.top ≡ caller
      → (after : State) (callee : ℕ) (terms : List Term) (into : Option ℕ) (values first : State) (rest : List Item)
      → Stands program caller.proc caller.globals caller.args (Do (Call callee terms into) ∷ rest) after → values_of terms after ≡ Some values
      → IsFirstState program callee (take (length program.globals) after) values first
      → StandsOnChain program (record { proc = callee; globals = take (length program.globals) after; args = values })
  unfolding first-frame
  called caller config chain same after callee terms into values first rest stands are f =
      let w : ℕ = length program.globals in
      let whole : take w after ++ drop w after ≡ after = take-append-drop w after in
      let own : State = drop w after in
      let frame : Frame = first-frame callee (take w after) values first into f in
      let under : Frame = record { proc = caller.proc; own = own; items = rest; into = chain.frame.into } in
      let over = subst (λ top. StandsOver program (start_of program) top config.globals chain.frame.items chain.frame chain.below) same chain.stands in record {
        config = record { globals = take w after; frames = frame ∷ under ∷ chain.below };
        chain = record {
          top = record { proc = callee; globals = take w after; args = values };
          frame = frame;
          below = under ∷ chain.below;
          frames_are = refl;
          stands = (
            refl,
            stands-first callee (take w after) values first f,
            caller,
            terms,
            subst (λ s. values_of terms s ≡ Some values) (sym whole) are,
            stands-on (start_of program) caller config.globals (take w after) chain.frame.items (Do (Call callee terms into) ∷ rest) chain.frame own rest chain.below over
                (subst (λ s. Stands program caller.proc caller.globals caller.args (Do (Call callee terms into) ∷ rest) s) (sym whole) stands),
          );
        };
        is = refl;
      }

pub called_stand_on_chains : CalledStandOnChains
called_stand_on_chains program caller after edge way callee terms into values first on is act walk are f =
    let stands = (calls_are_walks program caller.proc caller.globals caller.args callee terms into after).1 (way, edge, is, act, walk) in
    called program caller on.config on.chain on.is after callee terms into values first stands.0 stands.1 are f

pub main_stands_on_chain : MainStandsOnChain
unfolding first-frame
main_stands_on_chain program first f =
    let frame : Frame = first-frame program program.main (initial_globals program) [] first None f in record {
      config = record { globals = initial_globals program; frames = frame ∷ [] };
      chain = record {
        top = start_of program;
        frame = frame;
        below = [];
        frames_are = refl;
        stands = (refl, refl, stands-first program program.main (initial_globals program) [] first f);
      };
      is = refl;
    }
