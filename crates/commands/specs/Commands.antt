-- The commands of the program, as clap reads them.
use Rattle.std.specs.Prelude.{ℕ, List, [], ◌∷◌, Option, None, Some, codes, true, if◌then◌else◌, ◌&&◌}
use Rattle.std.specs.Str.{bytes_eq}
use Rattle.clap.specs.Words.{App, Rule, Shape, new_app, new_rule, with_rule, with_subcommand}
use Rattle.commands.specs.declared.words.Work.{Work}
use Rattle.commands.specs.Words.{work_named, work_with}

-- a command without arguments
abbrev pub plain : List ℕ → Shape
plain name = (new_app name).top

-- the argument of `sample`, which must be there
abbrev pub count_rule : Rule
count_rule = record (new_rule (codes "count")) { required = true }

-- the argument of `cost`, which must be there
abbrev pub name_rule : Rule
name_rule = record (new_rule (codes "name")) { required = true }

-- the program's command with its version, before its subcommands
abbrev pub top : App
top = record { top = record (plain (codes "cra")) { has_version = true }; subs = [] }

-- the program's command, with a subcommand for each of its commands
abbrev pub commands : App
commands =
    with_subcommand
    (with_subcommand
    (with_subcommand
    (with_subcommand
    (with_subcommand
    (with_subcommand (with_subcommand (with_subcommand (with_subcommand (with_subcommand top
    (plain (codes "analyse")))
    (plain (codes "certify")))
    (plain (codes "check")))
    (plain (codes "edit")))
    (with_rule (new_app (codes "sample")) count_rule).top)
    (plain (codes "renew")))
    (plain (codes "replay")))
    (with_rule (new_app (codes "cost")) name_rule).top)
    (plain (codes "prove")))
    (plain (codes "facets"))

-- what words ask for that name this subcommand
abbrev pub matched_work : Option (List ℕ) → List (List ℕ) → Option Work
matched_work (Some name) (first ∷ word ∷ []) = if bytes_eq word name then work_named name else None
matched_work (Some name) (first ∷ word ∷ text ∷ []) = if bytes_eq word name then work_with name text
    else None
matched_work (Some name) (first ∷ word ∷ dashes ∷ text ∷ []) =
    if bytes_eq word name && bytes_eq dashes (codes "--") then work_with name text else None
matched_work _ _ = None

-- what words ask for that name none
abbrev pub told_work : List (List ℕ) → Option Work
told_work (first ∷ word ∷ []) = work_named word
told_work _ = None
