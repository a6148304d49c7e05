use Rattle.std.proofs.Common.{rules, ap, ap₂, codes, true, ◌≡◌, ◌∙◌, ◌||◌}
use Rattle.clap.specs.declared.builder.arg.Arg.{Arg}
use Rattle.clap.specs.Simple.{app_of_fields}
use Rattle.clap.specs.Words.{App, Rule, app_of, new_app, rule_of, with_rule, with_subcommand}
use Rattle.commands.specs.Commands.{count_rule, name_rule, top}
use Rattle.commands.proofs.words.command.Goals as goal

pub returns : goal.returns
returns c =
    let count_is : rule_of c.required-count.result ≡ count_rule =
    ap rule_of c.required-count.ensures ∙ ap (λ (r : Rule). record r { required = true }) c.new.ensures.rule in
    let sample_global = ap (λ (a : Arg). a.global) c.required-count.ensures ∙ c.new.ensures.optional.1 in
    let sample_is : app_of c.in_ok-sample.sample ≡ with_rule (new_app (codes "sample")) count_rule =
    c.in_ok-sample.ensures.shape sample_global ∙ ap₂ with_rule c.new-2.ensures.app count_is in
    let name_is : rule_of c.required-name.result ≡ name_rule =
    ap rule_of c.required-name.ensures ∙ ap (λ (r : Rule). record r { required = true }) c.new-3.ensures.rule in
    let name_global = ap (λ (a : Arg). a.global) c.required-name.ensures ∙ c.new-3.ensures.optional.1 in
    let cost_is : app_of c.in_ok-cost.cost ≡ with_rule (new_app (codes "cost")) name_rule =
    c.in_ok-cost.ensures.shape name_global ∙ ap₂ with_rule c.new-4.ensures.app name_is in
    let top_is : app_of c.version.result ≡ top =
    ap app_of_fields c.version.ensures ∙ ap (λ (a : App). record a { top = record a.top { has_version = true } }) c.new-5.ensures.app in
    let first = c.in_ok-subcommand.ensures.shape (search rules) ∙ ap₂ with_subcommand top_is (ap (λ (a : App). a.top) c.new-6.ensures.app) in
    let second = c.in_ok-subcommand-2.ensures.shape (search rules) ∙ ap₂ with_subcommand first (ap (λ (a : App). a.top) c.new-7.ensures.app) in
    let third = c.in_ok-subcommand-3.ensures.shape (search rules) ∙ ap₂ with_subcommand second (ap (λ (a : App). a.top) c.new-8.ensures.app) in
    let fourth = c.in_ok-subcommand-4.ensures.shape (search rules) ∙ ap₂ with_subcommand third (ap (λ (a : App). a.top) c.new-9.ensures.app) in
    let fifth = c.in_ok-subcommand-5.ensures.shape (c.in_ok-sample.ensures.globals ∙ ap₂ (λ one other. one || other) c.new-2.ensures.local sample_global) ∙ ap₂ with_subcommand fourth (ap (λ (a : App). a.top) sample_is) in
    let sixth = c.in_ok-subcommand-6.ensures.shape (search rules) ∙ ap₂ with_subcommand fifth (ap (λ (a : App). a.top) c.new-10.ensures.app) in
    let seventh = c.in_ok-subcommand-7.ensures.shape (search rules) ∙ ap₂ with_subcommand sixth (ap (λ (a : App). a.top) c.new-11.ensures.app) in
    let eighth = c.in_ok-subcommand-8.ensures.shape (c.in_ok-cost.ensures.globals ∙ ap₂ (λ one other. one || other) c.new-4.ensures.local name_global) ∙ ap₂ with_subcommand seventh (ap (λ (a : App). a.top) cost_is) in
    let ninth = c.in_ok-subcommand-9.ensures.shape (search rules) ∙ ap₂ with_subcommand eighth (ap (λ (a : App). a.top) c.new-12.ensures.app) in
    c.in_ok-subcommand-10.ensures.shape (search rules) ∙ ap₂ with_subcommand ninth (ap (λ (a : App). a.top) c.new-13.ensures.app)
