use Rattle.life_args.proofs.Names.{◌∙◌, ap, ap₂, sym, with_rule, line_app, options_of}
use Rattle.std.proofs.lemmas.Result.{IfOk-weaker}
use Rattle.life_args.proofs.line.command_of.Goals as goal

-- each option, and each flag, adds its rule to those before
pub returns-in_ok-command-in-Value-4 : goal.returns-in_ok-command-in-Value-4
returns-in_ok-command-in-Value-4 c =
    let at_is = c.in_ok-command-in-Value.ensures.shape c.option-in-Value.ensures.local ∙ ap₂ with_rule c.in_ok-command.ensures c.option-in-Value.ensures.rule in
    let workers_are = c.in_ok-command-in-Value-2.ensures.shape c.option-in-Value-2.ensures.local ∙ ap₂ with_rule at_is c.option-in-Value-2.ensures.rule in
    let basis_is = c.in_ok-command-in-Value-3.ensures.shape c.option-in-Value-3.ensures.local ∙ ap₂ with_rule workers_are c.option-in-Value-3.ensures.rule in
    let mean_is = c.in_ok-command-in-Value-4.ensures.shape c.flag.ensures.local ∙ ap₂ with_rule basis_is c.flag.ensures.rule in
    IfOk-weaker c.with_arg-in-Value-5.result _ _ (λ command adds. adds.shape c.flag-in-Value.ensures.local ∙ ap₂ with_rule mean_is c.flag-in-Value.ensures.rule
    ∙ ap (λ verb. line_app (options_of verb)) (sym c.in-Value.is)) c.with_arg-in-Value-5.ensures
