-- An office at which one caller turned, to value its policies
use Rattle.valuing_modes.proofs.Names.{ℕ, ℤ, List, [], Result, subst, append-nil, Option, Ghosts, Dated, Command, At, IsDue, commands_after, opened_on, pin_call, IsLeftBy, IsOfficeHistory, OfficeOpening, Holding, PassFacts, Measure, HasValued, IsValueAnswer, ValueFault, Ending, Stream, EndsValuing}
use Rattle.policy_types.specs.Accounts.{Booking}
use Rattle.policy_types.specs.declared.watcher.Report.{Report}
use Rattle.office_state.specs.States.{MomentRing}
use Rattle.shared_office.specs.Starting.{HasClosed, HasStartedOffice}
use Rattle.watcher_set.specs.declared.watching.Watching.{Ghosts as WatcherGhosts}
use Rattle.snapshot_value.specs.declared.valuation.Valuation.{Valuation}
use Rattle.valuing_modes.specs.inside.Valued.{EndsAnswer, EndsValued, IsLoneAnswer}
use Rattle.lone_office.proofs.LoneTurns.{lone_answered, lone_due, lone_left}
use Rattle.valuing_modes.proofs.ValueSteps.{ends_valued, lone_answer, lone_ends}

module _ {D W : Type 0} (g : Ghosts D) (w : WatcherGhosts W) (old disk : D) (watchers : W) (on : ℤ) (measure : Measure) (at : At) (workers turn : ℕ) (basis : List Dated)
    (first closing : Holding (OfficeOpening D W)) (balances : Booking) (reports : List Report) (answer : Result Valuation ValueFault)
    (started : HasStartedOffice g old watchers first) (facts : PassFacts IsOfficeHistory closing)
    {outlet : Option MomentRing} (closed : HasClosed g w closing disk balances reports outlet)
    (valued : HasValued basis on measure at workers first closing turn answer) where
  due : IsDue started.opening [] valued.pin.1.caller (pin_call at) valued.pin.1.reply
  due = lone_due g w old disk watchers at first closing balances reports started facts closed valued.pin valued.later valued.grows _ valued.answers.0 valued.answers.1

  answered : IsValueAnswer (commands_after started.opening []) basis on measure valued.pin.1.reply answer
  answered =
      lone_answered g w old disk watchers at first closing balances reports started facts closed valued.pin valued.later valued.grows _ valued.answers.0 valued.answers.1
      turn valued.opened (λ (commands : List Command). IsValueAnswer commands basis on measure valued.pin.1.reply answer) valued.place valued.opening valued.answered

  left : IsLeftBy g old disk (opened_on started.opening.commands (g.faults old)) []
  left = lone_left g w old disk watchers at first closing balances reports started facts closed valued.pin valued.later valued.grows _ valued.answers.0 valued.answers.1

  -- it can be written
  pub answer_lone : IsLoneAnswer answer
  answer_lone = lone_answer started.opening valued.pin.1.caller on measure basis at valued.pin.1.reply answer due answered

  -- `value` ends by it
  pub ends_lone : (output : Stream) (ending : Ending) → EndsAnswer on answer output ending → EndsValuing g old disk on at measure basis output ending
  ends_lone output ending ends =
      ends_valued g old disk on at measure basis output started.opening.commands ending left
      (subst (λ (cs : List Command). EndsValued cs on at measure basis output ending) (append-nil started.opening.commands)
      (lone_ends started.opening valued.pin.1.caller on measure basis output at valued.pin.1.reply answer ending due answered ends))
