use Rattle.office_state.proofs.Names.{ℕ, List, refl, ◌∙◌, Entry, Blank, StandsFor}
use Rattle.office_state.proofs.HistorySteps.{posting}
use Rattle.office_state.proofs.PostedPins.{posted_floor, posted_pins}
use Rattle.office_state.proofs.TurnSteps.{crash_refused, stands_still, stands_with}
use Rattle.office_state.specs.declared.answer.Answer.TheVariants.{NoMemory}
use Rattle.office_state.proofs.state.OfficeState.decide.Goals as goal

pub returns-in-Err-clause-stands : goal.returns-in-Err-clause-stands
returns-in-Err-clause-stands g c = λ (history : List Entry) (caller : ℕ) (stands : StandsFor c.args.self.now history).
    let old = c.args.self.now in
    stands_still old history stands c.take_memory.new.books _ (posting caller c.args.command.now Blank) c.take_memory.ensures.commands
    refl refl tt
    old.pins (stands.pins ∙ posted_pins history caller c.args.command.now Blank refl)
    (c.take_memory.ensures.floor ∙ stands.floor ∙ posted_floor history caller c.args.command.now Blank refl)
    c.take_memory.new.watchers c.take_memory.ensures.told

pub decide_ready-requires-clause-stands : goal.decide_ready-requires-clause-stands
decide_ready-requires-clause-stands g c = (
  c.requires.stands.0,
  stands_with c.args.self.now c.requires.stands.0 c.requires.stands.1 c.take_memory.new.books _ c.take_memory.ensures.commands
      c.take_memory.ensures.floor c.take_memory.new.watchers c.take_memory.ensures.told,
)

pub returns-clause-stands : goal.returns-clause-stands
returns-clause-stands g c = λ (history : List Entry) (caller : ℕ) (stands : StandsFor c.args.self.now history).
    c.decide_ready.ensures.stands history caller
    (stands_with c.args.self.now history stands c.take_memory.new.books _ c.take_memory.ensures.commands
    c.take_memory.ensures.floor c.take_memory.new.watchers c.take_memory.ensures.told)

pub returns-clause-crash : goal.returns-clause-crash
returns-clause-crash g c = λ (history : List Entry) (stands : StandsFor c.args.self.now history).
    c.decide_ready.ensures.crash history
    (stands_with c.args.self.now history stands c.take_memory.new.books _ c.take_memory.ensures.commands
    c.take_memory.ensures.floor c.take_memory.new.watchers c.take_memory.ensures.told)

pub returns-in-Err-clause-crash : goal.returns-in-Err-clause-crash
returns-in-Err-clause-crash g c = λ (history : List Entry) (stands : StandsFor c.args.self.now history) honest.
    crash_refused c.args.self.now history c.args.command.now (NoMemory c.in-Err.lack) g.met.D.Disk.only_now stands honest (λ taken. taken)
