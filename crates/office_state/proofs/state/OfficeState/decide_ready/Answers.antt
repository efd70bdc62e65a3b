use Rattle.office_state.proofs.Names.{◌≡◌, ℕ, List, refl, ap, sym, ◌∙◌, subst, Err, Ok, length, rules, Entry, Refused, Full, judged_after, commands_after, disk_of, TellsOne, StandsFor, commands_of, opening_of}
use Rattle.office_state.proofs.HistorySteps.{is_full, is_refused, posting}
use Rattle.office_state.proofs.PostedPins.{posted_floor, posted_pins}
use Rattle.office_state.proofs.SafeSteps.{room_for_one}
use Rattle.office_state.proofs.TurnSteps.{crash_accepted, crash_faulted, crash_refused, stands_accepted, stands_faulted, stands_still}
use Rattle.office_state.specs.declared.answer.Answer.TheVariants.{Refused as RefusedAs}
use Rattle.office_state.proofs.state.OfficeState.decide_ready.Goals as goal

pub returns-in-Err-clause-stands : goal.returns-in-Err-clause-stands
returns-in-Err-clause-stands g c = λ (history : List Entry) (caller : ℕ) (stands : StandsFor c.args.self.now history).
    let old = c.args.self.now in
    let command = c.args.command.now in
    let reply = Refused c.in-Err.refusal in
    let found : judged_after (commands_of old) command ≡ Err c.in-Err.refusal =
    sym {b = judged_after (commands_of old) command} c.judgement.ensures ∙ c.in-Err.is in
    stands_still old history stands old.books old.counted (posting caller command reply) refl refl refl
    (is_refused (commands_after (opening_of old) history) command c.in-Err.refusal
    (subst (λ cs. judged_after cs command ≡ Err c.in-Err.refusal) stands.listed found))
    old.pins (stands.pins ∙ posted_pins history caller command reply refl)
    (stands.floor ∙ posted_floor history caller command reply refl)
    old.watchers (λ before heard told. told)

pub returns-then-count-eq-MOST_COMMANDS-clause-stands : goal.returns-then-count-eq-MOST_COMMANDS-clause-stands
returns-then-count-eq-MOST_COMMANDS-clause-stands g c = λ (history : List Entry) (caller : ℕ) (stands : StandsFor c.args.self.now history).
    let old = c.args.self.now in
    let command = c.args.command.now in
    let decided : judged_after (commands_of old) command ≡ Ok c.in-Ok.after =
    sym {b = judged_after (commands_of old) command} c.judgement.ensures ∙ c.in-Ok.is in
    stands_still old history stands old.books old.counted (posting caller command (Refused Full)) refl refl refl
    (is_full (commands_after (opening_of old) history) command c.in-Ok.after
    (subst (λ cs. judged_after cs command ≡ Ok c.in-Ok.after) stands.listed decided)
    (sym (ap length stands.listed) ∙ sym c.count.ensures ∙ c.if-count-eq-MOST_COMMANDS.true))
    old.pins (stands.pins ∙ posted_pins history caller command (Refused Full) refl)
    (stands.floor ∙ posted_floor history caller command (Refused Full) refl)
    old.watchers (λ before heard told. told)

pub tell-requires : goal.tell-requires
tell-requires g c =
    let old = c.args.self.now in
    record {
      room = room_for_one old.outlet.ring (length (commands_of old)) old.books.kept.few
          (λ full. c.if-count-eq-MOST_COMMANDS.false (c.count.ensures ∙ full)) c.requires.stands.1.room;
    }

pub returns-in-Ok-record-clause-stands : goal.returns-in-Ok-record-clause-stands
returns-in-Ok-record-clause-stands g c = λ (history : List Entry) (caller : ℕ) (stands : StandsFor c.args.self.now history).
    let told : TellsOne c.args.self.now.outlet.ring c.tell.new.self.ring (g.D.Disk.clock (disk_of c.record.new.journal)) = search (rules) in
    stands_accepted c.args.self.now history stands c.args.command.now c.in-Ok.after c.record.new.journal c.record.result c.requires.valid
    (sym {b = judged_after (commands_of c.args.self.now) c.args.command.now} c.judgement.ensures ∙ c.in-Ok.is)
    c.record.ensures.disk.honesty (rw c.encode.ensures at c.record.ensures.records) c.keep.new.self _ c.count-position.result c.in-Ok-record.field-0
    c.keep.ensures.floor c.in-Ok-record.ensures.disk.quiet c.keep.ensures.commands (λ full. c.if-count-eq-MOST_COMMANDS.false (c.count.ensures ∙ full))
    c.in-Ok-record.is c.count-position.ensures c.note.new.self c.note.ensures.told c.tell.new.self told g.met.D.Disk.only_now caller

pub returns-in-Ok-record-clause-crash : goal.returns-in-Ok-record-clause-crash
returns-in-Ok-record-clause-crash g c = λ (history : List Entry) (stands : StandsFor c.args.self.now history).
    crash_accepted c.args.self.now history stands c.args.command.now c.in-Ok.after c.record.new.journal c.record.result c.requires.valid
    (sym {b = judged_after (commands_of c.args.self.now) c.args.command.now} c.judgement.ensures ∙ c.in-Ok.is)
    c.record.ensures.disk.honesty (rw c.encode.ensures at c.record.ensures.records) c.in-Ok-record.field-0 c.in-Ok-record.is c.count-position.result

pub returns-in-Err-record-clause-stands : goal.returns-in-Err-record-clause-stands
returns-in-Err-record-clause-stands g c = λ (history : List Entry) (caller : ℕ) (stands : StandsFor c.args.self.now history).
    stands_faulted c.args.self.now history stands c.args.command.now c.in-Ok.after c.record.new.journal c.record.result c.requires.valid
    (sym {b = judged_after (commands_of c.args.self.now) c.args.command.now} c.judgement.ensures ∙ c.in-Ok.is)
    c.record.ensures.disk.honesty (rw c.encode.ensures at c.record.ensures.records) _ c.in-Err-record.fault.count c.in-Err-record.fault
    (λ full. c.if-count-eq-MOST_COMMANDS.false (c.count.ensures ∙ full)) c.in-Err-record.ensures.disk.fault.0 c.record.ensures.disk.later
    c.in-Err-record.ensures.disk.fault.1 c.in-Err-record.is caller

pub returns-in-Err-record-clause-crash : goal.returns-in-Err-record-clause-crash
returns-in-Err-record-clause-crash g c = λ (history : List Entry) (stands : StandsFor c.args.self.now history).
    crash_faulted c.args.self.now history stands c.args.command.now c.in-Ok.after c.record.new.journal c.record.result c.requires.valid
    (sym {b = judged_after (commands_of c.args.self.now) c.args.command.now} c.judgement.ensures ∙ c.in-Ok.is)
    c.record.ensures.disk.honesty (rw c.encode.ensures at c.record.ensures.records) c.in-Err-record.fault.count

pub returns-in-Err-clause-crash : goal.returns-in-Err-clause-crash
returns-in-Err-clause-crash g c = λ (history : List Entry) (stands : StandsFor c.args.self.now history) honest.
    crash_refused c.args.self.now history c.args.command.now (RefusedAs c.in-Err.refusal) g.met.D.Disk.only_now stands honest (λ taken. taken)

pub returns-then-count-eq-MOST_COMMANDS-clause-crash : goal.returns-then-count-eq-MOST_COMMANDS-clause-crash
returns-then-count-eq-MOST_COMMANDS-clause-crash g c = λ (history : List Entry) (stands : StandsFor c.args.self.now history) honest.
    crash_refused c.args.self.now history c.args.command.now (RefusedAs Full) g.met.D.Disk.only_now stands honest (λ taken. taken)
