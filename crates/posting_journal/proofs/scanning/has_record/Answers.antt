-- A record whose gate is closed isn't one.
use Rattle.posting_journal.proofs.Names.{ap, ◌∙◌, slice_index, false≢true, gate_place}
use Rattle.posting_journal.proofs.scanning.has_record.Goals as goal

pub returns-then-gate-ne-OPEN-clause-stands : goal.returns-then-gate-ne-OPEN-clause-stands
returns-then-gate-ne-OPEN-clause-stands g c = λ no. absurd (false≢true no)

pub returns-then-gate-ne-OPEN-clause-gate : goal.returns-then-gate-ne-OPEN-clause-gate
returns-then-gate-ne-OPEN-clause-gate g c = λ honest.
    let read = c.gate.ensures (g.D.Disk.reads c.turn_to.new.disk) (c.turn_to.ensures.part honest) in
    let same = ap (λ file. slice_index file (gate_place c.args.n)) (c.turn_to.ensures.unwritten honest).reads in (
      λ no. absurd (false≢true no),
      λ one. absurd (c.if-gate-ne-OPEN.true (read ∙ same ∙ one)),
    )
