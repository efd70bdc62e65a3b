-- The records so far are replayed, and the piece is one of the journal.
use Rattle.std.proofs.Common.{◌≡◌, ◌+◌, ◌-◌, ◌≤◌, List, length}
use Rattle.policy_types.specs.declared.command.Command.{Command}
use Rattle.posting_journal.specs.Pieces.{IsPartOf}
use Rattle.posting_journal.specs.States.{disk_of}
use Rattle.journal_replay.specs.Replays.{IsQuiet, Replays, StaysAs}
use Rattle.journal_replay.proofs.replaying.replay.Given as goal

abbrev pub invariant-loop-n : goal.invariant-loop-n
invariant-loop-n g l = record {
  begun : l.from ≤ l.n;
  stays : StaysAs l.fn.journal l.journal;
  quiet : IsQuiet l.fn.journal (disk_of l.journal);
  mark : g.K.Keeper.mark l.keeper ≡ g.K.Keeper.mark l.fn.keeper;
  takes : g.K.Keeper.takes l.keeper l.n;
  part : g.D.Disk.honest (disk_of l.journal) → IsPartOf l.piece (g.D.Disk.reads (disk_of l.journal));
  counted : l.steps ≡ l.fn.steps + (l.n - l.from);
  replayed : (commands : List Command) → g.K.Keeper.stands l.fn.keeper commands → length commands ≡ l.from
      → Replays (g.K.Keeper.stands l.keeper) l.fn.journal (disk_of l.journal) l.n commands;
}
