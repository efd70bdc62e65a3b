-- A command that follows, for which memory lacks, is that of this record.
use Rattle.std.proofs.Common.{sym, subst, ◌∙◌}
use Rattle.journal_replay.specs.Keeping.{AreKept, IsUnkept}
use Rattle.journal_replay.proofs.ReplaySteps.{wants_here}
use Rattle.journal_replay.proofs.replaying.replay_record.Goals as goal

pub returns-in-Err-NoMemory-clause-replayed : goal.returns-in-Err-NoMemory-clause-replayed
returns-in-Err-NoMemory-clause-replayed g c = λ commands stands counted.
    wants_here c.args.journal.now commands (AreKept g.K.Keeper.stands) g.K.Keeper.follows _ c.args.n c.in-Some.command (c.args.keeper.now, stands) counted
    c.requires.within c.in-Some.ensures.some.valid (subst (IsUnkept g.K.Keeper.follows commands c.in-Some.command) c.in-Err-NoMemory.field-0-is (c.in-Err-NoMemory.ensures.kept commands stands counted))
    (λ bodies last honest is. sym (c.in-Ok.ensures.reads.nth bodies last honest is) ∙ c.in-Some.ensures.some.spelled)
