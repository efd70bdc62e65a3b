use Rattle.outside_io.proofs.FileSteps.{syncs}
use Rattle.outside_io.proofs.file_disk.FileDiskDisk.sync.Goals as goal

pub returns-clause-facts : goal.returns-clause-facts
returns-clause-facts g c =
    syncs g.F.FoundFile.bytes g.F.FoundFile.torn g.F.FoundFile.unsynced c.sync.result c.args.self.now.file.calls c.sync.new.self.calls c.sync.ensures.noted
    c.args.self.now.within c.sync.ensures.unfailed
