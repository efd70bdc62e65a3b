-- The bytes that were read are the file's first.
use Rattle.std.proofs.Common.{sym, refl}
use Rattle.posting_journal.proofs.Opened.{read_front}
use Rattle.posting_journal.proofs.opening.kind_of.Goals as goal

pub returns-clause-kind : goal.returns-clause-kind
returns-clause-kind g c = λ honest.
    let bytes = g.D.Disk.reads c.args.disk.now in
    let told = c.requires (c.read.ensures.honesty honest) in
    c.judge.ensures.kind bytes (sym told) (read_front bytes _ c.read.new.buf c.args.size c.min-many.result refl c.min-many.ensures told (c.in_ok-read.ensures.bytes honest))
