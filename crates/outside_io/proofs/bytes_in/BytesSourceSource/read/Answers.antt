-- What was copied is the prefix of what was left.
use Rattle.outside_io.proofs.StreamLemmas.{read_front, given_front}
use Rattle.outside_io.proofs.bytes_in.BytesSourceSource.read.Goals as goal

pub returns-clause-bytes : goal.returns-clause-bytes
returns-clause-bytes c =
    let source = c.args.self.now in
    read_front source.bytes.items c.deref.result.now c.copy_front-n.new.to source.taken c.copy_front-n.result
    c.deref.ensures.value c.copy_front-n.ensures.many c.copy_front-n.ensures.front

pub returns-clause-given : goal.returns-clause-given
returns-clause-given c =
    let source = c.args.self.now in
    given_front source.bytes.items c.deref.result.now c.copy_front-n.new.to source.taken c.copy_front-n.result c.deref.ensures.value c.copy_front-n.ensures.front
