use Rattle.schedule_laws.proofs.OneReply.{some_reply}
use Rattle.schedule_laws.proofs.replies.some_reply_law.Goals as goal

pub returns : goal.returns
returns c = some_reply
