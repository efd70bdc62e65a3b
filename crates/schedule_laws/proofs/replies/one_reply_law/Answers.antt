use Rattle.schedule_laws.proofs.Names.{sym, ◌∙◌, commands_after, refusal_due}
use Rattle.schedule_laws.proofs.OneReply.{one_reply, one_refusal, no_refusal}
use Rattle.schedule_laws.proofs.replies.one_reply_law.Goals as goal

pub returns-clause-reply : goal.returns-clause-reply
returns-clause-reply c = one_reply

pub returns-clause-position : goal.returns-clause-position
returns-clause-position c = λ opening before caller command one other due due_too. due.1 ∙ sym due_too.1

pub returns-clause-refusal : goal.returns-clause-refusal
returns-clause-refusal c = λ opening before caller command one other due due_too.
    one_refusal (refusal_due (commands_after opening before) command) one other due due_too

pub returns-clause-refused : goal.returns-clause-refused
returns-clause-refused c = λ opening before caller command refusal n due. (
  λ accepted. no_refusal (refusal_due (commands_after opening before) command) refusal due accepted.0,
  λ faulted. no_refusal (refusal_due (commands_after opening before) command) refusal due faulted.0,
)
