use Rattle.transcript_text.proofs.Names.{◌<◌, length, told_text}
use Rattle.transcript_text.proofs.WritableSteps.{at_error, some_told, tellable_writable}
use Rattle.transcript_text.proofs.lines.ScriptWordsWording.words.Goals as goal

pub line_text-requires : goal.line_text-requires
line_text-requires c = tellable_writable c.args.told.now c.requires.tellable

pub returns-in_err-line_text-clause-some : goal.returns-in_err-line_text-clause-some
returns-in_err-line_text-clause-some c =
    at_error (0 < length (told_text c.args.told.now)) c.from_residual.result (some_told c.args.told.now c.requires.tellable)
