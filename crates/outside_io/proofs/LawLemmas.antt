-- What follows for a whole record from one answer in it.
use Rattle.std.proofs.Common.{List, [], ◌∷◌, ◌++◌}
use Rattle.outside_io.specs.Shelves.{Files, Answer, Agrees}

-- Files that agree with all answers agree with the earlier ones.
pub agrees_before : (between earlier : List Answer) (files : Files) → Agrees (between ++ earlier) files → Agrees earlier files
agrees_before [] earlier files agrees = agrees
agrees_before (answer ∷ between) earlier files agrees = agrees_before between earlier files (agrees.0)
