use Rattle.std.proofs.Common.{arith, refl}
use Rattle.std.proofs.lemmas.List.{drop-set, drop_all}
use Rattle.text_lines.proofs.line_end.LineEnd.begin.Goals as goal

pub returns : goal.returns
returns c = rw (drop-set c.self.inside.bytes 255 10 (omega arith), drop_all 256 c.self.inside.bytes (omega (arith, c.self.told))) refl
