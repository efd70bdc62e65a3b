use Rattle.std.proofs.Common.{refl}
use Rattle.basis_book.proofs.Ascii.{IsUtf8-from_name}
use Rattle.basis_book.proofs.name.Name.of.Goals as goal

pub unreachable-requires : goal.unreachable-requires
unreachable-requires c = c.in_default.ensures.cases.0 (IsUtf8-from_name c.args.bytes.now (c.if-not-is_name.ensures.0 refl))
