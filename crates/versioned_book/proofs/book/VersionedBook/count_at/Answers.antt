use Rattle.std.proofs.Common.{nat_le, length, filter, ◌∙◌, sym, ap, arith}
use Rattle.versioned_book.proofs.Looking.{until_few}
use Rattle.versioned_book.proofs.book.VersionedBook.count_at.Goals as goal

pub overflow_cast-result : goal.overflow_cast-result
overflow_cast-result g c =
    let s = c.requires in
    omega (
      arith,
      c.many_until.ensures,
      ap (λ l. length (filter (λ q. nat_le q c.args.p) l)) c.as_slice.ensures.value,
      until_few c.args.p 0 c.args.self.now.firsts.items c.args.self.now.last s.1.firsts (omega arith),
      c.ranges.p,
    )

pub returns : goal.returns
returns g c sets h =
    c.many_until.ensures ∙ ap (λ l. length (filter (λ q. nat_le q c.args.p) l)) c.as_slice.ensures.value ∙ sym (h.counts c.args.p)
