-- The names that several modules of worked cases cite, passed on from one place. Declares nothing.
pub use Rattle.policy_machine.specs.Book.{book, judge, upgrade_of}
pub use Rattle.policy_machine.specs.History.{IsDue, IsLegalAfter, IsOpening, Opening, opened_on, refusal_due}
pub use Rattle.policy_machine.specs.Names.{Accepted, Ahead, Alter, BeforeLast, Blank, Call, Claim, Claimed, Command, Endowment, Entry, Expired, Faulted, Floor, Full, GraceOver, InForce, IsPaidUp, Issue, Lane, Lapse, Lapsed, Limited, Mature, Matured, NotAReduction, NotInArrears, NotMatured, NotUpgraded, NothingDue, Now, OverSettled, PaidUp, Pin, PinAt, PinRefused, Pinned, PinsFull, Policies, Policy, Position, Post, Premium, Read, Refusal, Refused, Reinstate, Reply, Settle, Settled, Status, Taken, Term, TermOver, TooLate, Trim, TrimCall, Trimmed, Unknown, Unpin, Unpinned, Upgrade, Upgraded, Whole, WrongAmount, WrongStatus, range_with_len, repeat}
pub use Rattle.policy_machine.specs.Rules.{issued}
