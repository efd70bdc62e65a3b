-- What a reader does on its way through the checks, each a part of one of them.
use Rattle.std.specs.Prelude.{ℕ, ◌+◌, Bool, true, false, not, ◌&&◌, ◌==◌, nat_le, nat_lt, List, reverse, Option, Some, Result, codes, is_none, slice_get}
use Rattle.std.specs.List.{list_any}
use Rattle.std.specs.Option.{option_map_or}
use Rattle.xtbml_subset.specs.Names.{Rates, last_age_of}
use Rattle.xtbml_subset.specs.declared.class.Class.TheVariants.{White}
use Rattle.xtbml_subset.specs.declared.period.Attained.{Attained}
use Rattle.xtbml_subset.specs.Classes.{after}
use Rattle.xtbml_subset.specs.Texts.{◌>>=◌}
use Rattle.xtbml_subset.specs.declared.fault.TableFault.{TableFault}
use Rattle.xtbml_subset.specs.Checks.{RateElement, Asks, in_first, short_number, ReadsAge, ReadsRated}
use Rattle.xtbml_subset.specs.SelectChecks.{Issue, ReadsPeriod}

-- without white space at the end
abbrev pub without_end : List ℕ → List ℕ
without_end bytes = reverse (after White (reverse bytes))

-- the age that is due is the age before plus one, and none is due at first
abbrev pub is_due : Option ℕ → ℕ → Bool
is_due due age = option_map_or (λ next. age == next) due true

-- a row is read as its rate, or is refused for its age or for its rate
abbrev pub ReadsRow : Option ℕ → RateElement → Result (Option ℕ × ℕ) TableFault → Type 0
ReadsRow due row read = ReadsAge row.at row.label due (λ age rate. ReadsRated row (Some (age + 1)) rate) read

-- an issue age is read, or is refused for its age or for its rates
abbrev pub ReadsIssue : Option ℕ → Issue → Result (Option ℕ × List ℕ) TableFault → Type 0
ReadsIssue due issue read = ReadsAge issue.at issue.label due (λ age rows. ReadsPeriod issue.at age issue.rates rows) read

-- the `Y` of the first axis of the first values of the first of some tables
unfoldable pub ultimate_of : {N : Type 0} → Asks N → List N → List N
ultimate_of asks tables =
    in_first asks (codes "Y") (in_first asks (codes "Axis") (in_first asks (codes "Values") tables))

-- a content that is only white space, or nothing
abbrev pub is_blank : Option (List ℕ) → Bool
is_blank text = option_map_or (λ bytes. is_none (slice_get (after White bytes) 0)) text false

-- a row that isn't blank is among these
abbrev pub has_filled : List RateElement → Bool
has_filled rows = list_any (λ one. not (is_blank one.text)) rows

-- the duration that a label spells
abbrev pub duration_of : Option (List ℕ) → Option ℕ
duration_of label = label >>= λ text. short_number text

-- the first duration is 0 or 1, each other is the one before plus one
abbrev pub follows : Option ℕ → ℕ → Bool
follows due duration = option_map_or (λ next. duration == next) due (nat_le duration 1)

-- a duration that follows, at an age of at most 130
abbrev pub is_duration : Attained → ℕ → Bool
is_duration due duration = follows due.duration duration && nat_le due.age 130

-- the ultimate table goes on from this age, which lies directly after a select period, but begins above it
abbrev pub leaves_gap : Rates → ℕ → Bool
leaves_gap ultimate age = nat_le age (last_age_of ultimate) && nat_lt age ultimate.first_age
