-- One more record after those that were replayed, and what is known if its command isn't kept
use Rattle.std.proofs.Common.{◌≡◌, ℕ, ◌+◌, ◌<◌, ◌≤◌, List, [], ◌∷◌, ◌++◌, length, take, get_or, slice_index_or, refl, ap, sym, ◌∙◌, arith}
use Rattle.std.proofs.Math.Seq.{take-length}
use Rattle.std.proofs.lemmas.List.{take_more, length_push, map-append}
use Rattle.outside_io.specs.declared.disks.Disk.{Ghosts}
use Rattle.policy_types.specs.declared.command.Command.{Command}
use Rattle.policy_types.specs.Valid.{IsValid}
use Rattle.posting_journal.specs.States.{StandsFor, count_of, disk_of}
use Rattle.posting_journal.specs.declared.journal.Journal.{Journal}
use Rattle.record_codec.specs.Spelling.{spelling_of}
use Rattle.journal_replay.specs.declared.replaying.ReplayFault.{ReplayFault}
use Rattle.journal_replay.specs.declared.replaying.ReplayFault.TheVariants.{DiskFault, BadRecord, NoMemory}
use Rattle.journal_replay.specs.Replays.{BodiesBehind, IsKeptAndOne, IsWanting, Replays, StaysAs, Stops, bodies_of}

module _ {D : Type 0} {g : Ghosts D} (start : Journal D g) (commands : List Command) where
  -- nothing is replayed yet
  pub replays_none : (Kept : List Command → Type 0) (now : D) (n : ℕ) → Kept commands → length commands ≡ n
      → Replays Kept start now n commands
  replays_none Kept now n kept counted = record {
    later = commands;
    kept = kept;
    counted = counted;
    front = λ bodies last honest is same. ap (λ m. take m bodies) (sym counted) ∙ same;
  }

  -- one record is replayed
  pub replays_one : (Kept : List Command → Type 0) (now : D) (n : ℕ) (command : Command) → length commands ≡ n
      → n < count_of start → Kept (commands ++ command ∷ [])
      → ((bodies : List (List ℕ)) (last : List ℕ) → g.honest now → StandsFor start bodies last
      → slice_index_or bodies n [] ≡ spelling_of command)
      → Replays Kept start now (n + 1) commands
  replays_one Kept now n command counted within kept spelled = record {
    later = commands ++ command ∷ [];
    kept = kept;
    counted = omega (arith, length_push commands command, counted);
    front = λ bodies last honest is same.
        let inside : n < length bodies = omega (arith, within, is.count) in
        take_more bodies n [] inside
        ∙ ap (λ front. front ++ get_or bodies n [] ∷ []) (ap (λ m. take m bodies) (sym counted) ∙ same)
        ∙ ap (λ body. bodies_of commands ++ body ∷ []) (spelled bodies last honest is)
        ∙ sym (map-append spelling_of commands (command ∷ []));
  }

  module _ (Kept : List Command → Type 0) (Follows : List Command → Command → Type 0) where
    -- it isn't replayed, because of what its body spells
    pub stops_here : (now : D) (n : ℕ) → Kept commands → length commands ≡ n → n < count_of start
        → ((bodies : List (List ℕ)) (last : List ℕ) → g.honest now → StandsFor start bodies last → (command : Command)
        → slice_index_or bodies n [] ≡ spelling_of command → IsValid command → Follows commands command → ⊥)
        → Stops Kept Follows start now commands (BadRecord n)
    stops_here now n kept counted within none = (
      omega (arith, counted),
      λ bodies last honest is same. record {
        commands = commands;
        kept = kept;
        counted = counted;
        within = omega (arith, within, is.count);
        front = ap (λ m. take m bodies) (sym counted) ∙ same;
        none = none bodies last honest is;
      },
    )

    -- it would be replayed, unless memory is refused
    pub wants_here : (now : D) (n : ℕ) (command : Command) → Kept commands → length commands ≡ n → n < count_of start
        → IsValid command → Follows commands command
        → ((bodies : List (List ℕ)) (last : List ℕ) → g.honest now → StandsFor start bodies last
        → slice_index_or bodies n [] ≡ spelling_of command)
        → IsWanting Kept Follows start now commands
    wants_here now n command kept counted within valid follows spelled = record {
      n = n + 1;
      behind = omega (arith, counted);
      replays = replays_one (IsKeptAndOne Kept Follows) now n command counted within
          (record { before = commands; last = command; same = refl; kept = kept; valid = valid; follows = follows }) spelled;
    }

  module _ (Between : List Command → Type 0) (mid : Journal D g) (stays : StaysAs start mid) (n : ℕ)
      (so_far : Replays Between start (disk_of mid) n commands) (now : D) (honesty : g.honest now → g.honest (disk_of mid)) where
    same_later : (bodies : List (List ℕ)) (last : List ℕ) → g.honest now → StandsFor start bodies last
        → take (length commands) bodies ≡ bodies_of commands → take (length so_far.later) bodies ≡ bodies_of so_far.later
    same_later bodies last honest is same =
        ap (λ m. take m bodies) so_far.counted ∙ so_far.front bodies last (honesty honest) is same

    -- what is replayed after the records so far is replayed after the first
    pub replays_on : (Kept : List Command → Type 0) (m : ℕ) → Replays Kept mid now m so_far.later → Replays Kept start now m commands
    replays_on Kept m more = record {
      later = more.later;
      kept = more.kept;
      counted = more.counted;
      front = λ bodies last honest is same.
          more.front bodies last honest (stays.stands bodies last (honesty honest) is) (same_later bodies last honest is same);
    }

    pub stops_later : (Kept : List Command → Type 0) (Follows : List Command → Command → Type 0) (fault : ReplayFault)
        → length commands ≤ n → Stops Kept Follows mid now so_far.later fault → Stops Kept Follows start now commands fault
    stops_later Kept Follows (DiskFault count) from stops = tt
    stops_later Kept Follows (BadRecord m) from stops = (
      omega (arith, from, so_far.counted, stops.0),
      λ bodies last honest is same.
          stops.1 bodies last honest (stays.stands bodies last (honesty honest) is) (same_later bodies last honest is same),
    )
    stops_later Kept Follows (NoMemory lack) from wants = record {
      n = wants.n;
      behind = omega (arith, from, so_far.counted, wants.behind);
      replays = replays_on (IsKeptAndOne Kept Follows) wants.n wants.replays;
    }

-- with every record replayed the bodies are those of the commands
pub all_replayed : {D : Type 0} {g : Ghosts D} (Kept : List Command → Type 0) (journal : Journal D g) (now : D) (commands : List Command)
    (all : Replays Kept journal now (count_of journal) commands)
    → BodiesBehind journal now commands (λ bodies. bodies ≡ bodies_of all.later)
all_replayed Kept journal now commands all bodies last honest is same =
    sym (take-length bodies) ∙ ap (λ n. take n bodies) (sym is.count) ∙ all.front bodies last honest is same

-- what stops a replay stops it for what is kept more widely
pub Stops-wider : {D : Type 0} {g : Ghosts D} (Kept Wider : List Command → Type 0) (Follows : List Command → Command → Type 0)
    → ((commands : List Command) → Kept commands → Wider commands)
    → (journal : Journal D g) (now : D) (commands : List Command) (fault : ReplayFault)
    → Stops Kept Follows journal now commands fault → Stops Wider Follows journal now commands fault
Stops-wider Kept Wider Follows widen journal now commands (DiskFault count) stops = tt
Stops-wider Kept Wider Follows widen journal now commands (BadRecord n) stops = (
  stops.0,
  λ bodies last honest is same.
      let at = stops.1 bodies last honest is same in
      record {
        commands = at.commands;
        kept = widen at.commands at.kept;
        counted = at.counted;
        within = at.within;
        front = at.front;
        none = at.none;
      },
)
Stops-wider Kept Wider Follows widen journal now commands (NoMemory lack) wants =
    let all = wants.replays in
    let more = all.kept in
    record {
      n = wants.n;
      behind = wants.behind;
      replays = record {
        later = all.later;
        kept = record { before = more.before; last = more.last; same = more.same; kept = widen more.before more.kept; valid = more.valid; follows = more.follows };
        counted = all.counted;
        front = all.front;
      };
    }
