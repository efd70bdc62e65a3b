-- A script's run is answered legally: this follows from what is promised of it
use Rattle.std.proofs.Common.{◌≡◌, ◌⊎◌, inl, inr, ℕ, List, [], ◌++◌, refl, sym, append-nil, subst, arith, take, drop}
use Rattle.std.proofs.lemmas.List.{take-append-drop}
use Rattle.std.specs.Prelude.{ℤ}
use Rattle.std.specs.Io.KnownBytes.{Appends}
use Rattle.life_app.specs.Names.{Ghosts, Command, Entry, Lane, Reply, Dated, Auditor, Stream, Ending, Done, DiskFault, WriteFault, NoMemory, Usage, BadScript, BadBasis, BadJournal, ReadFault, Ahead, IsToldLine, PostLine, WroteAsEnded, accepted_of, reports_of, run_wording, status_of, Policy, Row}
use Rattle.life_app.specs.Given.{Reserves}
use Rattle.life_app.specs.Headline.{IsEnclosingRow, IsPromised}
use Rattle.life_app.specs.Legality.{GivesReply, IsLegallyAnswered}
use Rattle.life_app.proofs.HeadlineLaws.{each_pair}
use Rattle.policy_types.specs.declared.script.Line.{Line}
use Rattle.script_run.specs.Names.{concat}
use Rattle.transcript_text.specs.Transcript.{IsToldText}

-- the text of a line that posts is by its reply
gives_reply : (IsRow : ℤ → Policy → Row → Type 0) (clerk : ℕ) (line : Line) (command : Command) (reply : Reply)
    (commands : List Command) (IsDry : Type 0) (text : List ℕ) → line ≡ PostLine command
    → IsToldText run_wording IsRow clerk line reply commands IsDry text → text ≡ run_wording.posting clerk command reply
gives_reply IsRow clerk line command reply commands IsDry text posts told =
    subst (λ (l : Line). IsToldText run_wording IsRow clerk l reply commands IsDry text) posts told

-- a prefix of the texts was written, and all of them if the status says so
abbrev WrotePrefix : Stream → List ℕ → ℕ → Type 0
WrotePrefix output texts status = (written rest : List ℕ) × (written ++ rest ≡ texts) × Appends output.before output.after written
    × ((status ≡ 0) ⊎ (status ≡ 8) → rest ≡ [])

all_of : (output : Stream) (texts : List ℕ) (status : ℕ) → Appends output.before output.after texts → WrotePrefix output texts status
all_of output texts status all = (texts, [], append-nil texts, all, λ whole. refl)

wrote_prefix : {D : Type 0} (g : Ghosts D) (old new : D) (history : List Entry) (dry : List ℕ) (texts : List (List ℕ)) (reports : List ℕ)
    (output : Stream) (ending : Ending) → WroteAsEnded g old new history dry texts reports output ending
    → WrotePrefix output (concat texts ++ reports) (status_of ending)
wrote_prefix g old new history dry texts reports output Done wrote = all_of output _ 0 wrote.0
wrote_prefix g old new history dry texts reports output DiskFault wrote = all_of output _ 8 wrote.0
wrote_prefix g old new history dry texts reports output WriteFault wrote =
    let part = wrote.1 in (
      take part.taken (concat texts ++ reports),
      drop part.taken (concat texts ++ reports),
      take-append-drop part.taken (concat texts ++ reports),
      part.written,
      λ whole. absurd (elim whole [
        | inl done ↦ omega (arith, done)
        | inr fault ↦ omega (arith, fault)
      ]),
    )
wrote_prefix g old new history dry texts reports output (NoMemory lack) (inl wrote) = all_of output _ 9 wrote.0
wrote_prefix g old new history dry texts reports output (NoMemory lack) (inr wrote) =
    let part = wrote.1 in (
      take part.taken (concat texts ++ reports),
      drop part.taken (concat texts ++ reports),
      take-append-drop part.taken (concat texts ++ reports),
      part.written,
      λ whole. absurd (elim whole [
        | inl done ↦ omega (arith, done)
        | inr fault ↦ omega (arith, fault)
      ]),
    )
wrote_prefix g old new history dry texts reports output Usage wrote = absurd wrote
wrote_prefix g old new history dry texts reports output BadScript wrote = absurd wrote
wrote_prefix g old new history dry texts reports output BadBasis wrote = absurd wrote
wrote_prefix g old new history dry texts reports output BadJournal wrote = absurd wrote
wrote_prefix g old new history dry texts reports output ReadFault wrote = absurd wrote
wrote_prefix g old new history dry texts reports output Ahead wrote = absurd wrote

pub legally_answered : {D : Type 0} (g : Ghosts D) (Opens : List ℕ → List Command → Type 0) (reserves : Reserves) (old new : D)
    (lanes : List Lane) (basis : List Dated) (auditors : List Auditor) (output : Stream) (status : ℕ)
    → IsPromised g Opens run_wording reserves old new lanes basis auditors output status
    → IsLegallyAnswered g Opens old new lanes output status
legally_answered g Opens reserves old new lanes basis auditors output status is =
    let reports = run_wording.reports (reports_of auditors (accepted_of is.history)) in
    let wrote = subst (λ (s : ℕ). WrotePrefix output (concat is.texts ++ reports) s) (sym is.exits)
    (wrote_prefix g old new is.history is.dry is.texts reports output is.ending is.wrote) in
    record {
      commands = is.commands;
      history = is.history;
      opened = is.opened;
      legal = is.legal;
      callers = is.callers;
      dry = is.dry;
      lines = is.lines;
      distinct = is.distinct;
      theirs = is.theirs;
      answered = is.answered;
      texts = is.texts;
      replies = each_pair (IsToldLine run_wording (IsEnclosingRow reserves basis) is.commands is.history is.dry) GivesReply
          (λ line text told command posts. gives_reply (IsEnclosingRow reserves basis) line.clerk line.line command line.first.1.reply
          _ _ text posts told) is.lines is.texts is.told;
      reports = reports;
      written = wrote.0;
      rest = wrote.1;
      prefix = wrote.2;
      appended = wrote.3;
      whole = wrote.4;
    }
