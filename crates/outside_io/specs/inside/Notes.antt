-- What an adapter noted of a call, as it is kept.
use Rattle.std.specs.Prelude.{ℕ, List, Some, None, slice_index, ◌==◌, if◌then◌else◌}
use Rattle.outside_io.specs.Streams.{StreamPiece}
use Rattle.outside_io.specs.FileCalls.{FileCall, Measured, ReadFrom, WrittenTo, Synced}
use Rattle.outside_io.specs.Shelves.{Answer, Told, Found, Absent, TooLong}

-- numbers, a name, and bytes
pub record Note : Type 0 where
  pub numbers : List ℕ
  pub name : List ℕ
  pub bytes : List ℕ

-- the piece that a note stands for
abbrev pub stream_piece_of : Note → StreamPiece
stream_piece_of note = record { room = slice_index note.numbers 0; bytes = note.bytes }

-- what is reported, by a number
abbrev pub told_of : ℕ → List ℕ → Told
told_of kind bytes = if kind == 0 then Absent else (if kind == 1 then TooLong else Found bytes)

-- the answer that a note stands for
abbrev pub answer_of : Note → Answer
answer_of note = record { name = note.name; told = told_of (slice_index note.numbers 0) note.bytes }

-- The call of a file that a note stands for. The numbers are its kind, 1 if it was done, and what it was asked or
-- answered.
abbrev pub file_call_of : Note → FileCall
file_call_of note =
    let kind = slice_index note.numbers 0 in
    let done = slice_index note.numbers 1 == 1 in
    let number = slice_index note.numbers 2 in
    let many = slice_index note.numbers 3 in
    if kind == 0 then Measured (if done then Some number else None)
    else (if kind == 1 then ReadFrom number many (if done then Some note.bytes else None)
    else (if kind == 2 then WrittenTo number note.bytes done else Synced done))
