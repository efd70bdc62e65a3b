-- What it means to read a source to its end.
use Rattle.std.specs.Prelude.{◌≡◌, ℕ, ◌<◌, ◌≤◌, Option, List, ◌++◌, length, vec_len, Result, Vec, IfOk, OnOk, IfSome, IsErrOf}
use Rattle.memory_requests.specs.Evidence.{a_refusal}
use Rattle.std.specs.Io.KnownBytes.{IsAtEnd}
use Rattle.std.specs.declared.alloc.Global.{Global}
use Rattle.outside_io.specs.Faults.{Rose}
use Rattle.outside_io.specs.Streams.{StillTells, LosesFront, GivesFront, GivesMore}
use Rattle.outside_io.specs.declared.failures.ReadAllFault.{ReadAllFault}
use Rattle.outside_io.specs.declared.failures.ReadAllFault.TheVariants as cause

-- A source between two moments, by what it reports: its count of faults, what it has left, what it gave, and whether
-- a read saw its end.
pub record ReadsSource {S : Type 0} (faults : S → ℕ) (left : S → Option (List ℕ)) (given : S → List ℕ) (Ended : S → Type 0)
    (limit : ℕ) (old new : S) (result : Result (Vec ℕ Global) ReadAllFault) : Type 0 where
  -- on success the bytes are those that the source gave up to its end, and no more than the limit
  pub all_given : IfOk result (λ bytes. given new ≡ given old ++ bytes.items)
  pub ended : OnOk result (Ended new)
  pub within : IfOk result (λ bytes. vec_len bytes ≤ limit)
  -- and they are exactly those that were left, if the source reports what is left
  pub whole : IfOk result (λ bytes. IfSome (left old) (λ told. bytes.items ≡ told))
  pub end : OnOk result (IsAtEnd (left new))
  -- the source is called too long only if more was given, and had been left
  pub more_given : IsErrOf result cause.TooLong → GivesMore limit (given old) (given new)
  pub too_long : IsErrOf result cause.TooLong → IfSome (left old) (λ told. limit < length told)
  -- the read fails only if the source did
  pub fault : IsErrOf result cause.ReadFault → Rose (faults old) (faults new)
  pub counted : faults old < faults new → IsErrOf result cause.ReadFault
  pub later : faults old ≤ faults new
  -- memory is asked for only if there are bytes
  pub memory : IsErrOf result (cause.NoMemory a_refusal) → GivesMore 0 (given old) (given new)
  -- whatever came of the read, what was given is a prefix of what was left
  pub front : GivesFront (given old) (given new) (left old) (left new)
  pub rest : LosesFront (left old) (left new)
  pub tells : StillTells (left old) (left new)
