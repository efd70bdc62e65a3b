-- The fields of a record, and the command that has them
use Rattle.std.specs.Prelude.{ℕ, ℤ, pos, ◌==◌, ◌<◌, ◌^◌, if◌then◌else◌, FitsSigned, List, Option, Some, None, option_map}
use Rattle.record_codec.specs.Names.{w32, Command, Issue, Premium, Alter, Lapse, Reinstate, Claim, Settle, Mature, PaidUp, Upgrade}
use Rattle.record_codec.specs.Spelling.{plan_byte, plan_of_byte, body_of}
use Rattle.record_codec.specs.declared.fields.RecordFields.{RecordFields}

-- the fields of every kind but the first
abbrev pub short_fields : (kind id : ℕ) (day : ℤ) (amount premium : ℕ) → RecordFields
short_fields kind id day amount premium = record {
  kind = kind;
  plan = 0;
  age = 0;
  years = 0;
  id = id;
  day = day;
  amount = amount;
  premium = premium;
}

-- the fields of a command, each 0 where its kind has none
abbrev pub fields_of : Command → RecordFields
fields_of (Issue id day plan age years amount premium) = record {
  kind = 1;
  plan = plan_byte plan;
  age = age;
  years = years;
  id = id;
  day = day;
  amount = amount;
  premium = premium;
}
fields_of (Premium id day amount) = short_fields 2 id day amount 0
fields_of (Alter id day amount premium) = short_fields 3 id day amount premium
fields_of (Lapse id day) = short_fields 4 id day 0 0
fields_of (Reinstate id day amount) = short_fields 5 id day amount 0
fields_of (Claim id day) = short_fields 6 id day 0 0
fields_of (Settle id day amount) = short_fields 7 id day amount 0
fields_of (Mature id day) = short_fields 8 id day 0 0
fields_of Upgrade = short_fields 9 0 (pos 0) 0 0
fields_of (PaidUp id day amount) = short_fields 10 id day amount 0

-- their body
abbrev pub bytes_of : RecordFields → List ℕ
bytes_of f = body_of f.kind f.plan f.age f.years f.id f.day f.amount f.premium

-- the numbers fit their bytes
pub record AreInRange (f : RecordFields) : Type 0 where
  pub id_in : f.id < 2 ^ 32
  pub day_in : FitsSigned w32 f.day
  pub amount_in : f.amount < 2 ^ 64
  pub premium_in : f.premium < 2 ^ 64

-- the command of which these may be the fields
abbrev pub command_at : RecordFields → Option Command
command_at f =
    if f.kind == 1 then option_map (λ plan. Issue f.id f.day plan f.age f.years f.amount f.premium) (plan_of_byte f.plan)
    else if f.kind == 2 then Some (Premium f.id f.day f.amount)
    else if f.kind == 3 then Some (Alter f.id f.day f.amount f.premium)
    else if f.kind == 4 then Some (Lapse f.id f.day)
    else if f.kind == 5 then Some (Reinstate f.id f.day f.amount)
    else if f.kind == 6 then Some (Claim f.id f.day)
    else if f.kind == 7 then Some (Settle f.id f.day f.amount)
    else if f.kind == 8 then Some (Mature f.id f.day)
    else if f.kind == 9 then Some Upgrade
    else if f.kind == 10 then Some (PaidUp f.id f.day f.amount) else None
