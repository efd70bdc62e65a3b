-- The lower and the upper bound of the reserve by the gross premium, each by a name of its own.
use Rattle.std.proofs.Common.{ℕ, ◌-◌, ◌*◌}
use Rattle.deficiency_reserve.specs.Names.{Cover, UNIT, down, up, ben_bound, ann_bound}

abbrev pub gross_lo : Cover → ℕ → ℕ → ℕ → ℕ
gross_lo c amount premium t = down (amount * ben_bound down c t - premium * ann_bound up c t) UNIT

abbrev pub gross_hi : Cover → ℕ → ℕ → ℕ → ℕ
gross_hi c amount premium t = up (amount * ben_bound up c t - premium * ann_bound down c t) UNIT
