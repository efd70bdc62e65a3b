-- What a closed table has for the pass with all shares.
use Rattle.turn_lock.proofs.Names.{◌≡◌, ℕ, List, sym, ap, ◌∙◌, subst, Option, Some, None, some, some-injective, get_elem?, Final, Seen, Entry, Holding, OwnsAll, Kept, View, LockRule, IsPass, holding}
use Rattle.atomic_table.specs.declared.shared.Seat.{Seat}
use Rattle.turn_lock.proofs.Dividing.{closes}

module _ {T O : Type 0} (opens : T → O) (legal : O → List Entry → Type 0) (stands : T → List Entry → Type 0) (opening : O) where
  -- what was in the slot, for the pass at the end
  pub record Ended (pass : Holding O) (found : Option (Kept T)) : Type 0 where
    pub kept : Kept T
    pub is : found ≡ Some kept
    pub stood : stands kept.value pass.seen
    pub opened : pass.opening ≡ Some (opens kept.value)
    pub whole : OwnsAll pass

  pub ends : (place : Seat (Option (Kept T)) (View O)) (pass : Holding O) (words : List ℕ) (slots : List (Option (Kept T))) (found : Option (Kept T)) → holding place ≡ pass
      → IsPass legal place.me pass.caller pass.left pass.shares → pass.shares ≡ 4294967296
      → Final (Seen (LockRule opens legal stands opening) place.id place.me.0) words slots → get_elem? slots 0 ≡ some found → Ended pass found
  ends place pass words slots found same is_pass all final at = let c = closes opens legal stands opening place.id place.me.0 is_pass.idle (is_pass.shares_is ∙ all) final.0 final.1.0 final.1.1 in record {
    kept = c.kept;
    is = some-injective found (Some c.kept) (sym at ∙ final.4 0 (Some c.kept) c.home);
    stood = subst (λ (p : Holding O). stands c.kept.value p.seen) same c.stood;
    opened = ap (λ (p : Holding O). p.opening) (sym same) ∙ c.opened;
    whole = subst OwnsAll same c.known;
  }

  abbrev kept_or : Kept T → Option (Kept T) → Kept T
  kept_or d (Some x) = x
  kept_or d None = d

  -- what was unwrapped has the value
  pub is_value : (pass : Holding O) (found : Option (Kept T)) (x : Kept T) (value : T) → Ended pass found → found ≡ Some x → value ≡ x.value → stands value pass.seen × (pass.opening ≡ Some (opens value))
  is_value pass found x value e is same = subst (λ (y : T). stands y pass.seen × (pass.opening ≡ Some (opens y))) (ap (λ (y : Kept T). y.value) (ap (kept_or x) (sym e.is ∙ is)) ∙ sym same) (e.stood, e.opened)
