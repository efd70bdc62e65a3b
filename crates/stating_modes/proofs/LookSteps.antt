-- What stays true of a disk that is only looked at after a turn, a run or an opening
use Rattle.stating_modes.proofs.Names.{◌≡◌, ℕ, ◌≤◌, List, [], ◌∷◌, ◌++◌, sym, ◌∙◌, subst, inl, inr, append-nil, arith, Ghosts, Command, Opening, opened_on, IsUnfinished, LooksOn, looks_on, HasKept, HoldsNow, HoldsOnce, IsLeftAlone, IsLeftBy, KeepsAccepted, JournalBytes, Opens, CountsNow, ReadsImage, looked_since, synced_before}
use Rattle.policy_types.specs.declared.entry.Entry.{Entry}
use Rattle.posting_journal.proofs.Unique.{journal_finished}

module _ {D : Type 0} (g : Ghosts D) (counts_now : CountsNow g) (old mid new : D)
    (honesty : g.honest new → g.honest mid) (looks : g.honest new → LooksOn g mid new) where
  -- what a crash since an earlier moment left, it left before
  since_before : g.honest new → (moment : ℕ) (image : List ℕ) → moment ≤ g.clock mid → g.left_since new moment image
      → g.left_since mid moment image
  since_before honest moment image passed left =
      looked_since g counts_now mid new (honesty honest) (looks honest) moment passed image left

  pub alone_still : (g.honest mid → g.clock old ≤ g.clock mid) → IsLeftAlone g old mid → IsLeftAlone g old new
  alone_still later alone = record {
    honesty = λ honest. alone.honesty (honesty honest);
    unwritten = λ honest finished. looks_on g old mid new (alone.unwritten (honesty honest) finished) (looks honest);
    since = λ honest image was.
        alone.since (honesty honest) image (since_before honest (g.clock old) image (later (honesty honest)) was);
    synced = λ honest. elim (alone.synced (honesty honest)) [
      | inl looked ↦ inl (looks_on g old mid new looked (looks honest))
      | inr at ↦ inr (
        at.0,
        synced_before g old at.0 mid new at.1 (looks honest).later,
        λ image was. at.2 image (since_before honest (g.clock at.0) image at.1.passed was),
      )
    ];
  }

  kept_still : (opening : Opening) (turns : List Entry) → g.honest new → HasKept g old mid opening turns → HasKept g old new opening turns
  kept_still opening turns honest kept = record {
    stood = kept.stood;
    honest = kept.honest;
    later = kept.later;
    passed = omega (arith, kept.passed, (looks honest).later);
    images = kept.images;
    since = λ image was. kept.since image (since_before honest (g.clock kept.stood) image kept.passed was);
  }

  pub left_still : (opening : Opening) (turns : List Entry) → IsLeftBy g old mid opening turns → g.faults new ≡ g.faults mid
      → IsLeftBy g old new opening turns
  left_still opening turns left quiet = record {
    honesty = λ honest. left.honesty (honesty honest);
    faults = quiet ∙ left.faults;
    opened = λ honest. left.opened (honesty honest);
    now = λ honest image was. left.now (honesty honest) image ((looks honest).images image was);
    since = λ honest image was.
        let at_sync = (left.synced (honesty honest)).1 in
        left.since (honesty honest) image (since_before honest (g.clock old) image (omega (arith, at_sync.later, at_sync.passed)) was);
    synced = λ honest.
        let at = left.synced (honesty honest) in (
          at.0,
          synced_before g old at.0 mid new at.1 (looks honest).later,
          λ image was. at.2 image (since_before honest (g.clock at.0) image at.1.passed was),
        );
    kept = λ honest front rest parts. kept_still opening front honest (left.kept (honesty honest) front rest parts);
    alone = λ none.
        alone_still
        (λ honest. let at_sync = (left.synced honest).1 in omega (arith, at_sync.later, at_sync.passed)) (left.alone none);
  }

module _ {D : Type 0} (g : Ghosts D) (old mid : D) (commands : List Command)
    (left : IsLeftBy g old mid (opened_on commands (g.faults old)) []) where
  pub later_left : g.honest mid → g.clock old ≤ g.clock mid
  later_left honest = let at_sync = (left.synced honest).1 in omega (arith, at_sync.later, at_sync.passed)

  -- what is read then is the journal of the commands
  pub file_left : ReadsImage g → g.honest mid → JournalBytes (g.reads mid) commands
  file_left reads_image honest = subst (JournalBytes (g.reads mid)) (append-nil commands)
      (by (left.now honest (g.reads mid) (reads_image mid honest)))
    where
      nothing : {A : Type 0} (before : List Entry) (entry : Entry) (after : List Entry) → [] ≡ before ++ entry ∷ after → A
      nothing [] entry after none = absurd (cc)
      nothing (first ∷ before) entry after none = absurd (cc)

      by : HoldsNow (opened_on commands (g.faults old)) [] (g.reads mid) → JournalBytes (g.reads mid) (commands ++ [])
      by (inl all) = all
      by (inr more) = nothing more.1.before _ _ more.1.turns

  pub finished_left : ReadsImage g → g.honest mid → ¬ IsUnfinished (g.reads mid)
  finished_left reads_image honest = journal_finished (g.reads mid) _ (file_left reads_image honest).records

  -- the commands may be named otherwise if they are the same
  pub left_renamed : (others : List Command) → (g.honest mid → others ≡ commands)
      → IsLeftBy g old mid (opened_on others (g.faults old)) []
  left_renamed others same = record {
    honesty = left.honesty;
    faults = left.faults;
    opened = λ honest. subst (Opens (g.reads old)) (sym (same honest)) (left.opened honest);
    now = λ honest image was. subst (λ (cs : List Command). HoldsNow (opened_on cs (g.faults old)) [] image) (sym (same honest)) (left.now honest image was);
    since = λ honest image was. elim (left.since honest image was) [
      | inl before ↦ inl before
      | inr held ↦ inr (subst (λ (cs : List Command). HoldsOnce (opened_on cs (g.faults old)) [] image) (sym (same honest)) held)
    ];
    synced = λ honest.
        let at = left.synced honest in
        (at.0, at.1, λ image was. subst (λ (cs : List Command). HoldsOnce (opened_on cs (g.faults old)) [] image) (sym (same honest)) (at.2 image was));
    kept = λ honest. subst (λ (cs : List Command). KeepsAccepted g old mid (opened_on cs (g.faults old)) []) (sym (same honest)) (left.kept honest);
    alone = left.alone;
  }
