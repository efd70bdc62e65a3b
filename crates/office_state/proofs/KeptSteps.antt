-- What was accepted stays, from one turn to the next
use Rattle.office_state.proofs.Names.{◌≡◌, ◌⊎◌, ℕ, ◌≤◌, List, [], ◌∷◌, ◌++◌, refl, ap, sym, ◌∙◌, subst, append-nil, append_assoc, arith, inl, inr, filter_map-append, Ghosts, Command, Entry, Opening, accepted_by, accepted_of, commands_after, Leaves, HasKept, HoldsAtLeast, HoldsNow, IsThere, KeepsAccepted, JournalBytes, Opens}
use Rattle.office_state.proofs.HistorySteps.{accepted-same, commands-same, there-push}
use Rattle.office_state.proofs.OpeningSteps.{OnlyNow}

-- a beginning of a list with one more after it is the whole, or one of the list
front_or_whole : {X : Type 0} (xs front rest : List X) (x : X) → xs ++ x ∷ [] ≡ front ++ rest
    → (front ≡ xs ++ x ∷ []) ⊎ ((less : List X) × (xs ≡ front ++ less))
front_or_whole xs [] rest x same = inr (xs, refl)
front_or_whole [] (y ∷ []) rest x same = inl (cc)
front_or_whole [] (y ∷ z ∷ front) rest x same = absurd (cc)
front_or_whole (z ∷ xs) (y ∷ front) rest x same =
    let first : z ≡ y = cc in
    let others : xs ++ x ∷ [] ≡ front ++ rest = cc in
    elim (front_or_whole xs front rest x others) [
      | inl all ↦ inl (cc)
      | inr part ↦ inr (part.0, cc (part.1))
    ]

no_front : {X : Type 0} (front rest : List X) → [] ≡ front ++ rest → front ≡ []
no_front [] rest none = refl
no_front (x ∷ front) rest none = absurd (cc)

-- the commands after a beginning, and then those that the rest accepted
commands-front : (opening : Opening) (front rest : List Entry)
    → commands_after opening (front ++ rest) ≡ commands_after opening front ++ accepted_of rest
commands-front opening front rest =
    ap (λ cs. opening.commands ++ cs) (filter_map-append (λ (e : Entry). accepted_by e.call e.reply) front rest)
    ∙ sym (append_assoc opening.commands (accepted_of front) (accepted_of rest))

-- an image that holds a journal's commands holds at least those of a beginning
least_of : (commands front more : List Command) (image : List ℕ) → JournalBytes image commands → commands ≡ front ++ more
    → HoldsAtLeast front image
least_of commands front more image bytes same = (more, inl (subst (JournalBytes image) same bytes))

-- what holds now holds at least all that was accepted
pub least_now : (opening : Opening) (turns : List Entry) (image : List ℕ) → HoldsNow opening turns image
    → HoldsAtLeast (commands_after opening turns) image
least_now opening turns image (inl all) =
    least_of (commands_after opening turns) (commands_after opening turns) [] image all (sym (append-nil (commands_after opening turns)))
least_now opening turns image (inr more) =
    least_of (commands_after opening turns ++ more.0 ∷ []) (commands_after opening turns) (more.0 ∷ []) image more.2 refl

-- what holds at least the commands after a history does so after each beginning
least_front : (opening : Opening) (turns front less : List Entry) (image : List ℕ) → turns ≡ front ++ less
    → HoldsAtLeast (commands_after opening turns) image → HoldsAtLeast (commands_after opening front) image
least_front opening turns front less image part least =
    let grown : commands_after opening turns ++ least.0 ≡ commands_after opening front ++ (accepted_of less ++ least.0) =
    ap (λ cs. cs ++ least.0) (ap (commands_after opening) part ∙ commands-front opening front less)
    ∙ append_assoc (commands_after opening front) (accepted_of less) least.0 in
    (accepted_of less ++ least.0, subst (Opens image) grown least.1)

-- a turn that accepts nothing leaves what holds now
now_still : (opening : Opening) (turns : List Entry) (entry : Entry) (image : List ℕ) → accepted_of (entry ∷ []) ≡ []
    → HoldsNow opening turns image → HoldsNow opening (turns ++ entry ∷ []) image
now_still opening turns entry image none now =
    subst (λ held. IsThere JournalBytes opening.commands (turns ++ entry ∷ []) held image) (sym (accepted-same turns entry none))
    (there-push JournalBytes opening.commands turns (accepted_of turns) entry image now)

module _ {D : Type 0} (g : Ghosts D) (begun : D) (opening : Opening) where
  -- a disk as it is now
  pub kept_now : (disk : D) (turns : List Entry) → OnlyNow g → g.honest disk → g.clock begun ≤ g.clock disk
      → ((image : List ℕ) → g.may_leave disk image → HoldsNow opening turns image) → HasKept g begun disk opening turns
  kept_now disk turns only_now honest later images = record {
    stood = disk;
    honest = honest;
    later = later;
    passed = omega arith;
    images = images;
    since = λ (image : List ℕ) (left : g.left_since disk (g.clock disk) image).
        least_now opening turns image (images image (only_now disk image honest left));
  }

  -- before any turn
  pub keeps_first : (disk : D) → HasKept g begun disk opening [] → KeepsAccepted g begun disk opening []
  keeps_first disk kept front rest same = subst (HasKept g begun disk opening) (sym (no_front front rest same)) kept

  -- a history whose turns before the first are asked for
  pub keeps_none : (disk : D) (history : List Entry) → KeepsAccepted g begun disk opening history → KeepsAccepted g begun disk opening []
  keeps_none disk history keeps = keeps_first disk (keeps [] history refl)

  -- while later calls leave images that hold at least as much
  kept_on : (old new : D) (turns : List Entry) (P : List ℕ → Type 0) → Leaves g old new P
      → ((image : List ℕ) → P image → HoldsAtLeast (commands_after opening turns) image)
      → HasKept g begun old opening turns → HasKept g begun new opening turns
  kept_on old new turns P moments least kept = record {
    stood = kept.stood;
    honest = kept.honest;
    later = kept.later;
    passed = omega (arith, kept.passed, moments.later);
    images = kept.images;
    since = λ (image : List ℕ) (left : g.left_since new (g.clock kept.stood) image).
        elim (moments.before (g.clock kept.stood) image kept.passed left) [
          | inl was ↦ kept.since image was
          | inr now ↦ least image now
        ];
  }

  -- after a turn that accepts nothing
  kept_still : (disk : D) (turns : List Entry) (entry : Entry) → accepted_of (entry ∷ []) ≡ []
      → HasKept g begun disk opening turns → HasKept g begun disk opening (turns ++ entry ∷ [])
  kept_still disk turns entry none kept = record {
    stood = kept.stood;
    honest = kept.honest;
    later = kept.later;
    passed = kept.passed;
    images = λ (image : List ℕ) (left : g.may_leave kept.stood image).
        now_still opening turns entry image none (kept.images image left);
    since = λ (image : List ℕ) (left : g.left_since disk (g.clock kept.stood) image).
        rw (commands-same opening turns entry none) (kept.since image left);
  }

  whole_of : (disk : D) (turns : List Entry) → KeepsAccepted g begun disk opening turns → HasKept g begun disk opening turns
  whole_of disk turns keeps = keeps turns [] (sym (append-nil turns))

  -- a turn that leaves the disk and accepts nothing
  pub keeps_still : (disk : D) (turns : List Entry) (entry : Entry) → accepted_of (entry ∷ []) ≡ []
      → KeepsAccepted g begun disk opening turns → KeepsAccepted g begun disk opening (turns ++ entry ∷ [])
  keeps_still disk turns entry none keeps front rest same = elim (front_or_whole turns front rest entry same) [
    | inl all ↦ subst (HasKept g begun disk opening) (sym all) (kept_still disk turns entry none (whole_of disk turns keeps))
    | inr part ↦ keeps front part.0 part.1
  ]

  module _ (old new : D) (turns : List Entry) (entry : Entry) (P : List ℕ → Type 0) (moments : Leaves g old new P)
      (least : (image : List ℕ) → P image → HoldsAtLeast (commands_after opening turns) image)
      (keeps : KeepsAccepted g begun old opening turns) where
    -- a turn that wrote, about which everything is known
    pub keeps_more : HasKept g begun new opening (turns ++ entry ∷ []) → KeepsAccepted g begun new opening (turns ++ entry ∷ [])
    keeps_more whole front rest same = elim (front_or_whole turns front rest entry same) [
      | inl all ↦ subst (HasKept g begun new opening) (sym all) whole
      | inr part ↦
          kept_on old new front P moments (λ (image : List ℕ) (now : P image). least_front opening turns front part.0 image part.1 (least image now))
          (keeps front part.0 part.1)
    ]

    -- a turn that wrote and accepted nothing
    pub keeps_unaccepted : accepted_of (entry ∷ []) ≡ [] → KeepsAccepted g begun new opening (turns ++ entry ∷ [])
    keeps_unaccepted none =
        keeps_more (kept_still new turns entry none (kept_on old new turns P moments least (whole_of old turns keeps)))
