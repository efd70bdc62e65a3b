-- How a run of disk calls goes on.
use Rattle.posting_journal.proofs.Names.{inl, inr, ⊎_elim, ℕ, List, refl, ◌∙◌, arith, Looks, Ghosts, LooksOn, Passes, Leaves}

module _ {D : Type 0} (g : Ghosts D) where
  -- before the first call
  pub at_rest : (disk : D) (P : List ℕ → Type 0) → Passes g disk disk P
  at_rest disk P = record { later = omega arith; nothing_else = λ moment image le left. inl left; keeps = λ moment image le left. left }

  -- what is left is known to have more
  pub wider : (old new : D) (P Q : List ℕ → Type 0) → Passes g old new P → ((image : List ℕ) → P image → Q image) → Passes g old new Q
  wider old new P Q passes more = record {
    later = passes.later;
    nothing_else = λ moment image le left. ⊎_elim (λ was. inl was) (λ now. inr (more image now)) (passes.nothing_else moment image le left);
    keeps = passes.keeps;
  }

  -- one run after another
  pub goes_on : (old mid new : D) (P : List ℕ → Type 0) → Passes g old mid P → Passes g mid new P → Passes g old new P
  goes_on old mid new P first second = record {
    later = omega (arith, first.later, second.later);
    nothing_else = λ moment image le left. ⊎_elim (first.nothing_else moment image le) (λ now. inr now) (second.nothing_else moment image (omega (arith, le, first.later)) left);
    keeps = λ moment image le left. second.keeps moment image (omega (arith, le, first.later)) (first.keeps moment image le left);
  }

  -- a run from a disk whose images all have P
  pub leaves : (old new : D) (P : List ℕ → Type 0) → ((image : List ℕ) → g.left_since old (g.clock old) image → P image) → Passes g old new P → Leaves g old new P
  leaves old new P here passes = record {
    later = passes.later;
    each = λ image left. ⊎_elim (here image) (λ now. now) (passes.nothing_else (g.clock old) image (omega arith) left);
    before = λ moment image le left. passes.nothing_else moment image le left;
  }

  -- what is left is known to have more
  pub leaves_more : (old new : D) (P Q : List ℕ → Type 0) → Leaves g old new P → ((image : List ℕ) → P image → Q image) → Leaves g old new Q
  leaves_more old new P Q left more = record {
    later = left.later;
    each = λ image was. more image (left.each image was);
    before = λ moment image le was. ⊎_elim (λ past. inl past) (λ now. inr (more image now)) (left.before moment image le was);
  }

  -- a run of runs that leave what has P
  pub leaves_on : (old mid new : D) (P Q : List ℕ → Type 0) → Leaves g old mid P → Leaves g mid new Q → ((image : List ℕ) → P image → Q image) → Leaves g old new Q
  leaves_on old mid new P Q first second more = record {
    later = omega (arith, first.later, second.later);
    each = λ image left. ⊎_elim (λ was. more image (first.each image was)) (λ now. now) (second.before (g.clock old) image first.later left);
    before = λ moment image le left. ⊎_elim (λ was. ⊎_elim (λ before. inl before) (λ now. inr (more image now)) (first.before moment image le was)) (λ now. inr now) (second.before moment image (omega (arith, le, first.later)) left);
  }

  -- what the disk reads and leaves, and then the time
  looked_in : (old new : D) → Looks (g.reads old) (g.reads new) (g.may_leave old) (g.may_leave new) → Passes g old new (g.may_leave old) → LooksOn g old new
  looked_in old new facts time = record { reads = facts.reads; images = facts.images; later = time.later; nothing_else = time.nothing_else; keeps = time.keeps }

  pub looks_pass : (old new : D) → LooksOn g old new → Passes g old new (g.may_leave old)
  looks_pass old new looks = record { later = looks.later; nothing_else = looks.nothing_else; keeps = looks.keeps }

  pub looks_none : (disk : D) → LooksOn g disk disk
  looks_none disk = looked_in disk disk (record { reads = refl; images = λ image left. left }) (at_rest disk (g.may_leave disk))

  -- one call that writes nothing
  pub looked : (old new : D) → Looks (g.reads old) (g.reads new) (g.may_leave old) (g.may_leave new) → Passes g old new (g.may_leave new) → LooksOn g old new
  looked old new facts time = looked_in old new facts (wider old new (g.may_leave new) (g.may_leave old) time facts.images)

  pub looks_on : (old mid new : D) → LooksOn g old mid → LooksOn g mid new → LooksOn g old new
  looks_on old mid new first second = looked_in old new
      (record { reads = second.reads ∙ first.reads; images = λ image left. first.images image (second.images image left) })
      (goes_on old mid new (g.may_leave old) (looks_pass old mid first) (wider mid new (g.may_leave mid) (g.may_leave old) (looks_pass mid new second) first.images))
