-- No balance comes near its bound, and the policy is set where it stands.
use Rattle.checkpoint_store.proofs.Names.{refl, sym, subst, ◌∙◌, nat_eq, IsDistinct, id_of}
use Rattle.indexmap.proofs.CallerLemmas.{keys-with_value_at}
use Rattle.indexmap.proofs.MapLemmas.{Found-position}
use Rattle.checkpoint_store.proofs.BookEntries.{set_there}
use Rattle.checkpoint_store.proofs.Taking.{has_room}
use Rattle.checkpoint_store.proofs.numbered.NumberedBooks.set.Goals as goal

pub post-requires-clause-room : goal.post-requires-clause-room
post-requires-clause-room c = has_room c.args.self.now c.requires.sound

pub pair_mut-before-requires : goal.pair_mut-before-requires
pair_mut-before-requires c =
    (Found-position (nat_eq (id_of c.args.command.now)) c.args.self.now.policies.entries c.in-Some.index (sym c.requires.index ∙ c.in-Some.is)).within

pub returns-in-Some-clause-taken : goal.returns-in-Some-clause-taken
returns-in-Some-clause-taken c =
    let policies = c.args.self.now.policies in
    record {
      entries = set_there policies (id_of c.args.command.now) c.in-Some.index c.args.policy (sym c.requires.index ∙ c.in-Some.is);
      distinct = subst (IsDistinct nat_eq) (sym (keys-with_value_at policies c.in-Some.index c.args.policy)) c.pair_mut-before.ensures.unique;
      position = refl;
      upgrade = refl;
      ledger = c.post.ensures;
    }
