use Rattle.policy_value.proofs.Names.{arith, subst, ◌+◌, HasPut}
use Rattle.policy_value.proofs.Putting.{all_put}
use Rattle.policy_value.proofs.columns.ColumnStore.keep.Goals as goal

pub put_values-requires-clause-column : goal.put_values-requires-clause-column
put_values-requires-clause-column c = (c.restart.ensures.is_column c.args.rates.now.table.now c.args.rates.now.bp, c.restart.ensures.is_of.1)

pub returns-clause-right : goal.returns-clause-right
returns-clause-right c =
    let rates = c.args.rates.now in
    let key = c.args.key in
    let store = c.requires.right.store in
    let old = c.args.self.now.pairs.items in
    let new = c.put_values.new.pairs.items in
    let put = subst (λ s. HasPut rates.table.now rates.bp s key.end c.args.lowest (key.end + 1) old new) c.restart.ensures.is_of.0 c.put_values.ensures.put in
    record {
      store = record {
        slots = store.slots;
        one = store.one;
        most = store.most;
        some = store.some;
        room = rw c.push_reserved.ensures.capacity store.room;
        wide = rw c.put_values.ensures.room store.wide;
      };
      columns = rw c.push_reserved.ensures.items (all_put c.args.basis.now rates.table.now rates.bp old new c.args.self.now.kept.items _ c.requires.right.columns
          (rw (c.requires.key.0, c.requires.key.1) c.requires.row) c.requires.can.before (omega (arith, c.len.ensures)) put);
    }
