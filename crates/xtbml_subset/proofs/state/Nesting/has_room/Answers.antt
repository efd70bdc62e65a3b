use Rattle.xtbml_subset.proofs.Stack.{texts, room_test, whole_in, start_in}
use Rattle.xtbml_subset.proofs.state.Nesting.has_room.Goals as goal

pub returns-clause-room : goal.returns-clause-room
returns-clause-room c = room_test c.args.self.now.depth

pub returns-clause-whole_tag : goal.returns-clause-whole_tag
returns-clause-whole_tag c = λ tag. whole_in c.args.self.now.phase c.args.self.now.depth (texts c.args.self.now.names) tag c.requires

pub returns-clause-start_tag : goal.returns-clause-start_tag
returns-clause-start_tag c = λ tag. start_in c.args.self.now.phase c.args.self.now.depth (texts c.args.self.now.names) tag c.requires
