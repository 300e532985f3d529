-- A new name goes last.
use Rattle.many_streams.proofs.Numbers.{pushed}
use Rattle.many_streams.proofs.name_numbers.NameNumbers.push.Goals as goal

pub returns-clause-ok : goal.returns-clause-ok
returns-clause-ok c = pushed c.args.name.now c.in_ok-name.name c.self.inside.names.keys
    c.insert.new.self.keys c.args.self.now c.self.view_is c.requires c.in_ok-name.ensures.items
    c.in_ok-insert.ensures.keys
