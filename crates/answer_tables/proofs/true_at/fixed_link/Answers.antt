use Rattle.answer_tables.proofs.Two.{interned_there}
use Rattle.answer_tables.proofs.true_at.fixed_link.Goals as goal

pub returns-clause-stored : goal.returns-clause-stored
returns-clause-stored c = interned_there c.args.store.now c.intern.new.self
    c.in_ok-antichain.antichain c.intern.result c.intern.ensures.link c.intern.ensures.ok
