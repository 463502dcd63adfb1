use Rattle.bundle.proofs.Filling.{sections_fill}
use Rattle.bundle.proofs.examine.Goals as goal

pub returns-clause-sections : goal.returns-clause-sections
returns-clause-sections c = sections_fill c.args.bytes.now
