use Rattle.opening.proofs.Unreached.{unreached}
use Rattle.opening.proofs.refusal_of.Goals as goal

pub returns-clause-unreached : goal.returns-clause-unreached
returns-clause-unreached c = unreached c.args.bytes.now
