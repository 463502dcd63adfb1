use Rattle.std.proofs.Common.{rules}
use Rattle.layout.proofs.Found.{found}
use Rattle.layout.proofs.below.first_not.Goals as goal

pub returns : goal.returns
returns g c = λ p told. found p c.args.bound _ _ _ c.find.ensures.ran (λ x t q k. search rules)
