use Rattle.std.proofs.Common.{rules}
use Rattle.layout.proofs.Found.{found_all}
use Rattle.layout.proofs.below.each.Goals as goal

pub returns : goal.returns
returns g c = λ p told. found_all p c.args.bound _ _ _ c.all.ensures.ran (λ x t q k. search rules)
