-- The smallest bundle opens.
use Rattle.std.proofs.Common.{◌≡◌, refl, arith}
use Rattle.causes.specs.Causes.{cause}
use Rattle.opening.specs.Opening.{AllStand, empty_bundle}

pub empty_format : cause empty_bundle ≡ 0
unfolding cause
empty_format = refl

pub empty_stands : AllStand empty_bundle
empty_stands c l = absurd (omega arith)
