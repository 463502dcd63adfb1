use Rattle.std.proofs.Common.{◌∙◌}
use Rattle.bundle.proofs.Fetching.{fetched_is_step}
use Rattle.bundle.proofs.view.Code.get.Goals as goal

pub returns-clause-step : goal.returns-clause-step
returns-clause-step c = λ inside.
    c.fetch.ensures ∙ fetched_is_step c.args.self.layout.bytes.now c.args.self.number c.args.place c.args.self.clean inside
