use Rattle.std.proofs.Common.{◌∙◌}
use Rattle.bundle.proofs.Reading.{block_there}
use Rattle.bundle.proofs.view.Template.block.Goals as goal

pub returns : goal.returns
returns c =
    c.block_at.ensures ∙ block_there c.args.self.layout.bytes.now c.args.self.raw.blocks.first c.args.self.raw.blocks.count c.args.place
