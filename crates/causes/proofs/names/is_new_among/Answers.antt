use Rattle.std.proofs.Common.{ℕ, Bool, not, ap, ◌∙◌, rules}
use Rattle.std.specs.Str.{bytes_eq}
use Rattle.std.proofs.lemmas.Iterator.{YieldsList-from_slice}
use Rattle.std.proofs.lemmas.Iterator.Search.{all_from_yields_List}
use Rattle.std.proofs.lemmas.List.{get_or_default}
use Rattle.layout.proofs.Found.{all_is_each}
use Rattle.rules.specs.Rules.{block_name}
use Rattle.causes.specs.Tally.{other_than}
use Rattle.causes.proofs.names.is_new_among.Goals as goal

pub returns : goal.returns
returns c =
    let b = c.args.layout.bytes.now in
    let other : ℕ → Bool = λ block. not (bytes_eq (block_name b block) (block_name b c.args.number)) in
    all_from_yields_List other _ _ _ c.all.ensures.ran (YieldsList-from_slice c.args.blocks.now c.iter.ensures.rest) (λ x t q k. search rules)
    ∙ all_is_each other c.args.blocks.now (other_than b c.args.blocks.now c.args.number) (λ k d l. ap other (get_or_default c.args.blocks.now k d 0 l))
