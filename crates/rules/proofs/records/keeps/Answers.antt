use Rattle.std.proofs.Common.{◌≡◌, ◌+◌, not, sym, subst}
use Rattle.layout.specs.Bounded.{each}
use Rattle.layout.specs.Layout.{code, template}
use Rattle.layout.specs.declared.records.BlockRecord.{BlockRecord}
use Rattle.layout.proofs.EachBelow.{none_is_each}
use Rattle.rules.specs.Rules.{keeps_record, jumps_inside, loads, block_name, new_name}
use Rattle.rules.specs.declared.RecordRule.{RecordRule}
use Rattle.rules.proofs.records.keeps.Goals as goal

pub returns-in-JumpTargets : goal.returns-in-JumpTargets
returns-in-JumpTargets c =
    subst (λ (r : RecordRule). c.is_none.result ≡ keeps_record c.args.layout.bytes.now r c.args.number)
    (sym c.in-JumpTargets.is)
    (none_is_each (jumps_inside c.args.layout.bytes.now c.args.number) _ c.first_jump_outside.result
    c.is_none.result c.first_jump_outside.ensures c.is_none.ensures)

pub returns-in-BlockNames : goal.returns-in-BlockNames
returns-in-BlockNames c =
    subst (λ (r : RecordRule). c.is_none-in-BlockNames.result ≡ keeps_record c.args.layout.bytes.now r c.args.number)
    (sym c.in-BlockNames.is)
    (none_is_each (new_name (λ k. block_name c.args.layout.bytes.now ((template c.args.layout.bytes.now c.args.number).blocks.first + k)))
    _ c.first_repeated_block.result c.is_none-in-BlockNames.result c.first_repeated_block.ensures c.is_none-in-BlockNames.ensures)

pub returns-in-LoadOutsideMain : goal.returns-in-LoadOutsideMain
returns-in-LoadOutsideMain c =
    subst (λ (r : RecordRule). c.is_none-in-LoadOutsideMain.result ≡ keeps_record c.args.layout.bytes.now r c.args.number)
    (sym c.in-LoadOutsideMain.is)
    (subst
    (λ (x : BlockRecord). c.is_none-in-LoadOutsideMain.result
    ≡ each (code c.args.layout.bytes.now x.code).instructions.count (λ k. not (loads c.args.layout.bytes.now x.code k)))
    c.record-in-LoadOutsideMain.ensures
    (none_is_each (λ k. not (loads c.args.layout.bytes.now c.record-in-LoadOutsideMain.result.code k)) _
    c.first_load.result c.is_none-in-LoadOutsideMain.result c.first_load.ensures c.is_none-in-LoadOutsideMain.ensures))
