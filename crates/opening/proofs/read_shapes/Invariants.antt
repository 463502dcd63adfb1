use Rattle.std.proofs.Common.{◌≡◌, ◌<◌, ◌≤◌, length, take}
use Rattle.layout.specs.Layout.{records}
use Rattle.layout.specs.declared.section.Section.TheVariants.{Codes}
use Rattle.opening.specs.Opening.{code_shapes}
use Rattle.opening.proofs.read_shapes.Given as goal

abbrev pub invariant-loop-place : goal.invariant-loop-place
invariant-loop-place l =
    (length l.shapes.items ≤ l.place)
    × (l.code.number < records l.code.layout.bytes.now Codes → l.shapes.items ≡ take l.place (code_shapes l.code.layout.bytes.now l.code.number))
