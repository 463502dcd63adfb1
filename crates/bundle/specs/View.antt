-- What the values of the code stand for.
use Rattle.std.specs.Prelude.{ℕ, ◌+◌, List, Some, None, Ok, Err, Option, Result}
use Rattle.layout.specs.Bounded.{listed}
use Rattle.layout.specs.Layout.{text}
use Rattle.instruction.specs.Program as program
use Rattle.causes.specs.Causes.{number}
use Rattle.causes.specs.declared.defect.Defect.{Defect}
use Rattle.bundle.specs.Decoded as decoded
use Rattle.bundle.specs.declared.view.Examined.{Examined}
use Rattle.bundle.specs.declared.view.Template.{Template}
use Rattle.bundle.specs.declared.view.Block.{Block}
use Rattle.bundle.specs.declared.view.Code.{Code}

-- the number of an answer: 0, or that of the cause
abbrev pub told : Result Examined Defect → ℕ
told (Ok e) = 0
told (Err d) = number d.rule

abbrev pub refusal : Result Examined Defect → Option Defect
refusal (Ok e) = None
refusal (Err d) = Some d

-- the bytes of a bundle
abbrev pub bytes : Examined → List ℕ
bytes e = e.layout.bytes.now

abbrev pub code_view : Code → program.Code
code_view c = decoded.code c.layout.bytes.now c.number

abbrev pub block_view : Block → program.Block
block_view x = record {
  name = text x.layout.bytes.now x.raw.name;
  code = decoded.code x.layout.bytes.now x.raw.code;
}

abbrev pub template_view : Template → program.Template
template_view t = record {
  name = text t.layout.bytes.now t.raw.name;
  main = decoded.code t.layout.bytes.now t.raw.main;
  blocks = listed t.raw.blocks.count (λ k. decoded.block t.layout.bytes.now (t.raw.blocks.first + k));
}
