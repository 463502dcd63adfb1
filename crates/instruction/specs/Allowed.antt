-- Which fields of a record an instruction or a constant may have: the others are zero.
use Rattle.std.specs.Prelude.{ℕ, Bool, true, false, ◌&&◌, ◌||◌, ◌==◌, nat_le, nat_lt}
use Rattle.layout.specs.declared.records.InstructionRecord.{InstructionRecord}
use Rattle.layout.specs.declared.records.ConstantRecord.{ConstantRecord}
use Rattle.instruction.specs.declared.fields.Fields.{Fields}
use Rattle.instruction.specs.declared.fields.Fields.TheVariants as takes

-- what an instruction takes of its record; a kind that is left out is not allowed, and takes nothing
pub record Uses : Type 0 where
  pub allowed : Bool
  pub text : Bool
  pub count : Bool
  pub constant : Bool
  pub target : Bool

abbrev pub uses : Fields → Uses
uses takes.None = record { allowed = true; text = false; count = false; constant = false; target = false }
uses takes.Text = record { allowed = true; text = true; count = false; constant = false; target = false }
uses takes.Count = record { allowed = true; text = false; count = true; constant = false; target = false }
uses takes.TextAndCount = record { allowed = true; text = true; count = true; constant = false; target = false }
uses takes.Cached = record { allowed = true; text = true; count = true; constant = false; target = false }
uses takes.Constant = record { allowed = true; text = false; count = false; constant = true; target = false }
uses takes.Target = record { allowed = true; text = false; count = false; constant = false; target = true }
uses takes.LoopFlags = record { allowed = true; text = false; count = false; constant = false; target = false }
uses takes.CaptureMode = record { allowed = true; text = false; count = false; constant = false; target = false }
uses takes.LeftOut = record { allowed = false; text = false; count = false; constant = false; target = false }

-- a cache slot is below 50, or 255 for none; loop flags go to 3, capture modes to 1
abbrev pub small_allowed : Fields → ℕ → Bool
small_allowed takes.None n = n == 0
small_allowed takes.Text n = n == 0
small_allowed takes.Count n = n == 0
small_allowed takes.TextAndCount n = n == 0
small_allowed takes.Cached n = nat_lt n 50 || n == 255
small_allowed takes.Constant n = n == 0
small_allowed takes.Target n = n == 0
small_allowed takes.LoopFlags n = nat_le n 3
small_allowed takes.CaptureMode n = nat_le n 1
small_allowed takes.LeftOut n = true

abbrev pub fields_allowed : Fields → InstructionRecord → Bool
fields_allowed f r =
    small_allowed f r.small
    && (((uses f).count || r.argc == 0)
    && (((uses f).text || ((uses f).constant || ((uses f).target || r.a == 0)))
    && (((uses f).text || r.b == 0) && r.zero == 0)))

-- only an integer takes the field a of a constant, and only a text takes both
abbrev pub constant_allowed : ConstantRecord → Bool
constant_allowed r = (nat_le 3 r.kind || r.a == 0) && (nat_le 4 r.kind || r.b == 0)
