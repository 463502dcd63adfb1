-- The sections follow each other without gaps and fill the bundle.
use Rattle.std.specs.Prelude.{◌≡◌, ℕ, ◌*◌, List, ◌++◌, length, take, drop, ◌≢◌}
use Rattle.layout.specs.Layout.{records, start, size}
use Rattle.layout.specs.declared.section.Section.{Section}
use Rattle.layout.specs.declared.section.Section.TheVariants.{Templates, Blocks, Codes, Instructions, Constants, Text}
use Rattle.causes.specs.Causes.{cause}

-- the bytes of a section, as the header gives them
abbrev pub section : List ℕ → Section → List ℕ
section b s = take (size s * records b s) (drop (start b s) b)

pub record Filled (b : List ℕ) : Type 0 where
  -- the header and the sections, one after the other, are the bundle
  pub whole : take 48 b ++ (section b Templates ++ (section b Blocks ++ (section b Codes
      ++ (section b Instructions ++ (section b Constants ++ section b Text))))) ≡ b
  pub long : (s : Section) → length (section b s) ≡ size s * records b s

-- every bundle whose header is right
abbrev pub SectionsFillTheBundle : List ℕ → Type 0
SectionsFillTheBundle b = (cause b ≢ 1) → Filled b
