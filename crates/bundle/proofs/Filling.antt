-- The sections follow each other without gaps and fill the bundle.
use Rattle.std.proofs.Common.{◌≡◌, ℕ, ◌+◌, ◌-◌, ◌*◌, ◌≤◌, List, ◌++◌, length, take, drop, sym, ap, ◌∙◌, arith}
use Rattle.std.proofs.lemmas.List.{take-append-drop, drop-drop, length-take-le, length-drop, take_all}
use Rattle.layout.specs.Layout.{records, start, size}
use Rattle.layout.specs.declared.section.Section.{Section}
use Rattle.layout.specs.declared.section.Section.TheVariants.{Templates, Blocks, Codes, Instructions, Constants, Text}
use Rattle.causes.proofs.HeaderBounds.{Headed, headed}
use Rattle.bundle.specs.Sections.{section, Filled, SectionsFillTheBundle}
use Rattle.bundle.proofs.Kept.{header_kept}

-- a section, and what follows from where the next one begins, is what follows from where it begins
section_then : (b : List ℕ) (s : Section) (next : ℕ) → next ≡ start b s + size s * records b s → section b s ++ drop next b ≡ drop (start b s) b
section_then b s next e =
    ap (λ x. section b s ++ x) (ap (λ n. drop n b) e ∙ sym (drop-drop (size s * records b s) (start b s) b))
    ∙ take-append-drop (size s * records b s) (drop (start b s) b)

section_long : (b : List ℕ) (s : Section) → start b s + size s * records b s ≤ length b → length (section b s) ≡ size s * records b s
section_long b s h =
    let l : length (drop (start b s) b) ≡ length b - start b s = length-drop (start b s) b in
    length-take-le (size s * records b s) (drop (start b s) b) (omega arith)

sections_long : (b : List ℕ) → Headed b → (s : Section) → length (section b s) ≡ size s * records b s
sections_long b h Templates = section_long b Templates (omega arith)
sections_long b h Blocks = section_long b Blocks (omega arith)
sections_long b h Codes = section_long b Codes (omega arith)
sections_long b h Instructions = section_long b Instructions (omega arith)
sections_long b h Constants = section_long b Constants (omega arith)
sections_long b h Text = section_long b Text (omega arith)

-- the header and the first sections, with what follows them
module _ (b : List ℕ) (h : Headed b) where
  from_text : section b Text ≡ drop (start b Text) b
  from_text = take_all (size Text * records b Text) (drop (start b Text) b) (omega (arith, length-drop (start b Text) b, h.end))

  from_constants : section b Constants ++ section b Text ≡ drop (start b Constants) b
  from_constants = ap (λ x. section b Constants ++ x) from_text ∙ section_then b Constants (start b Text) h.text

  from_instructions : section b Instructions ++ (section b Constants ++ section b Text) ≡ drop (start b Instructions) b
  from_instructions =
      ap (λ x. section b Instructions ++ x) from_constants ∙ section_then b Instructions (start b Constants) h.constants

  from_codes : section b Codes ++ (section b Instructions ++ (section b Constants ++ section b Text)) ≡ drop (start b Codes) b
  from_codes = ap (λ x. section b Codes ++ x) from_instructions ∙ section_then b Codes (start b Instructions) h.instructions

  from_blocks : section b Blocks ++ (section b Codes ++ (section b Instructions ++ (section b Constants ++ section b Text))) ≡ drop (start b Blocks) b
  from_blocks = ap (λ x. section b Blocks ++ x) from_codes ∙ section_then b Blocks (start b Codes) h.codes

  from_templates : section b Templates ++ (section b Blocks ++ (section b Codes ++ (section b Instructions ++ (section b Constants ++ section b Text))))
      ≡ drop 48 b
  from_templates =
      ap (λ x. section b Templates ++ x) from_blocks ∙ section_then b Templates (start b Blocks) h.blocks
      ∙ ap (λ n. drop n b) h.templates

  filled : Filled b
  filled = record { whole = ap (λ x. take 48 b ++ x) from_templates ∙ take-append-drop 48 b; long = sections_long b h }

pub sections_fill : (b : List ℕ) → SectionsFillTheBundle b
sections_fill b h = filled b (headed b (header_kept b h))
