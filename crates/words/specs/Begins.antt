use Rattle.std.specs.Prelude.{◌≡◌, ℕ, List, ◌++◌}

-- a text that begins with another
abbrev pub Begins : List ℕ → List ℕ → Type 0
Begins front text = (rest : List ℕ) × (text ≡ front ++ rest)
