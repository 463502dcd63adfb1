-- The line with which a listing begins.
use Rattle.std.specs.Prelude.{ℕ, List, ◌++◌, codes, decimal}

-- how many bytes the bundle has
abbrev pub size_line : ℕ → List ℕ
size_line n = decimal n ++ codes " bytes\n"
