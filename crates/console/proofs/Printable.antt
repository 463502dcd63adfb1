-- How bytes are written, one after another.
use Rattle.std.proofs.Common.{◌≡◌, ℕ, ◌+◌, ◌<◌, List, [], ◌++◌, length, get_or, take, sym, ap, ◌∙◌}
use Rattle.std.proofs.lemmas.List.{flat_map_more, take_more}
use Rattle.console.specs.Escape.{escaped_byte, escaped}

pub escaped_more : (bs : List ℕ) (i : ℕ) → i < length bs → escaped (take i bs) ++ escaped_byte (get_or bs i 0) ≡ escaped (take (i + 1) bs)
escaped_more bs i h = flat_map_more escaped_byte [] (take i bs) (get_or bs i 0) ∙ ap escaped (sym (take_more bs i 0 h))
