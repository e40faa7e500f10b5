-- The order of forests that byte order makes where a closing tag follows: the empty forest is the last of all.
use Rattle.std.specs.Prelude.{◌≡◌, ◌⊎◌, ◌<◌}
use Rattle.words.specs.Forest.{Forest, none, elem}

-- f comes before g: by the first code, then by what is within, then by what follows
abbrev pub ForestPrecedes : Forest → Forest → Type 0
ForestPrecedes none g = ⊥
ForestPrecedes (elem c f h) none = Unit {0}
ForestPrecedes (elem c f h) (elem d g k) = (c < d) ⊎ ((c ≡ d) × (ForestPrecedes f g ⊎ ((f ≡ g) × ForestPrecedes h k)))
