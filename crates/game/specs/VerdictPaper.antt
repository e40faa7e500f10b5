-- The verdict in the source's own game (SPEC 10.24); that it is so on every accepted file is the theorem `verdict_paper`.
use Rattle.std.specs.Prelude.{List, ℕ}
use Rattle.game.specs.ContextFree.{context_free, JulietHasStrategy, RomeoHasStrategy}
use Rattle.game.specs.Job.{game_of, record_of}
use Rattle.game.specs.Verdict.{YesOrNo}

-- the verdict says who has the strategy
abbrev pub VerdictPaper : List ℕ → ℕ → Type 0
VerdictPaper file =
    YesOrNo (JulietHasStrategy (context_free (game_of file)) (record_of file))
    (RomeoHasStrategy (context_free (game_of file)) (record_of file))
