-- The start of an accepted file's play.
use mathlib.Core.Path.{◌≡◌, sym, ◌∙◌, ap}
use mathlib.Core.Logic.{if_pos}
use mathlib.Core.List.{List}
use Prim.Native.Nat.{ℕ}
use native.Mathlib.Decide.{ℕ_discrete}
use Rattle.automata.specs.TargetBody.{target_of}
use Rattle.contents.specs.Contents.{target_body}
use Rattle.job.specs.File.{file_refusal}
use Rattle.game.specs.Job.{game_of}
use Rattle.play.specs.Play.{start_play, nowhere}
use Rattle.play_advice.specs.Start.{file_start}

-- an accepted file's play begins at the start of its target's run
pub begins : (file : List ℕ) → file_refusal file ≡ 0 → file_start file ≡ start_play (game_of file).target
unfolding file_start
begins file z = if_pos (ℕ_discrete (file_refusal file) 0) z (start_play (game_of file).target) nowhere

pub begun_on : (file b : List ℕ) → file_refusal file ≡ 0 → b ≡ target_body file → start_play (target_of b) ≡ file_start file
unfolding game_of
begun_on file b z e = ap (λ t. start_play (target_of t)) e ∙ sym (begins file z)
