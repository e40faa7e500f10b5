-- The marked plays (SPEC 9.4): each file loads, and each record is won or lost as the table says. One check settles a play by
-- computing on the bytes of its file; the theorem is that all ten pass it.
use mathlib.Core.Path.{◌≡◌, refl, sym, ◌∙◌, ap₂, subst, fun_ext}
use mathlib.Core.Bool.{Bool, true, false, ◌&&◌, ◌||◌, false≢true}
use mathlib.Core.Logic.{◌↔◌, ◌≢◌}
use mathlib.Core.List.{List, [], ◌∷◌, ◌++◌, flat_map, Memᴰ}
use Prim.Native.Nat.{ℕ}
use native.Mathlib.Omega.{arith}
use lib.ListN.{take, drop, take-append-drop}
use Rattle.words.specs.Tag.{Tag, Word, tag_of}
use Rattle.words.specs.Vocabulary.{vocabulary, fetchable}
use Rattle.automata.specs.Bits.{bit}
use Rattle.automata.specs.Target.{Closed, Config, at, run}
use Rattle.automata.specs.TargetBody.{target_of}
use Rattle.automata.specs.ReplyBody.{form_of}
use Rattle.automata.proofs.TargetTables.{target_closed}
use Rattle.contents.specs.Contents.{has_form, form_codes, form_entry, record_entry, body_of, target_body}
use Rattle.contents.specs.Bodies.{file_of}
use Rattle.contents.proofs.ContentLaws.{fetchable_form}
use Rattle.job.specs.Accepted.{ValidBodies}
use Rattle.job.proofs.Accepted.{is_accepted}
use Rattle.job.proofs.OneFile.{file_accepted}
use Rattle.job.specs.Accepted.{Accepted}
use Rattle.game.specs.Arena.{read, Won, Lost}
use Rattle.game.specs.Game.{Game}
use Rattle.game.specs.Held.{replacing, held}
use Rattle.game.specs.Spelled.{Spelling, unspelled, spell, spelled}
use Rattle.words.specs.Inner.All.{all}
use Rattle.game.specs.Job.{game_of, record_of}
use Rattle.game.specs.Listed.{Listed}
use Rattle.game.specs.Advice.{AdviceIs}
use Rattle.named_plays.specs.NamedPlays.{NamedPlay, play_file, NamedRight, named_plays, spelled_read}
use Rattle.game.proofs.Solve.{win_at, won_iff, lost_iff}
use Rattle.words.proofs.RestLaws.{closes_nested}
use Rattle.game.proofs.RuleGame.{fetched, fits_read, rule_finite}
use Rattle.game.proofs.HeldGame.{Exact, HeldFits, held_listed}
use Rattle.game.proofs.SpelledGame.{SpelledTied, tied_read, run_held, at_start, spelled_won, spelled_lost}
use Rattle.game.proofs.AdviceRule.{advised}
use Rattle.game.proofs.AdviceTied.{advice_tied}
use Rattle.named_plays.proofs.Checks.{Check, is_true, agree, gives, both, each, each_named}
use Rattle.named_plays.proofs.Samples.{Sampled, effect_of, effect_exact}
use Rattle.named_plays.proofs.BodyChecks.{SampledForms, sampled_forms, valid_bodies}

module _ (G : Game) where
  abbrev effects : ℕ → ℕ → List ℕ
  effects c q = effect_of G.target (G.forms c) q

  -- the positions after a fetch, and the solver's test, with the effects of the samples
  abbrev after : Tag → Config → List Config
  after t k = fetched (λ c q r. effects c q) t k

  abbrev wins : Word → Config → Bool
  wins [] k = (held G).met k
  wins (t ∷ w) k = wins w ((held G).step read t k) || ((held G).may t k && all (λ y. wins w y) (after t k))

  -- whether reading the tag here is won
  abbrev wins_read : Word → Config → Bool
  wins_read [] k = false
  wins_read (t ∷ w) k = wins w ((held G).step read t k)

  module _ (closed : Closed G.target) (few : (c : ℕ) → G.fetchable c ≡ true → Sampled G.target (G.forms c)) where
    exact : Exact G effects
    exact c q s m h = effect_exact G.target (G.forms c) closed (few c m) q s h

    abbrev listing : Listed (replacing G)
    listing = held_listed G effects closed exact

    wins_at : (w : Word) (k : Config) → win_at (held G) (rule_finite (replacing G) listing) w k ≡ wins w k
    unfolding win_at rule_finite
    wins_at [] k = refl
    wins_at (t ∷ w) k =
        ap₂ (λ a S. a || ((held G).may t k && all S (after t k))) (wins_at w ((held G).step read t k)) (fun_ext (λ y. wins_at w y))

    module _ (w : Word) (k : Config) (fits : HeldFits G w k) where
      wins_won : Won (held G) w k ↔ (wins w k ≡ true)
      unfolding rule_finite
      wins_won = rw (← wins_at w k) (won_iff (held G) (rule_finite (replacing G) listing) w k fits)

      wins_lost : Lost (held G) w k ↔ (wins w k ≡ false)
      unfolding rule_finite
      wins_lost = rw (← wins_at w k) (lost_iff (held G) (rule_finite (replacing G) listing) w k fits)

    -- where reading is won, the advice is to read
    wins_advice : (w : Word) (k : Config) → HeldFits G w k → wins_read w k ≡ true → AdviceIs G w k 1
    wins_advice [] k fits e = absurd (false≢true e)
    wins_advice (t ∷ w) k fits e = advised (replacing G) listing t w k fits true _ (wins_at w ((held G).step read t k) ∙ e) refl

    -- what is held after reading fits the tags left
    fits_run : (v w : Word) (k : Config) → HeldFits G (v ++ w) k → HeldFits G w (run G.target v k)
    fits_run [] w k fits = fits
    fits_run (t ∷ v) w k fits = fits_run v w ((held G).step read t k) (fits_read (replacing G) listing t (v ++ w) k fits)

  -- what is held after reading is where what is spelled then leads
  tied_run : (v w : Word) (s : Spelling) (k : Config) → SpelledTied G (v ++ w) s k → SpelledTied G w (spelled_read v s) (run G.target v k)
  tied_run [] w s k r = r
  tied_run (t ∷ v) w s k r =
      tied_run v w (spell read t s) ((held G).step read t k) (tied_read G t (v ++ w) s.word s.notes k r.0 r.1)

module _ (e : NamedPlay) where
  abbrev G : Game
  G = game_of (play_file e)

  abbrev w : Word
  w = record_of (play_file e)

  -- what is held after the first n tags have been read
  abbrev here : ℕ → Config
  here n = run G.target (take n w) (at G.target.start [])

  few : SampledForms (play_file e) → (c : ℕ) → G.fetchable c ≡ true → Sampled G.target (G.forms c)
  unfolding game_of
  few s c m = s c (fetchable_form c m)

  closed : Accepted (play_file e) → Closed G.target
  unfolding game_of
  closed a = target_closed (target_body (play_file e)) a.bodies.target

  -- after reading each number of tags that the table names, reading is won
  abbrev Reads : Type 0
  Reads = (n : ℕ) → Memᴰ n e.reads → wins_read G (drop n w) (here n) ≡ true

  settled : ValidBodies e.job × (SampledForms (play_file e) × ((wins G w (here 0) ≡ e.won) × Reads)) → NamedRight e
  unfolding run_held
  settled (b, (s, (v, h))) =
      let ok = file_accepted e.job b in
      let a = is_accepted (play_file e) ok in
      let k = closed a in
      let fits : HeldFits G w (here 0) = (k.start_below, tt, closes_nested a.bodies.is_record.word.nested) in
      record {
        loads = ok;
        is_won = λ y. (spelled_won G w unspelled (here 0) (at_start G) fits.2).1 ((wins_won G k (few s) w (here 0) fits).1 (v ∙ y));
        is_lost = λ y. (spelled_lost G w unspelled (here 0) (at_start G) fits.2).1 ((wins_lost G k (few s) w (here 0) fits).1 (v ∙ y));
        is_read = λ n m.
            let whole = subst (λ u. HeldFits G u (here 0)) (sym (take-append-drop n w)) fits in
            let there = fits_run G k (few s) (take n w) (drop n w) (here 0) whole in
            let tied = tied_run G (take n w) (drop n w) unspelled (here 0) (at_start G, whole.2) in
            (advice_tied (spelled G) (held G) (run_held G) (drop n w) _ (here n) tied 1).1
            (wins_advice G k (few s) (drop n w) (here n) there (h n m));
      }

  abbrev settle : Check (NamedRight e)
  settle =
      gives settled
      (both (valid_bodies e.job)
      (both (sampled_forms (play_file e))
      (both (agree (wins G w (here 0)) e.won)
      (each (λ n. is_true (wins_read G (drop n w) (here n))) e.reads))))

-- absurd of a play: that it has no number
abbrev Unnumbered : NamedPlay → Type 0
Unnumbered e = (play : ℕ) → play ≢ e.number

-- all ten pass
pub named_plays_lem : (e : NamedPlay) → Memᴰ e named_plays → NamedRight e
unfolding named_plays flat_map tag_of vocabulary fetchable bit game_of target_of form_of has_form form_codes form_entry record_entry body_of
    file_of
named_plays_lem = each_named settle Unnumbered (λ e h. h e.number refl) named_plays (omega arith)
