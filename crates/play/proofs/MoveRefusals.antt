-- Each refusal of a move under its condition, and what a move that is not refused has passed, said without numbers.
use mathlib.Core.Path.{◌≡◌, ◌∙◌}
use mathlib.Core.HLevel.{dec→stable}
use mathlib.Core.Logic.{◌↔◌}
use mathlib.Core.List.{List, [], ◌∷◌, ◌++◌}
use Prim.Native.Nat.{ℕ, ◌<◌, ◌≤◌}
use native.Mathlib.Omega.{arith}
use native.Mathlib.Decide.{dec_le}
use lib.Dec.{lit<}
use lib.ListN.{length, length-map}
use Rattle.words.specs.Decide.Deciders.{both?}
use Rattle.words.specs.Tag.{tag_of, word_of}
use Rattle.job.specs.Refusal.{RefusalRule, first_of}
use Rattle.job.proofs.Accepted.{positive}
use Rattle.job.proofs.Refusals.{Numbered, NoneBroken, first_broken, first_kept, passed_first, first_passed}
use Rattle.job.proofs.Refusals.{append_passed, append_refused, append_numbered, append_parts}
use Rattle.game.specs.Game.{Game}
use Rattle.fetching.proofs.FetchRefusals.{FetchTaken, fetch_kept, kept_fetch, fetch_numbered}
use Rattle.play.specs.Play.{PlayFits}
use Rattle.play.specs.Decide.Play.{play_fits?}
use Rattle.play.specs.Moves.{MoveCall, to_read, to_fetch, tag_at, count_after}
use Rattle.play.specs.MoveRules.{rule21, rule22, rule24, tag_rules, play_rules}
use Rattle.play.specs.Inner.MoveParts.{refusal_of}
use Rattle.play.specs.declared.Play.{Play}

module _ (G : Game) (bytes : List ℕ) (p : Play) where
  -- what a fetch alone has to pass
  abbrev pub FetchPasses : MoveCall → Type 0
  FetchPasses to_read = Unit {0}
  FetchPasses (to_fetch u) = FetchTaken G (tag_at bytes p) u

  tag_kept : (m : MoveCall) → FetchPasses m → NoneBroken (tag_rules G (tag_at bytes p) m)
  tag_kept to_read x = tt
  tag_kept (to_fetch u) x = fetch_kept G (tag_at bytes p) u x

  kept_tag : (m : MoveCall) → NoneBroken (tag_rules G (tag_at bytes p) m) → FetchPasses m
  kept_tag to_read x = tt
  kept_tag (to_fetch u) x = kept_fetch G (tag_at bytes p) u x

  tag_numbered : (m : MoveCall) → Numbered (tag_rules G (tag_at bytes p) m)
  tag_numbered to_read = tt
  tag_numbered (to_fetch u) = fetch_numbered G (tag_at bytes p) u

  pub tag_passed : (m : MoveCall) → first_of (tag_rules G (tag_at bytes p) m) ≡ 0 → FetchPasses m
  tag_passed m e = kept_tag m (first_passed (tag_rules G (tag_at bytes p) m) (tag_numbered m) e)

pub record Passes (G : Game) (bytes : List ℕ) (p : Play) (m : MoveCall) (room : ℕ) : Type 0 where
  pub fits : PlayFits G.target (word_of bytes) p
  pub lent : p.count ≤ room
  pub left : p.position < length (word_of bytes)
  pub fetched : FetchPasses G bytes p m
  pub roomy : count_after p m ≤ room

-- all of them, in their order
module _ (G : Game) (bytes : List ℕ) (p : Play) (m : MoveCall) (room : ℕ) where
  abbrev reply : List RefusalRule
  reply = tag_rules G (tag_at bytes p) m

  abbrev last : List RefusalRule
  last = rule24 p m room ∷ []

  abbrev first : RefusalRule
  first = rule21 G.target (word_of bytes) p room

  abbrev pub FitsWithRoom : Type 0
  FitsWithRoom = PlayFits G.target (word_of bytes) p × (p.count ≤ room)

  pub refused_21 : ¬ FitsWithRoom → refusal_of G bytes p m room ≡ 21
  unfolding refusal_of play_rules
  refused_21 n = first_broken first _ n

  module _ (f : FitsWithRoom) where
    pub refused_22 : p.position ≡ length bytes → refusal_of G bytes p m room ≡ 22
    unfolding refusal_of play_rules
    refused_22 e = first_kept first _ (λ n. n f) ∙ first_broken (rule22 bytes p) _ e

    module _ (left : p.position < length bytes) where
      past_22 : refusal_of G bytes p m room ≡ first_of (reply ++ last)
      unfolding refusal_of play_rules
      past_22 = first_kept first _ (λ n. n f) ∙ first_kept (rule22 bytes p) _ (λ e. omega arith)

      pub reply_refused : ¬ (first_of reply ≡ 0) → refusal_of G bytes p m room ≡ first_of reply
      reply_refused n = past_22 ∙ append_refused reply last n

      module _ (x : FetchPasses G bytes p m) where
        past_19 : refusal_of G bytes p m room ≡ first_of last
        past_19 = past_22 ∙ append_passed reply last (tag_kept G bytes p m x)

        pub refused_24 : room < count_after p m → refusal_of G bytes p m room ≡ 24
        refused_24 h = past_19 ∙ first_broken (rule24 p m room) [] h

        pub not_refused : count_after p m ≤ room → refusal_of G bytes p m room ≡ 0
        not_refused h = past_19 ∙ passed_first last (λ l. omega arith, tt)

  pub rules_numbered : Numbered (play_rules G bytes p m room)
  unfolding play_rules
  rules_numbered =
      let rest = append_numbered reply last (tag_numbered G bytes p m) (positive 24 (lit< tt), tt) in
      (positive 21 (lit< tt), (positive 22 (lit< tt), rest))

  pub rules_passed : NoneBroken (play_rules G bytes p m room) → Passes G bytes p m room
  unfolding play_rules
  rules_passed x =
      let f = dec→stable (both? (play_fits? G.target (word_of bytes) p) (dec_le p.count room)) x.0 in
      let rest = append_parts reply last x.1.1 in
      let short = rest.1.0 in
      let l = length-map bytes tag_of in
      let h = f.0.within in
      let end = x.1.0 in
      record { fits = f.0; lent = f.1; left = omega arith; fetched = kept_tag G bytes p m rest.0; roomy = omega arith }

  -- a move is not refused exactly when it passes
  pub refusal_passes : (refusal_of G bytes p m room ≡ 0) ↔ Passes G bytes p m room
  unfolding refusal_of
  refusal_passes = (
    λ z. rules_passed (first_passed (play_rules G bytes p m room) rules_numbered z),
    λ x. not_refused (x.fits, x.lent) (let l = length-map bytes tag_of in let h = x.left in omega arith) x.fetched x.roomy,
  )
