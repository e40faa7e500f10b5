-- Demand 3 is met by any kind of play that keeps some laws: whatever ties a play to what its accepted moves spell, each call keeps it.
use mathlib.Core.Path.{◌≡◌, refl, ◌∙◌, subst}
use mathlib.Core.Bool.{Bool, true, false, cond}
use mathlib.Core.Logic.{◌⊎◌, inl, inr, ⊎_elim}
use mathlib.Core.List.{List, [], ◌∷◌}
use Prim.Native.Nat.{ℕ, ◌+◌, ◌-◌}
use native.Mathlib.Omega.{arith}
use native.Mathlib.Decide.{ℕ_discrete}
use lib.ListN.{length, take, drop, drop_of_length-le}
use Rattle.words.specs.Tag.{word_of}
use Rattle.words.proofs.Decided.{decided_yes, decided_true}
use Rattle.automata.specs.Small.{Small}
use Rattle.game.specs.Arena.{Won}
use Rattle.play.specs.Moves.{MoveCall, to_read, to_fetch}
use Rattle.demand.specs.Kind.{Kind}
use Rattle.demand.specs.Demand.{AnyCall, move, advice, game_move, World, at_start, move_accepted, move_made, world_after}
use Rattle.demand.specs.Demand.{accepted_moves, answered, SpellingAt, spelling_start, past, spell_call, spelled_by, NotAtEnd}
use Rattle.demand.specs.Demand.{WonAt, LostAt, LawfulHere}
use Rattle.demand.specs.Demand.{Names, Follows, LongEnough, TakenIn, Followed, Carried, DemandMet}
use Rattle.demand.proofs.Laws.{Finished, Laws}

module _ (K : Kind) (L : Laws K) where
  abbrev ReachedIn : World K → SpellingAt K → Type 0
  ReachedIn W F = L.Reached W.play F

  abbrev FinishedIn : World K → SpellingAt K → Type 0
  FinishedIn W F = Finished K W.play W.buffer F

  -- a play that is tied to what is spelled
  module _ (p : K.Play) (F : SpellingAt K) (t : L.Reached p F) where
    pub won_unless : ¬ LostAt K F → WonAt K F
    won_unless n = ⊎_elim (λ w. w) (λ l. absurd (n l)) (L.decided p F t)

    -- an accepted move that was advised keeps it won
    pub won_by : NotAtEnd K F → (a : ℕ) → K.Advice p a → (m : MoveCall) → Names K a m → (n : ℕ) → K.number p m n ≡ 0 →
        WonAt K (past K (game_move m) F)
    won_by left a v to_read k n z = ((L.says p F t a v).reads left).0 k
    won_by left a v (to_fetch u) k n z = (((L.says p F t a v).fetches left).0 k).1.1 (word_of u) (L.replied p F t u n z)

    -- while it is won and tags are left a move is advised, and that move is accepted: in whatever sense follows from 0 in long buffers
    pub advised_taken : (Takes : MoveCall → Type 0) →
        ((m : MoveCall) → ((buffer : List ℕ) → LongEnough K F m buffer → K.number p m (length buffer) ≡ 0) → Takes m) →
        NotAtEnd K F → WonAt K F → (a : ℕ) → K.Advice p a →
        ((a ≡ 1) × Takes to_read) ⊎ ((a ≡ 2) × ((u : List ℕ) → Small u → LawfulHere K F (word_of u) → Takes (to_fetch u)))
    advised_taken Takes takes left w a v =
        let s = L.says p F t a v in
        ⊎_elim (λ r. inl ((s.reads left).1 r, takes to_read (L.takes_read p F t left)))
        (λ f. inr ((s.fetches left).1 f, λ u small lawful. takes (to_fetch u) (L.takes_fetch p F t left u f.1.0 small lawful)))
        (L.goes_on p F t left w)

  module _ (W : World K) (F : SpellingAt K) (t : ReachedIn W F) (m : MoveCall) (buffer : List ℕ) where
    abbrev zero? : Dec (K.number W.play m (length buffer) ≡ 0)
    zero? = ℕ_discrete (K.number W.play m (length buffer)) 0

    -- what the call leads to, by whether it is accepted
    abbrev next : Bool → World K
    next b = cond b (move_made K W m buffer) W

    reached_move : (b : Bool) → move_accepted K W (move m buffer) ≡ b → ReachedIn (next b) (spell_call K F (move m buffer) b)
    reached_move true e = L.moved W.play F t m (length buffer) (decided_true zero? e)
    reached_move false e = t

    finished_move : (b : Bool) → move_accepted K W (move m buffer) ≡ b →
        (move_accepted K W (move m buffer) ≡ true → take (K.count W.play) buffer ≡ take (K.count W.play) W.buffer) →
        FinishedIn W F → FinishedIn (next b) (spell_call K F (move m buffer) b)
    finished_move true e carried f = L.finished W.play F t m buffer (decided_true zero? e) (carried e ∙ f)
    finished_move false e carried f = f

    -- the move that was advised keeps the play won
    advised_won : move_accepted K W (move m buffer) ≡ true → (a : ℕ) → K.Advice W.play a → Names K a m →
        WonAt K (past K (game_move m) F)
    advised_won e a v n =
        let z = decided_true zero? e in
        let inside = L.within (next true).play (past K (game_move m) F) (L.moved W.play F t m (length buffer) z) in
        won_by W.play F t (omega arith) a v m n (length buffer) z

  pub reached_after : (calls : List AnyCall) (W : World K) (F : SpellingAt K) → ReachedIn W F →
      ReachedIn (world_after K W calls) (spelled_by K F (answered K W calls))
  reached_after [] W F t = t
  reached_after (move m buffer ∷ calls) W F t =
      let b = move_accepted K W (move m buffer) in
      reached_after calls (next W F t m buffer b) (spell_call K F (move m buffer) b) (reached_move W F t m buffer b refl)
  reached_after (advice ∷ calls) W F t = reached_after calls W F t

  finished_after : (calls : List AnyCall) (W : World K) (F : SpellingAt K) → ReachedIn W F → FinishedIn W F → Carried K W calls →
      FinishedIn (world_after K W calls) (spelled_by K F (answered K W calls))
  finished_after [] W F t f carried = f
  finished_after (move m buffer ∷ calls) W F t f carried =
      let b = move_accepted K W (move m buffer) in
      finished_after calls (next W F t m buffer b) (spell_call K F (move m buffer) b) (reached_move W F t m buffer b refl)
      (finished_move W F t m buffer b refl carried.0 f) carried.1
  finished_after (advice ∷ calls) W F t f carried = finished_after calls W F t f carried

  -- after calls that follow the advice: tied, still won, and a tag used up by each accepted move
  abbrev Kept : SpellingAt K → ℕ → World K → SpellingAt K → Type 0
  Kept F n W G = ReachedIn W G × WonAt K G × (G.position ≡ F.position + n)

  kept_after : (calls : List AnyCall) (W : World K) (F : SpellingAt K) → ReachedIn W F → WonAt K F → Follows K W calls →
      Kept F (accepted_moves K W calls) (world_after K W calls) (spelled_by K F (answered K W calls))
  kept_after [] W F t w f = (t, w, omega arith)
  kept_after (move m buffer ∷ calls) W F t w f =
      let After : Bool → Type 0 =
      λ b. let N = next W F t m buffer b in
      Follows K N calls →
      Kept F (cond b 1 0 + accepted_moves K N calls) (world_after K N calls)
      (spelled_by K (spell_call K F (move m buffer) b) (answered K N calls)) in
      (elim (move_accepted K W (move m buffer)) as (λ b. move_accepted K W (move m buffer) ≡ b → After b) [
        | true ↦ λ e g.
            let a = f.0 e in
            let won = advised_won W F t m buffer e a.0 a.1 a.2 in
            let k = kept_after calls (move_made K W m buffer) (past K (game_move m) F) (reached_move W F t m buffer true e) won g in
            (k.0, k.1, omega arith)
        | false ↦ λ e g. let k = kept_after calls W F t w g in (k.0, k.1, omega arith)
      ])
      refl f.1
  kept_after (advice ∷ calls) W F t w f = let k = kept_after calls W F t w f in (k.0, k.1, omega arith)

  -- won with no tag left: the form is met
  pub won_met : (F : SpellingAt K) → F.position ≡ length K.tags → WonAt K F → K.words.met F.spelling ≡ true
  unfolding Won
  won_met F e w =
      let none : drop F.position K.tags ≡ [] = drop_of_length-le K.tags {i = F.position} (omega arith) in
      let h : Won K.words [] F.spelling = subst (λ v. Won K.words v F.spelling) none w in
      h.1 F.spelling refl

  taken : (W : World K) (F : SpellingAt K) (m : MoveCall) →
      ((buffer : List ℕ) → LongEnough K F m buffer → K.number W.play m (length buffer) ≡ 0) → TakenIn K W F m
  taken W F m f buffer long = decided_yes (ℕ_discrete (K.number W.play m (length buffer)) 0) (f buffer long)

  followed : (W : World K) (F : SpellingAt K) → ReachedIn W F → WonAt K F → (more : List AnyCall) → Follows K W more →
      let there = world_after K W more in
      let spelled = spelled_by K F (answered K W more) in
      Followed K (length K.tags - F.position) (accepted_moves K W more) spelled (K.Advice there.play) (TakenIn K there spelled)
  followed W F t w more f =
      let N = world_after K W more in
      let G = spelled_by K F (answered K W more) in
      let k = kept_after more W F t w f in
      let e : G.position ≡ F.position + accepted_moves K W more = k.2 in
      let b = L.within N.play G k.0 in
      let one = L.advised N.play G k.0 in
      record {
        within = omega arith;
        advised = one;
        onward = λ left. advised_taken N.play G k.0 (TakenIn K N G) (taken N G) (omega arith) k.1 one.value one.right;
        ends = λ all.
            let at_end : G.position ≡ length K.tags = omega (arith, L.within W.play F t) in
            (at_end, won_met G at_end k.1);
      }

  -- the demand is met by every list of calls
  pub demand : (calls : List AnyCall) → DemandMet K calls
  demand calls =
      let W = world_after K (at_start K) calls in
      let F = spelled_by K (spelling_start K) (answered K (at_start K) calls) in
      let t = reached_after calls (at_start K) (spelling_start K) L.reached_start in
      let one = L.advised W.play F t in
      let says = L.says W.play F t one.value one.right in
      record {
        position = L.position W.play F t;
        count = L.count W.play F t;
        holds = L.holds W.play F t;
        advised = one;
        says = says;
        follows = λ left n. followed W F t (won_unless W.play F t (λ l. n ((says.lost left).1 l)));
        finished = finished_after calls (at_start K) (spelling_start K) L.reached_start L.finished_start;
      }
