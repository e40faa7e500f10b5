-- What a call does at a place of the record, whatever states are held.
use mathlib.Core.Path.{◌≡◌, refl, sym, ap, subst}
use mathlib.Core.Bool.{true}
use mathlib.Core.List.{List}
use Prim.Native.Nat.{ℕ, ◌+◌, ◌<◌, ◌≤◌, ◌^◌}
use native.Mathlib.Omega.{arith}
use lib.ListN.{length, get_or}
use Rattle.words.specs.Tag.{Tag, opening, closing, word_of}
use Rattle.automata.specs.Target.{Target}
use Rattle.advice.specs.Kept.{play_slots}
use Rattle.play.specs.Play.{start_play, nowhere}
use Rattle.play.specs.Moves.{MoveCall, to_read, to_fetch, tag_at, count_after, past_closing, read_tag, moved, with_piece}
use Rattle.play.specs.Inner.MoveParts.{Open, SameButStates, Writable, with_state}
use Rattle.play.specs.declared.Play.{Play}
use Rattle.play.proofs.MoveLaws.{few_held, room_at_opening, some_at_closing}

pub same_start : (A : Target) → SameButStates (start_play A) nowhere
same_start A = record { position = refl; count = refl; depth = refl; begins = refl }

-- a target that stays in state 0
abbrev pub still : Target
still = record { states = 1; start = 0; accepting = λ q. true; open_to = λ q c. 0; close_to = λ r q c. 0 }

module _ (bytes : List ℕ) (p : Play) where
  -- past each kind of tag, put in state 0
  module _ (A : Target) where
    pub place_opening : (c : ℕ) → tag_at bytes p ≡ opening c → read_tag still (opening c) p ≡ with_state 0 (moved A bytes p to_read)
    place_opening c e = sym (ap (λ t. with_state 0 (read_tag A t p)) e)

    pub place_closing : (c : ℕ) → tag_at bytes p ≡ closing c → past_closing p 0 (p.count + 1) ≡ with_state 0 (moved A bytes p to_read)
    place_closing c e = sym (ap (λ t. with_state 0 (read_tag A t p)) e)

  module _ {q : Play} (s : SameButStates q p) where
    pub same_count : (m : MoveCall) → count_after p m ≡ count_after q m
    same_count to_read = cc s.count
    same_count (to_fetch u) = cc (s.begins, s.depth)

    pub same_piece : (m : MoveCall) (buffer : List ℕ) → with_piece bytes p m buffer ≡ with_piece bytes q m buffer
    same_piece to_read buffer = cc (s.position, s.count)
    same_piece (to_fetch u) buffer = cc (s.begins, s.depth)

    -- a call leads plays that differ only in their states to such plays
    module _ (A B : Target) where
      same_read : (t : Tag) → SameButStates (read_tag A t q) (with_state 0 (read_tag B t p))
      same_read (opening c) =
          record {
            position = cc s.position;
            count = cc s.count;
            depth = cc s.depth;
            begins = cc (s.begins, s.depth, s.count);
          }
      same_read (closing c) =
          record { position = cc s.position; count = cc s.count; depth = cc s.depth; begins = cc (s.begins, s.depth) }

      pub same_moved : (m : MoveCall) → SameButStates (moved A bytes q m) (with_state 0 (moved B bytes p m))
      same_moved to_read =
          let t : tag_at bytes p ≡ tag_at bytes q = ap (λ i. get_or (word_of bytes) i (opening 0)) (sym s.position) in
          subst (λ x. SameButStates (read_tag A x q) (with_state 0 (read_tag B (tag_at bytes p) p))) t (same_read (tag_at bytes p))
      same_moved (to_fetch u) =
          record { position = cc s.position; count = cc (s.begins, s.depth); depth = cc s.depth; begins = cc (s.begins, s.depth) }

  -- what a call that can be made there tells
  module _ {m : MoveCall} (w : Writable bytes p m) where
    pub left_there : p.position < length bytes
    left_there = let s = w.same in omega (arith, w.movable.stands.left)

    pub few_there : p.depth ≤ play_slots
    few_there = let s = w.same in omega (arith, few_held w.target bytes w.play w.movable.stands)

    pub room_there : (c : ℕ) → tag_at bytes p ≡ opening c → p.depth < play_slots
    room_there c e =
        let s = w.same in
        let t : tag_at bytes w.play ≡ opening c = cc s.position in
        omega (arith, room_at_opening w.target bytes w.play w.movable.stands c t)

    pub some_there : (c : ℕ) → tag_at bytes p ≡ closing c → 0 < p.depth
    some_there c e =
        let s = w.same in
        let t : tag_at bytes w.play ≡ closing c = cc s.position in
        omega (arith, some_at_closing w.target bytes w.play w.movable.stands c t)

    pub position_fits : p.position + 1 < 2 ^ 64
    position_fits = let s = w.same in omega (arith, w.movable.stands.left, w.movable.stands.is_record.word.short)

    pub count_fits : count_after p m < 2 ^ 64
    count_fits = let e = same_count w.same m in omega (arith, w.movable.counted)

  pub some_fetched : {u : List ℕ} → Writable bytes p (to_fetch u) → 0 < p.depth
  some_fetched w = let s = w.same in omega (arith, w.movable.replied.0)

  pub open_there : (m : MoveCall) → Writable bytes p m → Open p m
  open_there to_read w = tt
  open_there (to_fetch u) w = (some_fetched w, few_there w)
