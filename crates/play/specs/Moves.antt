-- The two moves: what each adds to the finished part (SPEC 8.2, 8.3), and the play after it (SPEC 3.4, 3.5).
use Rattle.std.specs.Prelude.{List, [], ◌∷◌, ℕ, ◌+◌, ◌-◌, length, get_or, set}
use Rattle.std.proofs.Math.Seq.{paste}
use Rattle.words.specs.Tag.{Tag, opening, closing, word_of}
use Rattle.automata.specs.Target.{Target, at, run}
use Rattle.game.specs.Held.{end_state}
use Rattle.play.specs.declared.Play.{Play}

-- a call for a move: read, or fetch with any bytes for a reply
pub data MoveCall : Type 0 where
  to_read : MoveCall
  to_fetch : List ℕ → MoveCall

-- the tag that a move uses up
abbrev pub tag_at : List ℕ → Play → Tag
tag_at bytes p = get_or (word_of bytes) p.position (opening 0)

-- the newest of what is listed for the open elements
abbrev pub newest : Play → List ℕ → ℕ
newest p l = get_or l (p.depth - 1) 0

-- where the piece that a move adds begins (SPEC 8.3), and the piece: a tag out of the record, or the reply (SPEC 8.2)
abbrev pub piece_offset : Play → MoveCall → ℕ
piece_offset p to_read = p.count
piece_offset p (to_fetch u) = newest p p.begins

abbrev pub piece_of : List ℕ → ℕ → MoveCall → List ℕ
piece_of bytes position to_read = get_or bytes position 0 ∷ []
piece_of bytes position (to_fetch u) = u

-- the buffer with the piece that a move adds
abbrev pub with_piece : List ℕ → Play → MoveCall → List ℕ → List ℕ
with_piece bytes p m buffer = let piece = piece_of bytes p.position m in paste buffer (piece_offset p m) piece (length piece)

-- the finished count after a move
abbrev pub count_after : Play → MoveCall → ℕ
count_after p to_read = p.count + 1
count_after p (to_fetch u) = newest p p.begins + length u

-- past a closing tag, in a state and with so many bytes finished: the newest open element is closed
abbrev pub closed_last : Play → List ℕ → List ℕ
closed_last p l = set l (p.depth - 1) 0

abbrev pub past_closing : Play → ℕ → ℕ → Play
past_closing p next count =
    record {
      position = p.position + 1;
      state = next;
      count = count;
      depth = p.depth - 1;
      kept = closed_last p p.kept;
      begins = closed_last p p.begins;
    }

-- the play past a tag that is read (SPEC 3.4), and past a closing tag with a reply for the element (SPEC 3.5)
abbrev pub read_tag : Target → Tag → Play → Play
read_tag A (opening c) p =
    record {
      position = p.position + 1;
      state = A.open_to p.state c;
      count = p.count + 1;
      depth = p.depth + 1;
      kept = set p.kept p.depth p.state;
      begins = set p.begins p.depth p.count;
    }
read_tag A (closing c) p = past_closing p (A.close_to p.state (newest p p.kept) c) (p.count + 1)

abbrev pub fetch_reply : Target → List ℕ → Play → Play
fetch_reply A u p = past_closing p (end_state (run A (word_of u) (at (newest p p.kept) []))) (newest p p.begins + length u)

abbrev pub moved : Target → List ℕ → Play → MoveCall → Play
moved A bytes p to_read = read_tag A (tag_at bytes p) p
moved A bytes p (to_fetch u) = fetch_reply A u p
