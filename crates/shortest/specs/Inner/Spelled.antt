-- What is written of a forest, and the goals with which the search begins.
use Rattle.std.specs.Prelude.{◌≡◌, Bool, true, List, map, ℕ, ◌+◌, ◌*◌, length}
use Rattle.std.proofs.Math.Seq.{paste}
use Rattle.words.specs.Tag.{Word, byte_of}
use Rattle.words.specs.Forest.{Forest, tags}
use Rattle.words.proofs.ForestLong.{elements}
use Rattle.automata.specs.Target.{Target}
use Rattle.automata.specs.Inner.TargetRead.{over}
use Rattle.automata.specs.Reply.{Form}
use Rattle.replies.specs.Inner.Relation.{OverIs}
use Rattle.relaxation.specs.Inner.Pairs.{pair_count, pair_of, form_part, target_part}
use Rattle.relaxation.specs.Inner.Lengths.{length_of, LeastOf}
use Rattle.shortest.specs.Inner.First.{Outside, FirstInto}
use Rattle.shortest.specs.Inner.Wanted.{FirstWanted}
use Rattle.shortest.specs.declared.spell.Spelled.{Spelled}

-- the word of a forest, from a place on
abbrev pub with_forest : List ℕ → ℕ → Forest → List ℕ
with_forest buffer at f = paste buffer at (map byte_of (tags f)) (length (tags f))

-- a forest was written from a place on: where it leads the form's states and the target, and where it ends
pub record SpelledAt (A : Target) (F : Form) (q : ℕ) (f : Forest) (at : ℕ) (r : Spelled) (old new : List ℕ) : Type 0 where
  pub relation : OverIs F f r.relation
  pub state : r.state ≡ over A f q
  pub end : r.end ≡ at + 2 * elements f
  pub bytes : new ≡ with_forest old at f

-- it is the first that is wanted
abbrev pub FirstSpelled : Target → Form → List ℕ → List ℕ → ℕ → ℕ → Spelled → List ℕ → List ℕ → Type 0
FirstSpelled A F lengths goals q at r old new = (f : Forest) × FirstWanted A F lengths goals q f × SpelledAt A F q f at r old new

-- a pair with a form state that passes and a target state that the mask does not have
abbrev pub EndsOutside : (ℕ → Bool) → ℕ → ℕ → Type 0
EndsOutside accepting set z = (accepting (form_part z) ≡ true) × Outside set (target_part z)

-- k is the least length from the form's start and q to such a pair, by the form's accepting states
abbrev pub LeastOutside : Form → List ℕ → ℕ → ℕ → ℕ → Type 0
LeastOutside F lengths q set k = LeastOf (EndsOutside F.accepting set) (length_of lengths (pair_of F.start q)) pair_count k

-- the goals are those of these pairs that have it
abbrev pub FirstGoal : Form → List ℕ → ℕ → ℕ → ℕ → ℕ → ℕ → Type 0
FirstGoal F lengths q set k p z =
    (p ≡ F.start) × EndsOutside F.accepting set z × (length_of lengths (pair_of F.start q) z ≡ k)

-- the first of the shortest replies that lead out of the set was written from the first byte on; it has k elements
pub record FirstWritten (A : Target) (F : Form) (q set k : ℕ) (old new : List ℕ) : Type 0 where
  pub reply : Word
  pub first : FirstInto A F q (Outside set) reply
  pub tags : length reply ≡ 2 * k
  pub bytes : new ≡ paste old 0 (map byte_of reply) (length reply)
