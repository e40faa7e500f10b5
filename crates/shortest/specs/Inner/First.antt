-- The first of the shortest lawful replies that take the target into a set of states (SPEC 13.2, 13.3).
use Rattle.std.specs.Prelude.{◌≡◌, false, List, [], map, ℕ, ◌<◌, ◌≤◌, length}
use Rattle.std.proofs.Math.Logic.{ite}
use Rattle.std.proofs.Math.Decide.{dec_le}
use Rattle.std.proofs.Math.Seq.{paste}
use Rattle.words.specs.Tag.{Word, byte_of}
use Rattle.words.specs.Order.{Precedes}
use Rattle.automata.specs.Bits.{bit}
use Rattle.automata.specs.Target.{Target, at, run}
use Rattle.automata.specs.Reply.{Form, Lawful}
use Rattle.effects.specs.Effect.{Effect, most_counted}
use Rattle.effects.specs.declared.Shortest.{Shortest}
use Rattle.effects.specs.declared.Shortest.TheVariants.{Unreached, Tags, Longer}

-- u is a lawful reply that takes the target from q to a state of the set; none that does has fewer tags, and none that has as many comes
-- before it
pub record FirstInto (A : Target) (F : Form) (q : ℕ) (In : ℕ → Type 0) (u : Word) : Type 0 where
  pub state : ℕ
  pub in_it : In state
  pub lawful : Lawful F u
  pub reaches : run A u (at q []) ≡ at state []
  pub shortest : (s : ℕ) → In s → (e : Effect A F q s) → length u ≤ length e.reply
  pub first : (s : ℕ) → In s → (e : Effect A F q s) → length e.reply ≡ length u → ¬ Precedes e.reply u

-- the states that a mask does not have
abbrev pub Outside : ℕ → ℕ → Type 0
Outside mask s = bit mask s ≡ false

-- a buffer with a reply from its first byte on; one that is shorter is left as it is
abbrev pub with_reply : List ℕ → Word → List ℕ
with_reply buffer u = ite (dec_le (length u) (length buffer)) (paste buffer 0 (map byte_of u) (length u)) buffer

-- what is answered of a set, and the buffer afterwards: no lawful reply leads into it; the first of the shortest has n tags, at most 4,096,
-- and is written; or it has more
unfoldable pub FoundInto : Target → Form → ℕ → (ℕ → Type 0) → List ℕ → Shortest → List ℕ → Type 0
FoundInto A F q In buffer Unreached left = ((s : ℕ) → In s → ¬ Effect A F q s) × (left ≡ buffer)
FoundInto A F q In buffer (Tags n) left =
    (u : Word) × FirstInto A F q In u × (length u ≡ n) × (n ≤ most_counted) × (left ≡ with_reply buffer u)
FoundInto A F q In buffer Longer left = (u : Word) × FirstInto A F q In u × (most_counted < length u) × (left ≡ buffer)
