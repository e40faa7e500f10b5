-- The target's run over a small word, tag by tag, as the code makes it.
use mathlib.Core.Path.{◌≡◌, refl, sym, ◌∙◌, ap}
use mathlib.Core.List.{List, [], ◌∷◌}
use Prim.Native.Nat.{ℕ, ◌+◌, ◌<◌, ◌≤◌}
use native.Mathlib.Omega.{arith}
use lib.ListN.{length, get_or, drop}
use Rattle.words.specs.Tag.{codes, word_of}
use Rattle.words.specs.Inner.TagByte.{CodeIs}
use Rattle.words.specs.Opened.{open_at}
use Rattle.words.proofs.Bytes.{from_opening, from_closing, word_of_end}
use Rattle.words.proofs.OpenLaws.{open_up, open_down, open_end}
use Rattle.automata.specs.Target.{Target, at, run}
use Rattle.automata.specs.Small.{Small}
use Rattle.automata.specs.TargetBody.{most_states}

-- every kept state is below n
abbrev pub KeptBelow : ℕ → List ℕ → Type 0
KeptBelow n [] = Unit {0}
KeptBelow n (p ∷ kept) = (p < n) × KeptBelow n kept

-- What is known before tag i: every state is one of the n, and the rest of the run from here leads where the whole run from q does.
pub record Ran (A : Target) (s : List ℕ) (q : ℕ) (kept : List ℕ) (state i : ℕ) : Type 0 where
  pub within : i ≤ length s
  pub counted : length kept ≡ open_at (word_of s) i
  pub state_below : state < A.states
  pub state_small : state < most_states
  pub kept_below : KeptBelow A.states kept
  pub same : run A (drop i (word_of s)) (at state kept) ≡ run A (word_of s) (at q [])

pub ran_none : {A : Target} {s : List ℕ} {q : ℕ} → q < A.states → q < most_states → Ran A s q [] q 0
unfolding open_at
ran_none h l = record { within = omega arith; counted = refl; state_below = h; state_small = l; kept_below = tt; same = refl }

none_kept : (kept : List ℕ) → length kept ≡ 0 → kept ≡ []
none_kept [] e = refl
none_kept (p ∷ kept) e = absurd (omega arith)

module _ {A : Target} {s : List ℕ} {q : ℕ} {kept : List ℕ} {state i : ℕ} (small : Small s) (k : Ran A s q kept state i) where
  -- a turn at a tag of code c
  module _ (h : i < length s) {c : ℕ} (code : CodeIs (get_or s i 0) c) where
    abbrev b : ℕ
    b = get_or s i 0

    pub ran_opening : b < codes → {r : ℕ} → r ≡ A.open_to state c → r < A.states → r < most_states → Ran A s q (state ∷ kept) r (i + 1)
    ran_opening opens e l few =
        record {
          within = omega arith;
          counted = omega (arith, (open_up small h k.counted opens).1);
          state_below = l;
          state_small = few;
          kept_below = (k.state_below, k.kept_below);
          same = rw e (rw (from_opening s i h opens, ← code.opening opens) at k.same);
        }

    module _ (closes : codes ≤ b) {p : ℕ} {rest : List ℕ} (e : kept ≡ p ∷ rest) where
      pub ran_closing : {r : ℕ} → r ≡ A.close_to state p c → r < A.states → r < most_states → Ran A s q rest r (i + 1)
      ran_closing x l few =
          record {
            within = omega arith;
            counted = omega (arith, (open_down small h k.counted closes).1, ap length e);
            state_below = l;
            state_small = few;
            kept_below = (rw e at k.kept_below).1;
            same = rw (x, code.closing closes) (rw (from_closing s i h closes, e) at k.same);
          }

  pub ran_end : length s ≤ i → run A (word_of s) (at q []) ≡ at state []
  ran_end h = sym (rw (word_of_end s i h, none_kept kept (k.counted ∙ open_end small h)) at k.same)
