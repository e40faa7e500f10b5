-- A history is written by one list of calls, and one call is taken off it in one way.
use mathlib.Core.Path.{◌≡◌, refl, sym, ◌∙◌, ap}
use mathlib.Core.Logic.{◌↔◌}
use mathlib.Core.List.{List, [], ◌∷◌, ◌++◌, append_assoc}
use Prim.Native.Nat.{ℕ, suc, ◌/◌, ◌%◌, ◌<◌, ◌≤◌}
use native.Mathlib.Omega.{arith}
use lib.ListN.{length, get_or, take, drop, length-take}
use Rattle.std.specs.Prelude.{None, Some}
use Rattle.std.proofs.Common.{take-append-drop}
use Rattle.words.specs.Numbers.{two}
use Rattle.play.specs.Moves.{MoveCall, to_read, to_fetch}
use Rattle.sakonite.specs.History.{read_byte, fetch_byte, written, IsHistory}
use Rattle.sakonite.specs.Decide.History.{split_at, read_taken, fetch_taken, other_byte, reply_taken, reply_within, is_history?}
use Rattle.sakonite.specs.Entries.{calls_of}
use Rattle.sakonite.specs.Inner.CallsTaken.{call_in, StepAt}
use Rattle.sakonite.specs.declared.history.Step.{Step}

-- calls after others are written after them
pub written_append : (cs ds : List MoveCall) → written (cs ++ ds) ≡ written cs ++ written ds
written_append [] ds = refl
written_append (to_read ∷ cs) ds = ap (λ l. read_byte ∷ l) (written_append cs ds)
written_append (to_fetch u ∷ cs) ds = rw (written_append cs ds, append_assoc u (written cs) (written ds)) refl

-- calls that are written with no byte are none
none_written : (cs : List MoveCall) → length (written cs) ≡ 0 → cs ≡ []
none_written [] e = refl
none_written (to_read ∷ cs) e = absurd (omega arith)
none_written (to_fetch u ∷ cs) e = absurd (omega arith)

pub no_bytes : (h : List ℕ) → length h ≡ 0 → StepAt h None
no_bytes h e cs w = none_written cs (ap length w ∙ e)

-- bytes that begin with no call: with another byte than those of calls
pub no_step : (h : List ℕ) (b : ℕ) (t : List ℕ) → h ≡ b ∷ t → ¬ (b ≡ read_byte) → ¬ (b ≡ fetch_byte) → StepAt h None
no_step h b t e r f cs w = absurd (other_byte b t r f cs (w ∙ e))

-- a list that has two items
cut_two : (t : List ℕ) → 2 ≤ length t → t ≡ get_or (take 2 t) 0 0 ∷ get_or (take 2 t) 1 0 ∷ drop 2 t
cut_two [] l = absurd (omega arith)
cut_two (x ∷ []) l = absurd (omega arith)
cut_two (x ∷ y ∷ t) l = refl

-- those of a fetch
module _ {h t : List ℕ} (e : h ≡ fetch_byte ∷ t) where
  -- without the reply's length
  pub short_step : length t < 2 → StepAt h None
  short_step l cs w =
      let f = fetch_taken t cs (w ∙ e) in
      let n : suc (suc (length (f.0 ++ written f.1))) ≡ length t = ap length f.3 in
      absurd (omega arith)

  -- or with it
  module _ {size v : List ℕ} (long : 2 ≤ length t) (s : size ≡ take 2 t) (d : v ≡ drop 2 t) where
    abbrev a : ℕ
    a = get_or size 0 0

    abbrev b : ℕ
    b = get_or size 1 0

    opened : h ≡ fetch_byte ∷ a ∷ b ∷ v
    opened = e ∙ ap (λ l. fetch_byte ∷ l) (cut_two t long ∙ rw (s, d) refl)

    -- but without the whole reply
    pub cut_step : (n : ℕ) → n ≡ two size 0 → length v < n → StepAt h None
    cut_step n r l cs w = let m = reply_within a b v cs (w ∙ opened) in absurd (omega arith)

    pub fetch_step : (n : ℕ) → n ≡ two size 0 → n ≤ length v → (u rest : List ℕ) → u ≡ take n v → rest ≡ drop n v → get_or h 1 0 < 256 →
        written (to_fetch u ∷ []) ++ rest ≡ h
    fetch_step n r l u rest eu er low =
        let all : u ++ rest ≡ v = rw (eu, er) (take-append-drop n v) in
        let many : length u ≡ n = let k = length-take n v in rw eu (omega arith) in
        let same : get_or h 1 0 ≡ a = ap (λ l. get_or l 1 0) opened in
        let first : length u % 256 ≡ a = omega arith in
        let second : length u / 256 ≡ b = omega arith in
        rw (first, second, append_assoc u [] rest, all) (sym opened)

-- bytes that begin with a call are written by no calls but those that begin with it
pub step_taken : (m : MoveCall) (rest h : List ℕ) → written (m ∷ []) ++ rest ≡ h → (cs : List MoveCall) → written cs ≡ h →
    (ds : List MoveCall) × (cs ≡ m ∷ ds) × (written ds ≡ rest)
step_taken to_read rest h e cs w = read_taken rest cs (w ∙ sym e)
step_taken (to_fetch u) rest h e cs w =
    let a = length u % 256 in
    let b = length u / 256 in
    let f : fetch_byte ∷ a ∷ b ∷ (u ++ rest) ≡ h = ap (λ l. fetch_byte ∷ a ∷ b ∷ l) (sym (append_assoc u [] rest)) ∙ e in
    let t = reply_taken a b (u ++ rest) cs (w ∙ sym f) in
    let long : length t.0 ≡ length u = let n = t.3 in omega arith in
    let there = split_at t.0 (written t.1) (u ++ rest) (length u) long t.4 in
    let here = split_at u rest (u ++ rest) (length u) refl refl in
    (t.1, t.2 ∙ ap (λ x. to_fetch x ∷ t.1) (sym there.0 ∙ here.0), sym there.1 ∙ here.1)

-- calls that are written alike are the same
pub calls_unique : (cs ds : List MoveCall) → written cs ≡ written ds → cs ≡ ds
calls_unique [] ds e = sym (none_written ds (sym (ap length e)))
calls_unique (m ∷ cs) ds e =
    let t = step_taken m (written cs) (written (m ∷ cs)) (sym (written_append (m ∷ []) cs)) ds (sym e) in
    ap (λ x. m ∷ x) (calls_unique cs t.0 (sym t.2)) ∙ sym t.1

-- the calls of a history are written as it
pub calls_written : (h : List ℕ) → IsHistory h → written (calls_of h) ≡ h
unfolding calls_of
calls_written h x =
    elim (is_history? h) as (λ d. written (elim d [ yes y ↦ y.0 | no _ ↦ [] ]) ≡ h) [ yes y ↦ y.1 | no n ↦ absurd (n x) ]

-- and no others are written as it
pub calls_are : (cs : List MoveCall) → calls_of (written cs) ≡ cs
calls_are cs = calls_unique (calls_of (written cs)) cs (calls_written (written cs) (cs, refl))

-- behind the first call
module _ {h : List ℕ} (s : Step) (st : StepAt h (Some s)) where
  -- are the others of a history
  pub step_history : IsHistory s.rest.now ↔ IsHistory h
  step_history = (
    λ x. (call_in s ∷ x.0, written_append (call_in s ∷ []) x.0 ∙ ap (λ l. written (call_in s ∷ []) ++ l) x.1 ∙ st),
    λ x. let t = step_taken (call_in s) s.rest.now h st x.0 x.1 in (t.0, t.2),
  )

  module _ (x : written (calls_of h) ≡ h) where
    pub rest_written : written (calls_of s.rest.now) ≡ s.rest.now
    rest_written = calls_written s.rest.now (step_history.1 (calls_of h, x))

    pub calls_after : calls_of h ≡ call_in s ∷ calls_of s.rest.now
    calls_after =
        let t = step_taken (call_in s) s.rest.now h st (calls_of h) x in
        t.1 ∙ ap (λ ds. call_in s ∷ ds) (calls_unique t.0 (calls_of s.rest.now) (t.2 ∙ sym rest_written))

    pub calls_fewer : length (calls_of s.rest.now) < length (calls_of h)
    calls_fewer = let e : length (calls_of h) ≡ suc (length (calls_of s.rest.now)) = ap length calls_after in omega arith
