-- Whether bytes are a history is decidable. A reader of the contracts needs only the type of `is_history?`.
use Rattle.std.specs.Prelude.{◌≡◌, refl, ℕ, zero, suc, ◌+◌, ◌/◌, ◌%◌, ◌<◌, ◌≤◌, length, take, drop, get_or}
use Rattle.std.proofs.Common.{sym, ◌∙◌, ap, arith, length-drop, length-take, length-append, take-append-drop}
use mathlib.Core.List.{List, [], ◌∷◌, ◌++◌, tail}
use Rattle.std.proofs.Math.Decide.{ℕ_discrete, dec_le, dec_lt, map_dec}
use Rattle.std.proofs.Math.Seq.{take-append_seam, drop-append_seam}
use Rattle.words.specs.Numbers.{two}
use Rattle.play.specs.Moves.{MoveCall, to_read, to_fetch}
use Rattle.sakonite.specs.History.{read_byte, fetch_byte, written, IsHistory}

heads : {x y : ℕ} {s t : List ℕ} → x ∷ s ≡ y ∷ t → x ≡ y
heads {x} e = ap (λ l. get_or l 0 x) e

-- two lists joined, cut where the first ends
pub split_at : (u r v : List ℕ) (n : ℕ) → length u ≡ n → u ++ r ≡ v → (take n v ≡ u) × (drop n v ≡ r)
split_at u r v n l e = rw (← e, ← l) (take-append_seam u r, drop-append_seam u r)

-- calls that are written with a first byte: the first call, and what is left
pub read_taken : (t : List ℕ) (cs : List MoveCall) → written cs ≡ read_byte ∷ t →
    (ds : List MoveCall) × (cs ≡ to_read ∷ ds) × (written ds ≡ t)
read_taken t [] e = let l : 0 ≡ suc (length t) = ap length e in absurd (omega arith)
read_taken t (to_read ∷ ds) e = (ds, refl, ap tail e)
read_taken t (to_fetch u ∷ ds) e = let h : fetch_byte ≡ read_byte = heads e in absurd (omega arith)

pub fetch_taken : (t : List ℕ) (cs : List MoveCall) → written cs ≡ fetch_byte ∷ t →
    (u : List ℕ) × (ds : List MoveCall) × (cs ≡ to_fetch u ∷ ds) × (length u % 256 ∷ length u / 256 ∷ (u ++ written ds) ≡ t)
fetch_taken t [] e = let l : 0 ≡ suc (length t) = ap length e in absurd (omega arith)
fetch_taken t (to_read ∷ ds) e = let h : read_byte ≡ fetch_byte = heads e in absurd (omega arith)
fetch_taken t (to_fetch u ∷ ds) e = (u, ds, refl, ap tail e)

pub other_byte : (b : ℕ) (t : List ℕ) → ¬ (b ≡ read_byte) → ¬ (b ≡ fetch_byte) → (cs : List MoveCall) → ¬ (written cs ≡ b ∷ t)
other_byte b t r f [] e = let l : 0 ≡ suc (length t) = ap length e in omega arith
other_byte b t r f (to_read ∷ ds) e = r (sym (heads e))
other_byte b t r f (to_fetch u ∷ ds) e = f (sym (heads e))

-- a reply and what follows it, read off the two bytes of its length
module _ (a b : ℕ) (v : List ℕ) where
  abbrev pub size : ℕ
  size = two (a ∷ b ∷ v) 0

  lengths : (n : ℕ) → n % 256 ≡ a → n / 256 ≡ b → n ≡ size
  lengths n ea eb = omega arith

  low_byte : (n : ℕ) → n % 256 ≡ a → a < 256
  low_byte n e = omega arith

  pub reply_taken : (cs : List MoveCall) → written cs ≡ fetch_byte ∷ a ∷ b ∷ v →
      (u : List ℕ) × (ds : List MoveCall) × (cs ≡ to_fetch u ∷ ds) × (length u ≡ size) × (u ++ written ds ≡ v)
  reply_taken cs e =
      let t = fetch_taken (a ∷ b ∷ v) cs e in
      let q = t.3 in
      (t.0, t.1, t.2, lengths (length t.0) (heads q) (heads (ap tail q)), ap (λ l. tail (tail l)) q)

  low_taken : (cs : List MoveCall) → written cs ≡ fetch_byte ∷ a ∷ b ∷ v → a < 256
  low_taken cs e = let t = fetch_taken (a ∷ b ∷ v) cs e in low_byte (length t.0) (heads t.3)

  pub reply_within : (cs : List MoveCall) → written cs ≡ fetch_byte ∷ a ∷ b ∷ v → size ≤ length v
  reply_within cs e =
      let t = reply_taken cs e in
      let l : length t.0 + length (written t.1) ≡ length v = sym (length-append t.0 (written t.1)) ∙ ap length t.4 in
      let n = t.3 in
      omega arith

  pub fetch_off : (cs : List MoveCall) → written cs ≡ fetch_byte ∷ a ∷ b ∷ v →
      (ds : List MoveCall) × (cs ≡ to_fetch (take size v) ∷ ds) × (written ds ≡ drop size v)
  fetch_off cs e =
      let t = reply_taken cs e in
      let u = t.0 in
      let ds = t.1 in
      let parts = split_at u (written ds) v size t.3 t.4 in
      (ds, t.2 ∙ ap (λ x. to_fetch x ∷ ds) (sym parts.0), sym parts.1)

  module _ (la : a < 256) where
    low : (n : ℕ) → n ≡ size → n % 256 ≡ a
    low n e = omega arith

    high : (n : ℕ) → n ≡ size → n / 256 ≡ b
    high n e = omega arith

    pub fetch_put : size ≤ length v → (cs : List MoveCall) → written cs ≡ drop size v →
        written (to_fetch (take size v) ∷ cs) ≡ fetch_byte ∷ a ∷ b ∷ v
    fetch_put l cs e =
        let n : length (take size v) ≡ size = let t = length-take size v in omega arith in
        rw (low (length (take size v)) n, high (length (take size v)) n, e, take-append-drop size v) refl

-- one byte more, if histories of at most n bytes are decided
module _ (n : ℕ) (decide? : (t : List ℕ) → length t ≤ n → Dec (IsHistory t)) where
  too_short : (t : List ℕ) → length t < 2 → ¬ IsHistory (fetch_byte ∷ t)
  too_short t l x =
      let k = fetch_taken t x.0 x.1 in
      let e : suc (suc (length (k.0 ++ written k.1))) ≡ length t = ap length k.3 in
      omega arith

  reply? : (t : List ℕ) → length t ≤ n → Dec (IsHistory (fetch_byte ∷ t))
  reply? [] l = no (too_short [] (omega arith))
  reply? (a ∷ []) l = no (too_short (a ∷ []) (omega arith))
  reply? (a ∷ b ∷ v) l =
      elim (dec_lt a 256) [
        | no k ↦ no (λ x. k (low_taken a b v x.0 x.1))
        | yes la ↦ elim (dec_le (size a b v) (length v)) [
          | no k ↦ no (λ x. k (reply_within a b v x.0 x.1))
          | yes within ↦
              map_dec
              (λ x. (to_fetch (take (size a b v) v) ∷ x.0, fetch_put a b v la within x.0 x.1))
              (λ x. let t = fetch_off a b v x.0 x.1 in (t.0, t.2))
              (decide? (drop (size a b v) v) (let d = length-drop (size a b v) v in omega arith))
        ]
      ]

  first? : (b : ℕ) (t : List ℕ) → length t ≤ n → Dec (IsHistory (b ∷ t))
  first? b t l =
      elim (ℕ_discrete b read_byte) [
        | yes e ↦
            rw e
            (map_dec
            (λ x. (to_read ∷ x.0, ap (λ s. read_byte ∷ s) x.1))
            (λ x. let y = read_taken t x.0 x.1 in (y.0, y.2))
            (decide? t l))
        | no r ↦ elim (ℕ_discrete b fetch_byte) [ yes e ↦ rw e (reply? t l) | no f ↦ no (λ x. other_byte b t r f x.0 x.1) ]
      ]

  more? : (h : List ℕ) → length h ≤ suc n → Dec (IsHistory h)
  more? [] l = yes ([], refl)
  more? (b ∷ t) l = first? b t (omega arith)

empty? : (h : List ℕ) → length h ≤ 0 → Dec (IsHistory h)
empty? [] l = yes ([], refl)
empty? (b ∷ t) l = absurd (omega arith)

within? : (n : ℕ) → (h : List ℕ) → length h ≤ n → Dec (IsHistory h)
within? zero = empty?
within? (suc n) = more? n (within? n)

pub is_history? : (h : List ℕ) → Dec (IsHistory h)
is_history? h = within? (length h) h (omega arith)
