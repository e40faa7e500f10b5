-- A target body's validity is decidable. A reader of the contracts needs only the type of `valid_target?` at the end: it gives a proof
-- that the body is valid or a proof that it is not. The rest is how the proof is found; no promise to an outsider cites it.
use Rattle.std.specs.Prelude.{List, ℕ, ◌+◌, ◌*◌, ◌^◌, ◌<◌, ◌≤◌, length}
use Rattle.std.proofs.Math.Decide.{map_dec, dec_le, dec_lt, ℕ_discrete}
use Rattle.words.specs.Numbers.{byte_at, four}
use Rattle.words.specs.Decide.Deciders.{both?, below?}
use Rattle.words.specs.Tag.{codes}
use Rattle.words.specs.Inner.BytesBelow.{BytesBelow}
use Rattle.automata.specs.Decide.MaskBound.{bits_below}
use Rattle.automata.specs.TargetBody.{most_states, target_head, states_of, ValidTarget}

-- every byte of the tables is below n
tables_below? : (b : List ℕ) (n : ℕ) → Dec (BytesBelow b target_head n)
tables_below? b n =
    map_dec (λ f i h l. f i l h) (λ f i l h. f i h l)
    (below? (λ i. target_head ≤ i → byte_at b i < n)
    (λ i. elim (dec_le target_head i) [ yes h ↦ map_dec (λ l _. l) (λ f. f h) (dec_lt (byte_at b i) n) | no n ↦ yes (λ h. absurd (n h)) ])
    (length b))

pub valid_target? : (b : List ℕ) → Dec (ValidTarget b)
valid_target? b =
    let n = states_of b in
    map_dec
    (λ (s, (f, (l, (q, (t, m))))). record {
      some_state = s;
      few_states = f;
      long = l;
      start_state = q;
      table_states = t;
      mask_bits = (bits_below (four b 2) n).1 m;
    })
    (λ v. (v.some_state, (v.few_states, (v.long, (v.start_state, (v.table_states, (bits_below (four b 2) n).0 v.mask_bits))))))
    (both? (dec_le 1 n)
    (both? (dec_le n most_states)
    (both? (ℕ_discrete (length b) (target_head + codes * n + codes * (n * n)))
    (both? (dec_lt (byte_at b 1) n) (both? (tables_below? b n) (dec_lt (four b 2) (2 ^ n)))))))
