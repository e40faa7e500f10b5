-- A reply body's validity is decidable. A reader of the contracts needs only the type of `valid_reply?` at the end: it gives a proof
-- that the bytes are a reply form's body or a proof that they are not. The rest is how the proof is found.
use Rattle.std.specs.Prelude.{List, false, ◌≡◌, ℕ, ◌+◌, ◌*◌, ◌^◌, ◌≤◌, length}
use Rattle.std.proofs.Math.Decide.{map_dec, ℕ_discrete, dec_le, dec_lt}
use Rattle.words.specs.Numbers.{byte_at}
use Rattle.words.specs.Tag.{codes}
use Rattle.words.specs.Decide.Deciders.{both?, below?}
use Rattle.automata.specs.Bits.{bit}
use Rattle.automata.specs.Decide.MaskBound.{bits_below}
use Rattle.automata.specs.declared.reply.FormRule.{FormRule}
use Rattle.automata.specs.ReplyBody.{most_reply_states, most_rules, reply_head, rule_bytes, reply_states, opening_count, closing_count}
use Rattle.automata.specs.ReplyBody.{rule_offset, opening_rule_at, closing_rule_at, ValidRule, ValidReply}

valid_rule? : (m : ℕ) (x : FormRule) → Dec (ValidRule m x)
valid_rule? m x =
    map_dec (λ ((s, c), (n, k)). record { state = s; code = c; next = n; kept = k }) (λ v. ((v.state, v.code), (v.next, v.kept)))
    (both? (both? (dec_lt x.state m) (dec_lt x.code codes)) (both? (dec_lt x.next m) (dec_lt x.kept m)))

mask? : (b : List ℕ) → Dec ((i : ℕ) → reply_states b ≤ i → bit (byte_at b 2) i ≡ false)
mask? b = let h = bits_below (byte_at b 2) (reply_states b) in map_dec h.1 h.0 (dec_lt (byte_at b 2) (2 ^ reply_states b))

pub valid_reply? : (b : List ℕ) → Dec (ValidReply b)
valid_reply? b =
    map_dec
    (λ ((m, n), ((o, c), ((l, s), ((os, cs), k)))). record {
      some_state = m;
      few_states = n;
      few_openings = o;
      few_closings = c;
      long = l;
      start_state = s;
      opening_rules = os;
      closing_rules = cs;
      mask_bits = k;
    })
    (λ v. (
      (v.some_state, v.few_states),
      ((v.few_openings, v.few_closings), ((v.long, v.start_state), ((v.opening_rules, v.closing_rules), v.mask_bits))),
    ))
    (both? (both? (dec_le 1 (reply_states b)) (dec_le (reply_states b) most_reply_states))
    (both? (both? (dec_le (opening_count b) most_rules) (dec_le (closing_count b) most_rules))
    (both? (both? (ℕ_discrete (length b) (reply_head + rule_bytes * (opening_count b + closing_count b)))
    (dec_lt (byte_at b 1) (reply_states b)))
    (both? (both? (below? _ (λ i. valid_rule? (reply_states b) (opening_rule_at b (rule_offset i))) (opening_count b))
    (below? _ (λ j. valid_rule? (reply_states b) (closing_rule_at b (rule_offset (opening_count b + j)))) (closing_count b)))
    (mask? b)))))
