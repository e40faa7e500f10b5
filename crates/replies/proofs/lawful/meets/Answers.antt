-- `replies::lawful::meets` meets its contract: `any` is true where a state is both related and of the mask, and false where none is.
use Rattle.std.proofs.Common.{◌≡◌, ℕ, true, refl, rules, tests}
use Rattle.std.proofs.lemmas.Iterator.{cases_from_any, YieldsList-from_range}
use Rattle.automata.specs.Bits.{bit}
use Rattle.automata.specs.ReplyBody.{most_reply_states}
use Rattle.replies.specs.Inner.Relation.{Related}
use Rattle.replies.proofs.SomeState.{some_state}
use Rattle.replies.proofs.lawful.meets.Goals as goal

pub returns : goal.returns
returns c =
    let Met : ℕ → Type 0 = λ t. Related c.args.m c.args.a t × (bit c.args.mask t ≡ true) in
    let met = some_state Met c.any.result (cases_from_any _ _ _ Met (λ t. Met t → ⊥) c.any.ensures.ran
    (YieldsList-from_range 0 most_reply_states most_reply_states refl refl)
    (λ x q k. search (rules, tests)) (λ x q k. search (rules, tests))) in
    (λ e. let (t, h, p) = met.0 e in (t, h, p.0, p.1), λ (t, h, r, b). met.1 (t, h, (r, b)))
