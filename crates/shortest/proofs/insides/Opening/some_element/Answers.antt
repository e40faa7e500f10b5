-- `shortest::insides::Opening::some_element` meets its contract: `any` is true where such an element begins, and false where none does.
use Rattle.std.proofs.Common.{ℕ, get_or, refl, rules, tests}
use Rattle.std.proofs.lemmas.Iterator.{cases_from_any, YieldsList-from_range}
use Rattle.automata.specs.ReplyBody.{most_reply_states}
use Rattle.relaxation.specs.Inner.PairSet.{Member}
use Rattle.replies.specs.Inner.Links.{link_index}
use Rattle.replies.proofs.SomeState.{some_state}
use Rattle.shortest.specs.Inner.Insides.{EndsAt}
use Rattle.shortest.proofs.insides.Opening.some_element.Goals as goal

pub returns : goal.returns
returns c =
    let o = c.args.self in
    let a = c.args in
    let Ends : ℕ → Type 0 =
    λ p. EndsAt o.tables.lengths.table.now (Member o.stops.now.masks) o.q p (get_or o.tables.links.now (link_index a.c p a.a a.b) 0)
    a.t a.e in
    some_state Ends c.any.result (cases_from_any _ _ _ Ends (λ p. Ends p → ⊥) c.any.ensures.ran
    (YieldsList-from_range 0 most_reply_states most_reply_states refl refl)
    (λ x q k. search (rules, tests)) (λ x q k. search (rules, tests)))
