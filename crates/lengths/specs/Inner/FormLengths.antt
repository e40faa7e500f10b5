-- The links and the least lengths of a form.
use Rattle.std.specs.Prelude.{◌≡◌, true, List, ℕ}
use Rattle.automata.specs.Bits.{bit}
use Rattle.automata.specs.Target.{Target}
use Rattle.automata.specs.Reply.{Form}
use Rattle.replies.specs.Inner.Links.{LinksOf}
use Rattle.relaxation.specs.Inner.Pairs.{pair_of}
use Rattle.relaxation.specs.Inner.Lengths.{length_of, LeastOf}
use Rattle.lengths.specs.Inner.Search.{LeastLengths}

pub record FormLengths (A : Target) (F : Form) (links lengths : List ℕ) : Type 0 where
  pub links_of : LinksOf F links
  pub least : LeastLengths A links lengths

-- k is the least length from x to target state s with a form state of a mask, among those below n
abbrev pub LeastOver : List ℕ → ℕ → ℕ → ℕ → ℕ → ℕ → Type 0
LeastOver lengths x last s = LeastOf (λ r. bit last r ≡ true) (λ r. length_of lengths x (pair_of r s))
