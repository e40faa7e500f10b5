-- `contents::Entries::is_due` meets its contract: the kind, then the code.
use mathlib.Core.Path.{◌≡◌, sym, ◌∙◌, ap}
use lib.ListN.{get_or}
use borrow.Author.Tests.{eq-eqb, eqb-true}
use Rattle.words.specs.Vocabulary.{vocabulary, fetchable}
use Rattle.contents.specs.Contents.{role_bytes, role_at, has_form, form_codes, roles}
use Rattle.contents.specs.declared.Role.TheVariants.{Target}
use Rattle.contents.proofs.ContentLaws.{due_bytes}
use Rattle.contents.proofs.Entries.is_due.Goals as goal

pub returns-then-self-at : goal.returns-then-self-at
unfolding roles form_codes has_form fetchable vocabulary
returns-then-self-at c =
    let due = due_bytes c.args.i c.requires in (
      λ t.
          let e = eqb-true _ _ t in
          let same : role_at c.args.self.file.now c.args.i ≡ role_bytes (get_or roles c.args.i Target) = cc in
          same ∙ sym due,
      λ q. eq-eqb _ _ (let e = ap (λ l. get_or l 1 0) (q ∙ due) in cc),
    )

pub returns-else-self-at : goal.returns-else-self-at
unfolding roles form_codes has_form fetchable vocabulary
returns-else-self-at c =
    let due = due_bytes c.args.i c.requires in (
      λ t. absurd (c.if-self-at.false (eqb-true _ _ t)),
      λ q. absurd (c.if-self-at.false (let e = ap (λ l. get_or l 0 0) (q ∙ due) in cc)),
    )
