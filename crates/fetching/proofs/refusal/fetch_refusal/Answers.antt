-- `fetch_refusal` meets its contract: where fetching is allowed, then the reply.
use mathlib.Core.Path.{◌≡◌, sym, ◌∙◌, ap}
use mathlib.Core.Bool.{Bool, true, decide, false≢true}
use mathlib.Core.List.{List}
use Prim.Native.Nat.{ℕ}
use Rattle.words.specs.Tag.{closing, code_of, tag_of, word_of}
use Rattle.words.specs.Inner.TagByte.{CodeIs}
use Rattle.words.specs.Decide.Words.{within_depth?}
use Rattle.words.proofs.Decided.{decided_true, decided_false}
use Rattle.automata.specs.ReplyBody.{form_of}
use Rattle.automata.specs.Small.{most_reply_depth, Small}
use Rattle.automata.proofs.Lawful.{lawful?}
use Rattle.replies.proofs.TransitionLaws.{from_part}
use Rattle.contents.specs.Contents.{has_form, reply_body}
use Rattle.contents.proofs.ContentLaws.{fetchable_form}
use Rattle.job.proofs.Refusals.{passed_first}
use Rattle.game.specs.Job.{game_of}
use Rattle.fetching.specs.FetchRules.{FetchAllowed}
use Rattle.fetching.proofs.FetchLaws.{closes_allowed, fetchable_closing, form_closing}
use Rattle.fetching.proofs.FetchRefusals.{refused_23, refused_18, refused_19, fetch_kept}
use Rattle.fetching.proofs.refusal.fetch_refusal.Goals as goal

-- where a fetch is allowed the element closes, its code has a form, and that form is the game's
module _ (file : List ℕ) {b code : ℕ} (is : CodeIs b code) (may : FetchAllowed (game_of file) (tag_of b)) where
  closes : tag_of b ≡ closing code
  closes = closes_allowed (game_of file) b _ is may

  has : has_form code ≡ true
  has = fetchable_form _ (sym (fetchable_closing file (tag_of b) _ closes) ∙ may)

  asked : (reply : List ℕ) {s : List ℕ} {r : Bool} → r ≡ decide (lawful? (form_of s) (word_of reply)) → s ≡ reply_body file code →
      r ≡ decide (lawful? ((game_of file).forms (code_of (tag_of b))) (word_of reply))
  asked reply e at =
      e ∙ ap (λ F. decide (lawful? F (word_of reply))) (ap form_of at ∙ sym (form_closing file (tag_of b) _ closes))

small : (reply : List ℕ) {r : Bool} → r ≡ decide (within_depth? most_reply_depth reply) → r ≡ true → Small reply
small reply e t = decided_true (within_depth? most_reply_depth _) (sym e ∙ t)

pub returns-then-not-may_fetch : goal.returns-then-not-may_fetch
returns-then-not-may_fetch c =
    let file = c.args.file.file.now in
    refused_23 (game_of file) (tag_of c.args.b) c.args.reply.now
    (λ may. false≢true (sym c.if-not-may_fetch.true ∙ c.may_fetch.ensures file ∙ may))

pub returns-then-not-within_depth : goal.returns-then-not-within_depth
returns-then-not-within_depth c =
    let file = c.args.file.file.now in
    let may = sym (c.may_fetch.ensures file) ∙ c.if-not-may_fetch.false in
    let large = decided_false (within_depth? most_reply_depth c.args.reply.now) (sym c.within_depth.ensures ∙ c.if-not-within_depth.true) in
    refused_18 (game_of file) (tag_of c.args.b) c.args.reply.now may large

pub form-requires : goal.form-requires
form-requires c =
    let file = c.args.file.file.now in
    has file c.code_of-code.ensures (sym (c.may_fetch.ensures file) ∙ c.if-not-may_fetch.false)

pub is_lawful-requires : goal.is_lawful-requires
is_lawful-requires c =
    let file = c.args.file.file.now in
    let has = has file c.code_of-code.ensures (sym (c.may_fetch.ensures file) ∙ c.if-not-may_fetch.false) in (
      rw c.form.ensures (from_part _ c.args.forms.now _ (c.requires.0.form _ c.code_of-code.ensures.small has)),
      small _ c.within_depth.ensures c.if-not-within_depth.false,
    )

pub returns-then-is_lawful : goal.returns-then-is_lawful
returns-then-is_lawful c =
    let file = c.args.file.file.now in
    let may = sym (c.may_fetch.ensures file) ∙ c.if-not-may_fetch.false in
    let small = small _ c.within_depth.ensures c.if-not-within_depth.false in
    let judged = asked file c.code_of-code.ensures may _ c.is_lawful.ensures c.form.ensures in
    let law = decided_true (lawful? _ _) (sym judged ∙ c.if-is_lawful.true) in
    passed_first _ (fetch_kept (game_of file) (tag_of c.args.b) c.args.reply.now (may, small, law))

pub returns-else-is_lawful : goal.returns-else-is_lawful
returns-else-is_lawful c =
    let file = c.args.file.file.now in
    let may = sym (c.may_fetch.ensures file) ∙ c.if-not-may_fetch.false in
    let small = small _ c.within_depth.ensures c.if-not-within_depth.false in
    let judged = asked file c.code_of-code.ensures may _ c.is_lawful.ensures c.form.ensures in
    let unlawful = decided_false (lawful? _ _) (sym judged ∙ c.if-is_lawful.false) in
    refused_19 (game_of file) (tag_of c.args.b) c.args.reply.now may small unlawful
