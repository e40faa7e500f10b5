-- What an accepted file is.
use mathlib.Core.Path.{◌≡◌, refl}
use mathlib.Core.Bool.{true}
use mathlib.Core.Logic.{◌↔◌, inl, inr, ⊎_elim}
use mathlib.Core.List.{List, ◌++◌}
use Prim.Native.Nat.{ℕ, ◌<◌}
use native.Mathlib.Omega.{arith}
use native.Mathlib.Decide.{dec_le}
use lib.ListN.{length}
use Rattle.words.specs.Forest.{depth}
use Rattle.words.specs.Decide.Words.{is_word?}
use Rattle.words.proofs.Judgement.{not_deeper}
use Rattle.automata.specs.TargetBody.{ValidTarget}
use Rattle.automata.specs.ReplyBody.{ValidReply}
use Rattle.automata.specs.Decide.TargetBody.{valid_target?}
use Rattle.automata.specs.Decide.ReplyBody.{valid_reply?}
use Rattle.effects.specs.Decide.Effect.{some_reply?}
use Rattle.contents.specs.Contents.{contents_length, has_form, target_body, reply_body, record_bytes}
use Rattle.contents.specs.Decide.Contents.{valid_contents?}
use Rattle.contents.specs.Inner.Located.{Located}
use Rattle.contents.specs.declared.Offsets.{Offsets}
use Rattle.job.specs.Refusal.{RefusalRule, first_of, Given}
use Rattle.job.specs.Record.{most_record_depth}
use Rattle.job.specs.File.{largest_file, form_in, rule14, rule17}
use Rattle.job.specs.File.{contents_rules, table_rules, form_rules, record_rules, file_rules, file_refusal}
use Rattle.job.specs.Accepted.{Accepted}
use Rattle.job.specs.Loaded.{OffsetsOf}
use Rattle.job.specs.RefusalNumber.{refusal_number}
use Rattle.job.specs.declared.refusal.Refusal.{Refusal}
use Rattle.job.specs.declared.refusal.Refusal.TheVariants.{FileSize, Contents, Target, ReplyForm, Record, RecordDeep, NoReply}
use Rattle.job.proofs.Refusals.{Numbered, NoneBroken, given, first_passed, passed_first, not_failing}
use Rattle.job.proofs.Refusals.{append_each, append_parts}
use Rattle.job.proofs.RefusalNumbers.{Named, named_numbered, named_first}
use Rattle.job.proofs.FormRules.{each_form_rule, forms_passed}

pub positive : (n : ℕ) → 0 < n → n ≡ 0 → ⊥
positive n h e = omega arith

module _ (file : List ℕ) where
  -- the parts of the list, in their order
  abbrev pub answer_rules : List RefusalRule
  answer_rules = form_rules (rule17 (form_in file))

  abbrev pub last : List RefusalRule
  last = record_rules (record_bytes file)

  pub contents_named : Named (contents_rules file)
  contents_named = ((FileSize, refl), ((Contents, refl), tt))

  pub tables_named : Named (table_rules file)
  tables_named = ((Target, refl), each_form_rule (rule14 file) _ (λ c t. (ReplyForm, refl)))

  pub answers_named : Named answer_rules
  answers_named = each_form_rule (rule17 (form_in file)) _ (λ c t. (NoReply, refl))

  pub named : Named (file_rules file)
  unfolding file_rules
  named =
      append_each _ (contents_rules file) (table_rules file ++ (answer_rules ++ last)) contents_named
      (append_each _ (table_rules file) (answer_rules ++ last) tables_named
      (append_each _ answer_rules last answers_named ((Record, refl), ((RecordDeep, refl), tt))))

  pub numbered : Numbered (file_rules file)
  numbered = named_numbered (file_rules file) named

  -- a file that is not accepted has a refusal
  pub file_refused : (file_refusal file ≡ 0 → ⊥) → (e : Refusal) × (file_refusal file ≡ refusal_number e)
  unfolding file_refusal
  file_refused z = named_first (file_rules file) named z

  pub tables_valid : first_of (table_rules file) ≡ 0
      → ValidTarget (target_body file) × ((c : ℕ) → has_form c ≡ true → ValidReply (reply_body file c))
  tables_valid e =
      let p = first_passed (table_rules file) (named_numbered (table_rules file) tables_named) e in (
        not_failing (valid_target? (target_body file)) p.0,
        λ c t. not_failing (valid_reply? (reply_body file c)) (forms_passed (rule14 file) p.1 c t),
      )

  pub is_accepted : file_refusal file ≡ 0 → Accepted file
  unfolding file_refusal file_rules
  is_accepted e =
      let p = append_parts (contents_rules file) (table_rules file ++ (answer_rules ++ last)) (first_passed (file_rules file) numbered e) in
      let q = append_parts (table_rules file) (answer_rules ++ last) p.1 in
      let r = append_parts answer_rules last q.1 in
      let size = p.0.0 in
      let word = not_failing (is_word? (record_bytes file)) r.1.0 in
      let deep = r.1.1.0 in
      record {
        large_enough = elim (dec_le contents_length (length file)) [ yes h ↦ h | no n ↦ absurd (size (inl (omega arith))) ];
        small_enough = elim (dec_le (length file) largest_file) [ yes h ↦ h | no n ↦ absurd (size (inr (omega arith))) ];
        contents = not_failing (valid_contents? file) p.0.1.0;
        bodies =
            record {
              target = not_failing (valid_target? (target_body file)) q.0.0;
              reply = λ c t. not_failing (valid_reply? (reply_body file c)) (forms_passed (rule14 file) q.0.1 c t);
              answered = λ c t. not_failing (some_reply? (form_in file c)) (forms_passed (rule17 (form_in file)) r.0 c t);
              is_record =
                  record {
                    word = word;
                    shallow = elim (dec_le (depth word.nested.forest) most_record_depth) [
                      | yes h ↦ h
                      | no d ↦ absurd (deep (record { nested = word.nested; deep = omega arith }))
                    ];
                  };
            };
      }

  -- a file that is `Accepted` is not refused
  pub file_not_refused : Accepted file → file_refusal file ≡ 0
  unfolding file_refusal file_rules
  file_not_refused a =
      let large = a.large_enough in
      let small = a.small_enough in
      let bodies = a.bodies in
      let within = bodies.is_record in
      let at-contents : NoneBroken (contents_rules file) = (⊎_elim (λ k. omega arith) (λ k. omega arith), (λ n. n a.contents, tt)) in
      let at-forms = each_form_rule (rule14 file) _ (λ c t n. n (bodies.reply c t)) in
      let at-tables : NoneBroken (table_rules file) = (λ n. n bodies.target, at-forms) in
      let at-answers = each_form_rule (rule17 (form_in file)) _ (λ c t n. n (bodies.answered c t)) in
      let at_last : NoneBroken last = (λ n. n within.word, (not_deeper within, tt)) in
      passed_first (file_rules file)
      (append_each _ (contents_rules file) (table_rules file ++ (answer_rules ++ last)) at-contents
      (append_each _ (table_rules file) (answer_rules ++ last) at-tables (append_each _ answer_rules last at-answers at_last)))

  -- Each number is given to a file exactly when its own condition holds and none before it does.
  pub file_given : (n : ℕ) → (n ≡ 0 → ⊥) → (file_refusal file ≡ n) ↔ Given (file_rules file) n
  unfolding file_refusal
  file_given n z = given (file_rules file) n z

  -- the bodies of an accepted file can be fetched
  pub located : (p : Offsets) → OffsetsOf file p → Located file p
  located p k = record { contents = (is_accepted k.accepted).contents; at = k.at }
