-- `job::loader::load_bodies` meets its contract: each part in its order refuses, or the next is asked.
use mathlib.Core.Path.{◌≡◌, ◌∙◌}
use mathlib.Core.List.{List, ◌++◌}
use Prim.Native.Nat.{ℕ, ◌≤◌}
use Rattle.std.proofs.lemmas.Result.{err_from_is_err_and}
use Rattle.automata.specs.Target.{Target, Closed}
use Rattle.automata.specs.TargetBody.{most_states, target_of}
use Rattle.automata.specs.Reply.{Form}
use Rattle.automata.proofs.TargetTables.{target_closed, few_target_states}
use Rattle.effects.specs.Effects.{EffectsOf}
use Rattle.effects.specs.declared.Effects.{Effects}
use Rattle.contents.specs.Contents.{has_form, target_body}
use Rattle.contents.specs.Inner.Located.{Located}
use Rattle.contents.specs.declared.Offsets.{Offsets}
use Rattle.job.specs.Refusal.{first_of}
use Rattle.job.specs.File.{OutOfSize, form_in, form_rules, rule17, contents_rules, table_rules}
use Rattle.job.proofs.Accepted.{answer_rules, last, contents_named, tables_named, answers_named, tables_valid}
use Rattle.job.proofs.LoadLaws.{JudgedBy, judged_whole, part_decides, past_part, contents_pass}
use Rattle.job.proofs.loader.load_bodies.Goals as goal

-- what judges a file past its contents, past its tables and past its replies
module _ (file : List ℕ) {offsets : Offsets} (valid : Located file offsets) (sized : ¬ (OutOfSize file)) where
  past_contents : JudgedBy file (table_rules file ++ (answer_rules file ++ last file))
  past_contents =
      past_part file (contents_rules file) _ (judged_whole file) (contents_named file) (contents_pass file sized valid.contents)

  module _ (passed : first_of (table_rules file) ≡ 0) where
    past_tables : JudgedBy file (answer_rules file ++ last file)
    past_tables = past_part file (table_rules file) _ past_contents (tables_named file) passed

    replied : {n : ℕ} {E : Effects} → ((A : Target) (forms : ℕ → Form) → Closed A → A.states ≤ most_states → EffectsOf A has_form forms E →
        first_of (form_rules (rule17 forms)) ≡ n) →
        EffectsOf (target_of (target_body file)) has_form (form_in file) E → first_of (answer_rules file) ≡ n
    replied told effects =
        let target = (tables_valid file passed).0 in
        told (target_of (target_body file)) (form_in file) (target_closed _ target) (few_target_states _ target) effects

    past_replies : first_of (answer_rules file) ≡ 0 → JudgedBy file (last file)
    past_replies z = past_part file (answer_rules file) _ past_tables (answers_named file) z

pub returns-in_err-check_tables : goal.returns-in_err-check_tables
returns-in_err-check_tables c =
    let file = c.args.bodies.file.now in
    let p = err_from_is_err_and c.from_residual.result c.from_residual.ensures.1 in
    rw (p.1, p.2)
    (part_decides file (table_rules file) _ (past_contents file c.args.bodies.located c.requires) _ c.in_err-check_tables.ensures)

pub effects_in-effects-requires : goal.effects_in-effects-requires
effects_in-effects-requires c =
    let valid = tables_valid c.args.bodies.file.now c.in_ok-check_tables.ensures in
    record { valid_target = valid.0; valid_forms = valid.1 }

pub returns-in_err-check_replies : goal.returns-in_err-check_replies
returns-in_err-check_replies c =
    let file = c.args.bodies.file.now in
    let valid = c.args.bodies.located in
    let passed = c.in_ok-check_tables.ensures in
    let p = err_from_is_err_and c.from_residual-in_err-check_replies.result c.from_residual-in_err-check_replies.ensures.1 in
    rw (p.1, p.2)
    (part_decides file (answer_rules file) _ (past_tables file valid c.requires passed) _
    (replied file valid c.requires passed c.in_err-check_replies.ensures c.effects_in-effects.ensures))

pub returns-in_err-check_record : goal.returns-in_err-check_record
returns-in_err-check_record c =
    let file = c.args.bodies.file.now in
    let valid = c.args.bodies.located in
    let passed = c.in_ok-check_tables.ensures in
    let replies = replied file valid c.requires passed c.in_ok-check_replies.ensures c.effects_in-effects.ensures in
    let p = err_from_is_err_and c.from_residual-in_err-check_record.result c.from_residual-in_err-check_record.ensures.1 in
    rw (p.1, p.2) (past_replies file valid c.requires passed replies ∙ rw c.record.ensures at c.in_err-check_record.ensures)

pub returns : goal.returns
returns c =
    let file = c.args.bodies.file.now in
    let valid = c.args.bodies.located in
    let passed = c.in_ok-check_tables.ensures in
    let replies = replied file valid c.requires passed c.in_ok-check_replies.ensures c.effects_in-effects.ensures in
    let accepted = past_replies file valid c.requires passed replies ∙ rw c.record.ensures at c.in_ok-check_record.ensures in
    record {
      offsets_are_of = record { accepted = accepted; at = valid.at };
      effects = c.effects_in-effects.ensures;
    }
