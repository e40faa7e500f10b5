-- For every file exactly one report is right.
use Rattle.std.proofs.Common.{◌≡◌, ℕ, List, Bool, true, false, Result, Ok, Err, refl, sym, ◌∙◌, ap, arith}
use Rattle.words.specs.Exactly.{Exactly}
use Rattle.contents.specs.Contents.{offsets_of}
use Rattle.job.specs.Loaded.{JobOf, LoadedOf}
use Rattle.job.specs.declared.loader.Job.{Job}
use Rattle.job.specs.declared.refusal.Refusal.{Refusal}
use Rattle.job.proofs.LoadedExactly.{loaded_exactly}
use Rattle.game.specs.Job.{game_of}
use Rattle.game.proofs.Determined.{verdict_exactly}
use Rattle.solver.specs.VerdictNumber.{verdict_number}
use Rattle.solver.specs.Report.{ReportIs, ReportOf}
use Rattle.solver.specs.declared.verdict.Report.{Report}
use Rattle.solver.proofs.VerdictLaws.{file_decided, accepted_report, game_effects}

-- the number tells which verdict it is
one_verdict : (a b : Bool) → verdict_number (Ok a) ≡ verdict_number (Ok b) → a ≡ b
one_verdict true true e = refl
one_verdict true false e = absurd (omega arith)
one_verdict false true e = absurd (omega arith)
one_verdict false false e = refl

module _ (file : List ℕ) where
  -- a report has the effects of the job
  job_of : (r : Report) → ReportIs file r → JobOf file (record { offsets = record { at = offsets_of file }; effects = r.effects })
  unfolding game_of
  job_of r o = record { offsets_are_of = record { accepted = o.accepted; at = refl }; effects = o.effects }

  -- the job that the loader gives, or its refusal, leaves one report
  by_loaded : (l : Result Job Refusal) → LoadedOf file l → ((k : Result Job Refusal) → LoadedOf file k → k ≡ l) → Exactly (ReportOf file)
  by_loaded (Ok job) right only =
      let ok = right.offsets_are_of.accepted in
      let (b, decided) = file_decided file ok in
      let v = verdict_exactly file in
      let report : Report = record { won = b; states = (game_of file).target.states; effects = job.effects } in
      let is : ReportIs file report = accepted_report file ok report decided refl (game_effects file job.effects right.effects) in
      record {
        value = Ok report;
        right = is;
        only = λ a. elim a as (λ k. ReportOf file k → k ≡ Ok report) [
          | Ok r ↦ λ o.
              let same = only (Ok _) (job_of r o) in
              let effects : r.effects ≡ job.effects = cc in
              let won = one_verdict r.won b (v.only _ o.verdict ∙ sym (v.only _ is.verdict)) in
              let is_report : r ≡ report = λ i. record { won = won i; states = o.states i; effects = effects i } in
              ap Ok is_report
          | Err e ↦ λ o. absurd (let other = only (Err e) o in cc)
        ];
      }
  by_loaded (Err e) right only =
      record {
        value = Err e;
        right = right;
        only = λ a. elim a as (λ k. ReportOf file k → k ≡ Err e) [
          | Ok r ↦ λ o. absurd (let other = only (Ok _) (job_of r o) in cc)
          | Err x ↦ λ o. let same = only (Err x) o in cc
        ];
      }

  pub report_exactly : Exactly (ReportOf file)
  report_exactly = let l = loaded_exactly file in by_loaded l.value l.right l.only
