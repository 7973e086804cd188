use Rattle.std.proofs.Common.{◌∷◌, ◌++◌, [], length, refl, ap, ◌∙◌}
use Rattle.omega_cell.specs.declared.effects.Usage.{Usage}
use Rattle.omega_desk.specs.Counts.{count_of}
use Rattle.omega_report.specs.Lines.{sizes_line}
use Rattle.omega_report.proofs.Summed.{abandoned_is, summed_is, Sums}
use Rattle.omega_report.proofs.reporting.summed_up.Goals as goal

pub returns : goal.returns
returns c = λ trace due format lines begun waits after.
    let settings = c.args.settings.now in
    let history = c.args.history.now in
    let left = c.args.left.now in
    let counts = c.counts.result.now in
    let sums : Sums settings trace due history (length history) c.count_rounds.result counts c.args.last.used c.args.last.capacity left.tasks c.count_given_up-abandoned.result = record {
      all_entries = refl;
      all_rounds = c.count_rounds.ensures ∙ begun;
      all_counts = c.counts.ensures ∙ after.counted;
      all_used = ap (λ (u : Usage). u.used) c.requires.last;
      all_capacity = ap (λ (u : Usage). u.capacity) c.requires.last;
      all_tasks = waits.count;
      all_jobs = c.count_given_up-abandoned.ensures
          ∙ abandoned_is settings due history (count_of c.args.walk.failures) c.as_slice.result.now after.failing (c.as_slice.ensures ∙ waits.jobs);
    } in (
      c.in_ok-unplaced.ensures.format ∙ c.in_ok-usage.ensures.format ∙ c.in_ok-push_counts.ensures.format ∙ c.in_ok-sizes.ensures.format ∙ after.form,
      summed_is settings trace due history (length history) c.count_rounds.result counts c.args.last.used c.args.last.capacity left.tasks c.count_given_up-abandoned.result
          lines c.sizes.new.self.lines c.push_counts.new.page.lines c.usage.new.self.lines c.unplaced.new.self.lines sums
          (c.in_ok-sizes.ensures.lines ∙ ap (λ ls. ls ++ sizes_line (length history) c.count_rounds.result ∷ []) after.printed)
          c.in_ok-push_counts.ensures.lines c.in_ok-usage.ensures.lines c.in_ok-unplaced.ensures.lines,
    )
