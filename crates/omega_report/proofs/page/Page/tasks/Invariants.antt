use Rattle.std.proofs.Common.{◌≡◌, ◌∷◌, ◌++◌, drop}
use Rattle.std.specs.Prelude.{map}
use Rattle.omega_model.specs.Report.{Name, task_words}
use Rattle.omega_report.proofs.page.Page.tasks.Given as goal

abbrev pub invariant-loop-key : goal.invariant-loop-key
invariant-loop-key l = record {
  format : l.self.format ≡ l.fn.self.format;
  lines : l.self.lines ++ map (λ key. Name l.name ∷ task_words key l.machine) (drop l.key-index l.keys)
      ≡ l.fn.self.lines ++ map (λ key. Name l.name ∷ task_words key l.machine) l.keys;
}
