use Rattle.std.proofs.Common.{◌≡◌, ℕ, List, true, ap, sym, subst, ◌∙◌}
use Rattle.std.specs.List.{filter, list_any, AllByRecursion as Each}
use Rattle.omega_model.specs.Wanted.{WantedTask}
use Rattle.omega_model.specs.ExtraTasks.{is_wanted}
use Rattle.omega_feed.specs.Asked.{is_task_of}
use Rattle.omega_model.proofs.Lists.{each_passes}
use Rattle.omega_feed.proofs.Parts.{any_of_part, wanted_in_part}
use Rattle.omega_feed.proofs.tasks.WantedTasks.has_job.Goals as goal

-- all tasks of the part are of its job
own : (job : ℕ) (tasks part : List WantedTask) → part ≡ filter (is_task_of job) tasks → Each (λ task. is_task_of job task ≡ true) part
own job tasks part is = subst (Each (λ task. is_task_of job task ≡ true)) (sym is) (each_passes (is_task_of job) tasks)

pub returns-in-Some-clause-any : goal.returns-in-Some-clause-any
returns-in-Some-clause-any c = c.has_any.ensures.any c.args.job (own c.args.job c.args.self.now _ c.in-Some.ensures.part) ∙ ap (list_any (is_task_of c.args.job)) c.in-Some.ensures.part ∙ any_of_part c.args.job c.args.self.now

pub returns-in-Some-clause-wanted : goal.returns-in-Some-clause-wanted
returns-in-Some-clause-wanted c = c.has_any.ensures.wanted c.args.job (own c.args.job c.args.self.now _ c.in-Some.ensures.part) ∙ ap (λ tasks. is_wanted tasks c.args.job) c.in-Some.ensures.part ∙ wanted_in_part c.args.job c.args.self.now

pub returns-in-None-clause-any : goal.returns-in-None-clause-any
returns-in-None-clause-any c = sym (sym (any_of_part c.args.job c.args.self.now) ∙ ap (list_any (is_task_of c.args.job)) c.in-None.ensures.none)

pub returns-in-None-clause-wanted : goal.returns-in-None-clause-wanted
returns-in-None-clause-wanted c = sym (sym (wanted_in_part c.args.job c.args.self.now) ∙ ap (λ tasks. is_wanted tasks c.args.job) c.in-None.ensures.none)
