use Rattle.std.proofs.Common.{arith}
use Rattle.omega_model.specs.Draws.{new_generator, word_at}
use Rattle.omega_model.specs.Generated.{generated}
use Rattle.omega_top.proofs.Making.{wants_memory}
use Rattle.omega_top.proofs.trace.generated_trace.Goals as goal

pub returns-clause-trace : goal.returns-clause-trace
returns-clause-trace g c =
    let settings = c.args.settings.now in
    c.read_tables.ensures.trace (generated settings.seed settings.machines settings.jobs) c.in_ok-tables.ensures.rests

pub returns-clause-none : goal.returns-clause-none
returns-clause-none g c =
    let settings = c.args.settings.now in
    c.read_tables.ensures.none (generated settings.seed settings.machines settings.jobs) c.in_ok-tables.ensures.rests

pub returns-clause-refusal : goal.returns-clause-refusal
returns-clause-refusal g c =
    let settings = c.args.settings.now in
    let made = generated settings.seed settings.machines settings.jobs in
    let clean = c.generated_tables_are_never_refused.ensures (word_at (new_generator settings.seed 0)) settings.machines settings.jobs c.requires.range.machines c.requires.range.jobs in
    wants_memory made _ _ c.read_tables.result clean (λ table rose. omega arith)
    (c.read_tables.ensures.refusal made c.in_ok-tables.ensures.rests) c.read_tables.ensures.cause
