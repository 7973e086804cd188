use Rattle.std.proofs.Common.{subst, sym}
use Rattle.omega_feed.specs.Parts.{NeverFall}
use Rattle.omega_feed.proofs.Parts.{rise}
use Rattle.omega_feed.proofs.tasks.place_for.Goals as goal

pub place_of-requires : goal.place_of-requires
place_of-requires c = subst NeverFall (sym c.deref.ensures.value) (rise c.args.jobs.now.items c.args.parts.now.items c.requires)
