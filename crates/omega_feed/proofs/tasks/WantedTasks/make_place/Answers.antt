use Rattle.std.proofs.Common.{subst, sym}
use Rattle.omega_feed.specs.Parts.{NeverFall}
use Rattle.omega_feed.proofs.Parts.{rise}
use Rattle.omega_feed.proofs.tasks.WantedTasks.make_place.Goals as goal

pub place_of-requires : goal.place_of-requires
place_of-requires c = subst NeverFall (sym c.deref.ensures.value) (rise c.self.inside.jobs.items c.self.inside.parts.items c.self.invariant)
