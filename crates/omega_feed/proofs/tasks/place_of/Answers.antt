use Rattle.std.proofs.lemmas.List.Sorted.{searched}
use Rattle.omega_feed.proofs.tasks.place_of.Goals as goal

pub returns : goal.returns
returns c = searched c.args.jobs.now c.args.job c.binary_search.result c.binary_search.ensures.position c.requires
