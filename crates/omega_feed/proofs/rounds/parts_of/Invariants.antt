use Rattle.std.proofs.Common.{◌≡◌, ◌≤◌, ◌+◌, ◌++◌, drop, length, map}
use Rattle.std.specs.List.{AllByRecursion as Each}
use Rattle.omega_feed.specs.Events.{AreInOrder, merged}
use Rattle.omega_feed.specs.Rounds.{HavePart, gathered, part_round}
use Rattle.omega_feed.proofs.rounds.parts_of.Given as goal

abbrev pub invariant-loop-number : goal.invariant-loop-number
invariant-loop-number l = record {
  order : AreInOrder l.machines l.attrs l.tasks;
  machines : drop l.from.machines l.fn.machines ≡ l.machines;
  attrs : drop l.from.attrs l.fn.attrs ≡ l.attrs;
  tasks : drop l.from.tasks l.fn.tasks ≡ l.tasks;
  within_machines : l.from.machines ≤ length l.fn.machines;
  within_attrs : l.from.attrs ≤ length l.fn.attrs;
  within_tasks : l.from.tasks ≤ length l.fn.tasks;
  parts : Each (HavePart l.fn.machines l.fn.attrs l.fn.tasks) l.parts.items;
  rounds : map (part_round l.fn.machines l.fn.attrs l.fn.tasks) l.parts.items ++ gathered l.window (merged l.machines l.attrs l.tasks)
      ≡ gathered l.window (merged l.fn.machines l.fn.attrs l.fn.tasks);
}

abbrev pub decreases-loop-number : goal.decreases-loop-number
decreases-loop-number l = length l.machines + length l.attrs + length l.tasks
