use Rattle.std.proofs.Common.{◌≡◌, ◌++◌, map, drop}
use Rattle.omega_model.specs.declared.delta.Part.{Part}
use Rattle.omega_copy.proofs.copy.numbers_of.Given as goal

abbrev pub invariant-loop-part : goal.invariant-loop-part
invariant-loop-part l =
    l.numbers.items ++ map (λ (part : Part). part.machine.id) (drop l.part-index l.parts) ≡ map (λ (part : Part). part.machine.id) l.parts
