use Rattle.std.proofs.Common.{rules, ◌≡◌, subst, take}
use Rattle.omega_model.specs.Touches.{seq}
use Rattle.omega_keep.specs.Touching.{places_of, Splits}
use Rattle.omega_keep.proofs.touches.Touches.seq.Goals as goal

pub returns-in-Some : goal.returns-in-Some
returns-in-Some c = λ history touches le.
    let is : places_of c.args.self.now.places c.args.machine ≡ c.as_slice.result.now = search (rules, c.get.ensures.value, c.in-Some.is, c.as_slice.ensures) in
    let count = seq (take c.args.seen history) c.args.machine in
    c.count_below.ensures count (subst (λ z. Splits c.args.seen z count) is ((touches c.args.machine).split c.args.seen le))
