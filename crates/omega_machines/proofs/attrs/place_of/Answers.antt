use Rattle.std.proofs.Common.{◌∙◌, IfSome, bytes_eq, subst, ap, position, Option}
use Rattle.omega_model.specs.declared.cells.Attr.{Attr}
use Rattle.omega_machines.specs.Names.{IsIndexOf, names_of}
use Rattle.omega_machines.specs.declared.names.NameIndex.{NameIndex}
use Rattle.omega_machines.proofs.Places.{position-map}
use Rattle.omega_machines.proofs.attrs.place_of.Goals as goal

pub returns-in-Some : goal.returns-in-Some
returns-in-Some c =
    let held = subst (λ (o : Option NameIndex). IfSome o (λ index. IsIndexOf index (names_of c.args.attrs.now))) c.in-Some.is c.requires in
    c.place.ensures (names_of c.args.attrs.now) held
    ∙ ap (λ n. position (λ other. bytes_eq other n) (names_of c.args.attrs.now)) c.as_slice.ensures
    ∙ position-map (λ (attr : Attr). attr.name) (λ other. bytes_eq other c.args.name.now) c.args.attrs.now
