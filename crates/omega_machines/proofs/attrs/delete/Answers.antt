use Rattle.std.proofs.Common.{rules, Vec, Global, remove, not, bytes_eq, ◌∙◌, sym, ap, subst, position, IfSome, Option, List}
use Rattle.std.proofs.lemmas.Fn.{filter_same}
use Rattle.omega_model.specs.Machines.{without_attr}
use Rattle.omega_model.specs.declared.cells.Attr.{Attr}
use Rattle.omega_machines.specs.Names.{IsIndexOf, names_of}
use Rattle.omega_machines.specs.declared.names.NameIndex.{NameIndex}
use Rattle.omega_machines.proofs.Attributes.{deleted_at, deleted_none, names_without}
use Rattle.omega_machines.proofs.attrs.delete.Goals.{in-Some-forget, in_default}
use Rattle.omega_machines.proofs.attrs.delete.Goals as goal

pub returns-in-None-clause-attrs : goal.returns-in-None-clause-attrs
returns-in-None-clause-attrs c =
    c.of-in-None.ensures
    ∙ filter_same _ (λ (attr : Attr). not (bytes_eq attr.name c.args.name.now)) _ (λ attr kept f r. search rules) _ _ c.retain.ensures.filtered
    ∙ ap (without_attr c.args.name.now) (c.into_items-items.ensures ∙ c.replace.ensures.value)

pub returns-after-forget-clause-attrs : goal.returns-after-forget-clause-attrs
returns-after-forget-clause-attrs c =
    let items = c.into_items-items.ensures ∙ c.replace.ensures.value in
    let held = subst (λ (o : Option NameIndex). IfSome o (λ index. IsIndexOf index (names_of c.args.attrs.now))) c.in-Some.is c.requires in
    let placed = c.forget.ensures.place (names_of c.args.attrs.now) held ∙ ap (λ n. position (λ other. bytes_eq other n) (names_of c.args.attrs.now)) c.as_slice.ensures in
    c.of.ensures ∙ elim c.match-forget.branch [
      | in-Some-forget w ↦
          ap (λ (v : Vec Attr Global). v.items) w.items-is ∙ w.remove.ensures.items ∙ ap (λ (attrs : List Attr). remove attrs w.in-Some-forget.place) items
          ∙ (deleted_at c.args.name.now c.args.attrs.now w.in-Some-forget.place held.distinct (sym placed ∙ w.in-Some-forget.is)).1
      | in_default w ↦ ap (λ (v : Vec Attr Global). v.items) w.items-is ∙ items ∙ deleted_none c.args.name.now c.args.attrs.now (sym placed ∙ w.in_default.is)
    ]

pub returns-after-forget-clause-index : goal.returns-after-forget-clause-index
returns-after-forget-clause-index c =
    let held = subst (λ (o : Option NameIndex). IfSome o (λ index. IsIndexOf index (names_of c.args.attrs.now))) c.in-Some.is c.requires in
    let rest = c.forget.ensures.rest (names_of c.args.attrs.now) held in
    subst (λ (attrs : List Attr). IsIndexOf c.forget.new.self (names_of attrs)) (sym (returns-after-forget-clause-attrs c))
    (subst (IsIndexOf c.forget.new.self) (sym (names_without c.args.name.now c.args.attrs.now))
    (rw (← c.as_slice.ensures) rest))
