use Rattle.std.proofs.Common.{◌<◌, ◌≤◌, ◌∙◌, sym, ap, subst, length, get_or, take, take_all, List}
use Rattle.omega_model.specs.declared.cells.Attr.{Attr}
use Rattle.omega_machines.specs.Names.{IsIndexOf, names_of}
use Rattle.omega_machines.proofs.Attributes.{names_more}
use Rattle.omega_machines.proofs.names.NameIndex.of.Goals as goal

pub loop-attr-init : goal.loop-attr-init
loop-attr-init c = c.new-index.ensures

pub loop-attr-preserved : goal.loop-attr-preserved
loop-attr-preserved c =
    subst (IsIndexOf c.in_ok-index.index)
    (sym (names_more c.args.attrs.now c.loop-attr.attr-index c.attr-item.result
    (c.attr-item.is ∙ ap (λ (attrs : List Attr). get_or attrs c.loop-attr.attr-index c.attr-item.result) c.as_slice-attr-items.ensures)
    (subst (λ (attrs : List Attr). c.loop-attr.attr-index < length attrs) c.as_slice-attr-items.ensures c.loop-attr-test.true)))
    (c.in_ok-index.ensures (names_of (take c.loop-attr.attr-index c.args.attrs.now)) c.loop-attr.invariant)

pub returns : goal.returns
returns c =
    subst (λ (attrs : List Attr). IsIndexOf c.loop-attr.index (names_of attrs))
    (take_all c.loop-attr.attr-index c.args.attrs.now (subst (λ (attrs : List Attr). length attrs ≤ c.loop-attr.attr-index) c.as_slice-attr-items.ensures c.loop-attr-test.false))
    c.loop-attr.invariant
