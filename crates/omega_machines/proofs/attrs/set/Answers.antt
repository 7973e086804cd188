use Rattle.std.proofs.Common.{◌∙◌, ◌++◌, ◌∷◌, [], refl, IfSome, List, ℕ, subst, sym, ap}
use Rattle.omega_machines.specs.Names.{IsIndexOf, names_of}
use Rattle.omega_machines.proofs.Attributes.{with_attr-set, with_attr-push, names_kept, names_push}
use Rattle.omega_machines.proofs.attrs.set.Goals as goal

pub returns-in-Some-clause-ok : goal.returns-in-Some-clause-ok
returns-in-Some-clause-ok c =
    let items = c.into_items-items.ensures ∙ c.replace.ensures.value in
    let attr = c.index_mut.result.now in
    rw (c.of.ensures, c.in_ok-value.ensures, items)
    (with_attr-set c.args.name.now c.args.value.now c.args.attrs.now c.in-Some.place attr c.in-Some.ensures (rw (← items) c.index_mut.ensures.value))

pub returns-in-Some-clause-index : goal.returns-in-Some-clause-index
returns-in-Some-clause-index c =
    let items = c.into_items-items.ensures ∙ c.replace.ensures.value in
    let attr = c.index_mut.result.now in
    rw (c.of.ensures, items)
    (subst (λ (names : List (List ℕ)). IfSome c.args.index (λ index. IsIndexOf index names))
    (sym (names_kept c.args.attrs.now c.in-Some.place attr (record attr { value = c.in_ok-value.value }) (rw (← items) c.index_mut.ensures.value) refl)) c.requires)

pub returns-in_ok-push-in-None-clause-ok : goal.returns-in_ok-push-in-None-clause-ok
returns-in_ok-push-in-None-clause-ok c =
    c.in_ok-push-in-None.ensures.ok ∙ rw (c.in_ok-copy-in-None.ensures, c.in_ok-value.ensures) (with_attr-push c.args.name.now c.args.value.now c.args.attrs.now c.in-None.ensures)

pub returns-in_ok-push-in-None-clause-index : goal.returns-in_ok-push-in-None-clause-index
returns-in_ok-push-in-None-clause-index c =
    let names = ap names_of c.in_ok-push-in-None.ensures.ok ∙ names_push c.args.attrs.now (record { name = c.in_ok-copy-in-None.field-0; value = c.in_ok-value.value })
    ∙ ap (λ (n : List ℕ). names_of c.args.attrs.now ++ n ∷ []) c.in_ok-copy-in-None.ensures in
    subst (λ (ns : List (List ℕ)). IfSome c.with_name.result (λ index. IsIndexOf index ns)) (sym names) (c.with_name.ensures (names_of c.args.attrs.now) c.requires)
