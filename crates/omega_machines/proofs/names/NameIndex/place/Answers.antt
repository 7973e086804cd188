use Rattle.std.proofs.Common.{◌∙◌, sym, nat_cmp, subst, List, ℕ}
use Rattle.std.specs.List.Sorted.{IsBinarySearchResult}
use Rattle.omega_machines.proofs.Naming.{nowhere, somewhere, number_place, position_first, position_nowhere, place}
use Rattle.omega_machines.proofs.names.NameIndex.place.Goals as goal

pub returns-in_err-number : goal.returns-in_err-number
returns-in_err-number c names held =
    let name = c.args.name.now in
    c.from_residual.ensures ∙ sym (position_nowhere (λ m. m) name names (nowhere c.args.self.now names held name (sym c.in_err-number.ensures.value)))

pub returns : goal.returns
returns c names held =
    let name = c.args.name.now in
    let number = c.in_ok-number.field-0.now in
    let there = somewhere c.args.self.now names held name number (sym c.in_ok-number.ensures.value) in
    let answered = subst (λ (ns : List ℕ). IsBinarySearchResult (λ y. nat_cmp y number) ns c.binary_search.result) c.deref.ensures.value c.binary_search.ensures.position in
    c.ok.ensures.value ∙ number_place c.args.self.now.numbers.items number (place name names) c.binary_search.result held.rising there.1 answered
    ∙ sym (position_first (λ m. m) name names there.0)
