use Rattle.std.proofs.Common.{◌∙◌, ℕ, List, None, sym, ap, subst, refl, remove, nat_cmp}
use Rattle.std.specs.List.Sorted.{IsBinarySearchResult}
use Rattle.std.proofs.lemmas.Option.{none-some, same_Some}
use Rattle.omega_machines.proofs.Naming.{nowhere, somewhere, number_place, position_first, position_nowhere, place, index_removed, index_unremoved, changed_at}
use Rattle.omega_machines.proofs.names.NameIndex.forget.Goals as goal

pub returns-in_err-number-clause-place : goal.returns-in_err-number-clause-place
returns-in_err-number-clause-place c names held =
    let name = c.args.name.now in
    c.from_residual.ensures ∙ sym (position_nowhere (λ m. m) name names (nowhere c.args.self.now names held name (sym c.in_err-number.ensures.value)))

pub returns-in_err-number-clause-rest : goal.returns-in_err-number-clause-rest
returns-in_err-number-clause-rest c names held =
    index_unremoved c.args.self.now names held c.args.name.now _ (sym c.in_err-number.ensures.value) refl c.in_err-number.ensures.unchanged

pub returns-in_err-place-clause-place : goal.returns-in_err-place-clause-place
returns-in_err-place-clause-place c names held =
    let name = c.args.name.now in
    let number = c.in_ok-number.number in
    let there = somewhere c.args.self.now names held name number (sym c.in_ok-number.ensures.value) in
    let answered = subst (λ (ns : List ℕ). IsBinarySearchResult (λ y. nat_cmp y number) ns c.binary_search.result) c.deref.ensures.value c.binary_search.ensures.position in
    absurd (none-some _ (c.in_err-place.ensures.value ∙ number_place c.args.self.now.numbers.items number (place name names) c.binary_search.result held.rising there.1 answered))

pub returns-in_err-place-clause-rest : goal.returns-in_err-place-clause-rest
returns-in_err-place-clause-rest c names held =
    let name = c.args.name.now in
    let number = c.in_ok-number.number in
    let there = somewhere c.args.self.now names held name number (sym c.in_ok-number.ensures.value) in
    let answered = subst (λ (ns : List ℕ). IsBinarySearchResult (λ y. nat_cmp y number) ns c.binary_search.result) c.deref.ensures.value c.binary_search.ensures.position in
    absurd (none-some _ (c.in_err-place.ensures.value ∙ number_place c.args.self.now.numbers.items number (place name names) c.binary_search.result held.rising there.1 answered))

pub returns-clause-place : goal.returns-clause-place
returns-clause-place c names held =
    let name = c.args.name.now in
    let number = c.in_ok-number.number in
    let there = somewhere c.args.self.now names held name number (sym c.in_ok-number.ensures.value) in
    let answered = subst (λ (ns : List ℕ). IsBinarySearchResult (λ y. nat_cmp y number) ns c.binary_search.result) c.deref.ensures.value c.binary_search.ensures.position in
    c.in_ok-place.ensures.value ∙ number_place c.args.self.now.numbers.items number (place name names) c.binary_search.result held.rising there.1 answered
    ∙ sym (position_first (λ m. m) name names there.0)

pub returns-clause-rest : goal.returns-clause-rest
returns-clause-rest c names held =
    let name = c.args.name.now in
    let number = c.in_ok-number.number in
    let there = somewhere c.args.self.now names held name number (sym c.in_ok-number.ensures.value) in
    let answered = subst (λ (ns : List ℕ). IsBinarySearchResult (λ y. nat_cmp y number) ns c.binary_search.result) c.deref.ensures.value c.binary_search.ensures.position in
    let same = same_Some _ _ (c.in_ok-place.ensures.value ∙ number_place c.args.self.now.numbers.items number (place name names) c.binary_search.result held.rising there.1 answered) in
    index_removed c.args.self.now names held name _ there.0 (c.remove-2.ensures.items ∙ ap (remove c.args.self.now.numbers.items) same)
    (changed_at name c.args.self.now.by_name c.remove.new.self None c.in_ok-number.ensures.updates)
