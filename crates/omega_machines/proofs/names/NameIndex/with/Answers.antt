use Rattle.std.proofs.Common.{◌≡◌, ◌∙◌, ◌++◌, ◌∷◌, [], ℕ, List, Some, None, sym, ap, subst, nat_cmp, bytes_eq, cond}
use Rattle.std.specs.BTreeMap as tree
use Rattle.std.specs.Cmp.Lexicographic.{slice_cmp}
use Rattle.std.specs.List.Sorted.{IsStrictlySortedBy}
use Rattle.omega_machines.specs.Names.{number_of}
use Rattle.omega_machines.proofs.Naming.{index_push, changed_at, ok_holds, none_is}
use Rattle.omega_machines.proofs.names.NameIndex.with.Goals as goal

pub returns : goal.returns
returns c names held =
    let name = c.args.name.now in
    let number = c.in_ok-number.number in
    let key = c.into_items-key.result in
    let copied = ok_holds (λ copy. copy ≡ name) c.copy.result c.in_ok-ok.field-0 c.in_ok-ok.ensures.value c.copy.ensures in
    let named : key.items ≡ name = c.into_items-key.ensures ∙ copied in
    let was = ok_holds (λ old. old ≡ tree.get_by (λ k. slice_cmp nat_cmp key.items k.items) c.args.self.by_name) c.insert.result c.in_ok-ok-3.field-0 c.in_ok-ok-3.ensures.value c.insert.ensures.old in
    let lost : number_of c.args.self name ≡ None = ap (number_of c.args.self) (sym named) ∙ sym was ∙ none_is c.in_ok-ok-3.field-0 c.if-is_some.ensures in
    let updated = ok_holds (λ _. tree.UpdatesBy (λ x y. slice_cmp nat_cmp x.items y.items) (λ k. slice_cmp nat_cmp key.items k.items) c.args.self.by_name c.insert.new.self (Some number)) c.insert.result c.in_ok-ok-3.field-0 c.in_ok-ok-3.ensures.value c.insert.ensures.updates in
    let numbers = c.push_reserved.ensures.items ∙ ap (λ (ns : List ℕ). ns ++ number ∷ []) c.reserve.ensures.items in
    let rising = subst (λ (ns : List ℕ). IsStrictlySortedBy nat_cmp ns → IsStrictlySortedBy nat_cmp (ns ++ number ∷ [])) c.as_slice.ensures.value c.in_ok-number.ensures in
    index_push c.args.self names held name _ number lost numbers (subst (IsStrictlySortedBy nat_cmp) (sym numbers) (rising held.rising))
    (λ q. changed_at key.items c.args.self.by_name c.insert.new.self (Some number) updated q ∙ ap (λ n. cond (bytes_eq n q) (Some number) (number_of c.args.self q)) named)
