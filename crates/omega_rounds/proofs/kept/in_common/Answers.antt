use Rattle.std.proofs.Common.{rules, sym, ap, subst, ◌∙◌, ◌≡◌, ℕ, Some, take, add-one}
use Rattle.std.specs.Prelude.{slice_get}
use Rattle.std.proofs.lemmas.Option.{slice_get-get_or}
use Rattle.omega_keep.specs.Resumed.{in_common}
use Rattle.omega_model.specs.declared.entries.Entry.{Entry}
use Rattle.omega_rounds.proofs.KeptRounds.{common_out, common_step, common_stop, none_kept}
use Rattle.omega_rounds.proofs.kept.in_common.Goals as goal

pub loop-place-init : goal.loop-place-init
loop-place-init c = none_kept c.args.kept.now

pub returns-in_default-clause-count : goal.returns-in_default-clause-count
returns-in_default-clause-count c = sym (common_out c.loop-place.place c.args.kept.now c.args.entries.now c.loop-place.invariant (search (rules, c.in_default.ensures.lookup)))

pub returns-then-not-branch-clause-count : goal.returns-then-not-branch-clause-count
returns-then-not-branch-clause-count c =
    let entry = slice_get-get_or c.args.entries.now c.loop-place.place c.index-entries-place.result c.loop-place-test.true ∙ ap (λ (e : Entry). Some e) (sym c.index-entries-place.is) in
    let line : slice_get c.args.kept.now c.loop-place.place ≡ Some c.in-Some.line.now = search (rules, c.in-Some.ensures.lookup, slice_get-get_or) in
    sym (common_stop c.loop-place.place c.args.kept.now c.args.entries.now c.in-Some.line.now c.index-entries-place.result c.loop-place.invariant line entry
    (sym c.in_ok-is_line.ensures ∙ c.if-not-branch.true))

pub loop-place-preserved : goal.loop-place-preserved
loop-place-preserved c =
    let entry = slice_get-get_or c.args.entries.now c.loop-place.place c.index-entries-place.result c.loop-place-test.true ∙ ap (λ (e : Entry). Some e) (sym c.index-entries-place.is) in
    let line : slice_get c.args.kept.now c.loop-place.place ≡ Some c.in-Some.line.now = search (rules, c.in-Some.ensures.lookup, slice_get-get_or) in
    subst (λ (n : ℕ). in_common c.args.kept.now (take n c.args.entries.now) ≡ n) (sym (add-one c.loop-place.place))
    (common_step c.loop-place.place c.args.kept.now c.args.entries.now c.in-Some.line.now c.index-entries-place.result c.loop-place.invariant line entry
    (sym c.in_ok-is_line.ensures ∙ c.if-not-branch.false))
