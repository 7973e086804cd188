use Rattle.std.proofs.Common.{◌≡◌, ◌<◌, ◌++◌, ◌+◌, ◌-◌, ◌∙◌, ℕ, List, true, false, sym, ap, length}
use Rattle.std.specs.List.{filter, range_with_len}
use Rattle.omega_mapreduce.specs.Counted.{RiseFrom, leads}
use Rattle.omega_mapreduce.proofs.FreeIndexes.{higher, higher_behind, is_free, keeps, skips}
use Rattle.omega_mapreduce.proofs.indexes.free_indexes.Goals as goal
use Rattle.omega_mapreduce.proofs.indexes.free_indexes.Goals.{then-leads, else-leads+in_ok-push}

pub loop-index-preserved : goal.loop-index-preserved
loop-index-preserved c =
    let index = c.loop-index.index in
    let end : ℕ = 2147483648 + length c.args.running.now + c.args.count in
    let ahead : List ℕ = c.loop-index.ahead.now in
    let found : List ℕ = c.loop-index.found.items in
    let rise : RiseFrom index ahead = c.loop-index.invariant.0 in
    let within : index < end = c.loop-index-test.true in
    elim c.if-leads.branch [
      | then-leads w ↦
          let here : leads ahead index ≡ true = sym c.leads.ensures ∙ w.if-leads.true in
          rw (w.found-is, w.ahead-is, w.behind_first-ahead.ensures) (
            higher_behind index ahead rise here,
            skips found ahead index end within rise here ∙ c.loop-index.invariant.1,
          )
      | else-leads+in_ok-push w ↦
          let apart : leads ahead index ≡ false = sym c.leads.ensures ∙ w.if-leads.false in
          rw (w.found-is, w.ahead-is) (
            higher index ahead rise apart,
            ap (λ (all : List ℕ). all ++ filter (is_free ahead) (range_with_len (index + 1) (end - (index + 1)))) w.in_ok-push.ensures.items
                ∙ keeps found ahead index end within rise apart
                ∙ c.loop-index.invariant.1,
          )
    ]
