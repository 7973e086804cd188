use Rattle.std.proofs.Common.{◌≡◌, ◌++◌, ◌∷◌, [], sym, ap, ◌∙◌}
use Rattle.std.specs.Prelude.{unwrap_or}
use Rattle.std.specs.BTreeMap as tree
use Rattle.omega_feed.specs.Index.{key_cmp}
use Rattle.omega_feed.proofs.Listing.{listed_more}
use Rattle.omega_feed.proofs.constraints.places_of.Goals as goal

pub loop-place-preserved : goal.loop-place-preserved
loop-place-preserved c =
    let key = c.row.inside.key in
    let list : c.push.new.self ≡ unwrap_or (tree.get key_cmp c.loop-place.places key) [] ++ c.loop-place.place ∷ [] =
    c.in_ok-push.ensures.ok
    ∙ ap (λ z. z ++ c.loop-place.place ∷ []) (c.unwrap_or-list.ensures ∙ ap (λ z. unwrap_or c.remove.result z) c.new.ensures ∙ ap (λ z. unwrap_or z []) c.remove.ensures.value) in
    listed_more c.args.rows.now c.loop-place.place c.index-rows-place.result key c.loop-place.places c.remove.new.self c.insert.new.self c.push.new.self
    c.loop-place-test.true c.index-rows-place.is (ap (λ z. z.key) (sym c.row.view_is)) list
    c.remove.ensures.updates c.in_ok-insert.ensures.updates c.loop-place.invariant
