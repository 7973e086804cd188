use Rattle.std.proofs.Common.{◌≡◌, ◌<◌, ◌∙◌, ℕ, true, List, ◌++◌, drop, length, map, take, sym, ap, subst}
use Rattle.std.specs.Prelude.{All, Any}
use Rattle.std.specs.List.{list_any}
use Rattle.std.proofs.Math.Seq.{take-append_seam}
use Rattle.omega_lock.specs.Lists.{StartsWith}
use Rattle.omega_model.specs.Work.{is_commit_of}
use Rattle.omega_model.specs.declared.entries.Entry.{Entry}
use Rattle.omega_shared.specs.Commits.{GoesOnWithout}
use Rattle.omega_shared.specs.Passes.{PassState}
use Rattle.omega_model.specs.Policy.{schedulers}
use Rattle.omega_rounds.specs.Closed.{AreBack, Suffice}
use Rattle.omega_rounds.specs.Keeping.{AreIndexesFor}
use Rattle.omega_rounds.specs.Players.{HavePlayed, MayPlay}
use Rattle.omega_rounds.specs.declared.threads.player.Player.{Player}
use Rattle.omega_workers.specs.declared.worker.Worker.{Worker}
use Rattle.omega_rounds.proofs.PlayersBack.{are_back, have_indexes, indexes_back, may_play, none_failed, of_cell}
use Rattle.omega_rounds.proofs.threads.play_shared.Goals as goal

-- a list that is written whole
written : {X : Type 0} (new old : List X) (count : ℕ) → count ≡ length new → take count (new ++ drop (length new) old) ≡ new
written new old count same = ap (λ (n : ℕ). take n (new ++ drop (length new) old)) same ∙ take-append_seam new (drop (length new) old)

pub play_all-requires-clause-may_play : goal.play_all-requires-clause-may_play
play_all-requires-clause-may_play g c κs within =
    subst (All (MayPlay c.in_ok-shared.shared.of)) (sym c.deref_mut.ensures.value)
    (may_play c.args.settings.now c.in_ok-shared.shared.of c.in_ok-turns.turns c.args.cell.history c.args.workers.items c.in_ok-shared.passes.items c.in_ok-players.players.items
    c.in_ok-players.ensures.workers c.in_ok-players.ensures.passes c.in_ok-players.ensures.fresh c.requires.count
    (λ number known. c.in_ok-shared.ensures.pass number (subst (λ (n : ℕ). number < n) (sym c.schedulers.ensures) known)) c.requires.each
    c.requires.range (subst (λ (workers : List Worker). Suffice c.args.settings.now workers c.in_ok-turns.turns) c.as_slice.ensures.value c.in_ok-turns.ensures)
    (have_indexes c.args.cell.history c.args.indexes.items c.in_ok-players.players.items c.in_ok-players.ensures.indexes c.requires.indexes.each))

pub close-requires-clause-of : goal.close-requires-clause-of
close-requires-clause-of g c =
    let back = written c.play_all.new.players c.in_ok-players.players.items c.in_ok-players.players.len (sym c.deref_mut.ensures.len ∙ sym c.play_all.ensures.played.count) in
    let passes : c.in_ok-workers.passes.items ≡ map (λ (player : Player). player.pass) c.play_all.new.players =
    c.in_ok-workers.ensures.passes ∙ ap (map (λ (player : Player). player.pass)) back in
    subst (All (λ (pass : PassState). pass.of ≡ c.in_ok-shared.shared.of)) (sym passes)
    (of_cell c.args.settings.now c.in_ok-shared.shared.of c.in_ok-turns.turns c.args.cell.history c.args.workers.items c.in_ok-shared.passes.items c.in_ok-players.players.items
    c.in_ok-players.ensures.workers c.in_ok-players.ensures.passes c.in_ok-players.ensures.fresh c.requires.count
    (λ number known. c.in_ok-shared.ensures.pass number (subst (λ (n : ℕ). number < n) (sym c.schedulers.ensures) known)) c.requires.each
    c.play_all.new.players (subst (λ (before : List Player). HavePlayed before c.play_all.new.players) c.deref_mut.ensures.value c.play_all.ensures.played))

pub returns-clause-back : goal.returns-clause-back
returns-clause-back g c =
    let back = written c.play_all.new.players c.in_ok-players.players.items c.in_ok-players.players.len (sym c.deref_mut.ensures.len ∙ sym c.play_all.ensures.played.count) in
    let passes : c.in_ok-workers.passes.items ≡ map (λ (player : Player). player.pass) c.play_all.new.players =
    c.in_ok-workers.ensures.passes ∙ ap (map (λ (player : Player). player.pass)) back in
    let workers : c.in_ok-workers.workers.items ≡ map (λ (player : Player). player.worker) c.play_all.new.players =
    c.in_ok-workers.ensures.workers ∙ ap (map (λ (player : Player). player.worker)) back in
    let first : List Entry = c.args.cell.history in
    let history : List Entry = c.close.result.history in
    let after : List Player = c.play_all.new.players in
    let same : c.in_ok-shared.shared.first ≡ first = c.in_ok-shared.ensures.first in
    let others : All (λ (pass : PassState). GoesOnWithout pass.number pass.seen history) (map (λ (player : Player). player.pass) after) =
    subst (All (λ (pass : PassState). GoesOnWithout pass.number pass.seen history)) passes c.close.ensures.others in
    let commits : All (λ entry. Any (λ (pass : PassState). is_commit_of pass.number entry ≡ true) (map (λ (player : Player). player.pass) after)) (drop (length first) history) =
    subst (λ (all : List PassState). All (λ entry. Any (λ (pass : PassState). is_commit_of pass.number entry ≡ true) all) (drop (length first) history)) passes
    (subst (λ (h : List Entry). All (λ entry. Any (λ (pass : PassState). is_commit_of pass.number entry ≡ true) c.in_ok-workers.passes.items) (drop (length h) history)) same c.close.ensures.commits) in
    subst (AreBack c.args.settings.now first history c.args.workers.items) (sym workers)
    (are_back c.args.settings.now c.in_ok-shared.shared.of c.in_ok-turns.turns first c.args.workers.items c.in_ok-shared.passes.items c.in_ok-players.players.items
    c.in_ok-players.ensures.workers c.in_ok-players.ensures.passes c.in_ok-players.ensures.fresh c.requires.count
    (λ number known. c.in_ok-shared.ensures.pass number (subst (λ (n : ℕ). number < n) (sym c.schedulers.ensures) known)) c.requires.each
    after (subst (λ (before : List Player). HavePlayed before after) c.deref_mut.ensures.value c.play_all.ensures.played)
    history others (none_failed after (ap (list_any (λ (player : Player). player.failed)) (sym back) ∙ c.in_ok-workers.ensures.succeeded))
    (subst (StartsWith history) same c.close.ensures.begins) commits)

pub returns-clause-indexes : goal.returns-clause-indexes
returns-clause-indexes g c =
    let back = written c.play_all.new.players c.in_ok-players.players.items c.in_ok-players.players.len (sym c.deref_mut.ensures.len ∙ sym c.play_all.ensures.played.count) in
    let passes : c.in_ok-workers.passes.items ≡ map (λ (player : Player). player.pass) c.play_all.new.players =
    c.in_ok-workers.ensures.passes ∙ ap (map (λ (player : Player). player.pass)) back in
    let indexes : c.in_ok-workers.indexes.items ≡ map (λ (player : Player). player.indexes) c.play_all.new.players =
    c.in_ok-workers.ensures.indexes ∙ ap (map (λ (player : Player). player.indexes)) back in
    let history : List Entry = c.close.result.history in
    let after : List Player = c.play_all.new.players in
    let others : All (λ (pass : PassState). GoesOnWithout pass.number pass.seen history) (map (λ (player : Player). player.pass) after) =
    subst (All (λ (pass : PassState). GoesOnWithout pass.number pass.seen history)) passes c.close.ensures.others in
    subst (AreIndexesFor (schedulers c.args.settings.now) history) (sym indexes)
    (indexes_back c.args.settings.now c.in_ok-shared.shared.of c.in_ok-turns.turns c.args.cell.history c.args.workers.items c.in_ok-shared.passes.items c.in_ok-players.players.items
    c.in_ok-players.ensures.workers c.in_ok-players.ensures.passes c.in_ok-players.ensures.fresh c.requires.count
    (λ number known. c.in_ok-shared.ensures.pass number (subst (λ (n : ℕ). number < n) (sym c.schedulers.ensures) known)) c.requires.each
    after (subst (λ (before : List Player). HavePlayed before after) c.deref_mut.ensures.value c.play_all.ensures.played)
    history others)
