-- In a legal history each commit's reply is as long as its claims.
use Rattle.std.proofs.Common.{List, length, take, get_or, ap, ◌∙◌}
use Rattle.std.specs.Prelude.{All}
use Rattle.std.proofs.lemmas.Option.{slice_get-get_or}
use Rattle.omega_model.specs.Legal.{Follows, Legal}
use Rattle.omega_model.specs.declared.claims.Judgement.{Judgement}
use Rattle.omega_model.specs.declared.entries.Entry.{Entry}
use Rattle.omega_model.specs.declared.entries.Entry.TheVariants.{Round, MachineAdd, MachineUpdate, MachineRemove, AttrSet, AttrDelete, End, Commit}
use Rattle.omega_keep.specs.KeptLines.{IsAnswered}
use Rattle.omega_workers.proofs.CommitCounts.{length-reply_of}

is_answered : (before : List Entry) (entry : Entry) → Follows before entry → IsAnswered entry
is_answered before (Round number) follows = tt
is_answered before (MachineAdd machine cap) follows = tt
is_answered before (MachineUpdate machine cap) follows = tt
is_answered before (MachineRemove machine) follows = tt
is_answered before (AttrSet machine name value) follows = tt
is_answered before (AttrDelete machine name) follows = tt
is_answered before (End key machine) follows = tt
is_answered before (Commit scheduler seen txn reply) follows =
    ap (λ (told : List Judgement). length told) follows.1 ∙ length-reply_of before seen txn

pub are_answered : (history : List Entry) → Legal history → All IsAnswered history
are_answered history legal place default within =
    is_answered (take place history) (get_or history place default) (legal place (get_or history place default) (slice_get-get_or history place default within))
