use Rattle.std.proofs.Common.{ap, subst}
use Rattle.omega_lock.proofs.Closing.{Ended, ended, same_value, no_none}
use Rattle.omega_lock.proofs.lock.Lock.end.Goals as goal

pub unreachable-requires : goal.unreachable-requires
unreachable-requires g c =
    let e = ended g.T.Counted.entries g.T.Counted.number c.args.all.table_id c.self.inside.table.shared.key c.args.all.id c.args.all.me.0 _ _ c.close_with-closed.ensures.values.2 c.requires.rest.0 c.requires.rest.1 (rw (ap (λ l. l.callers) c.self.view_is) c.requires.all) in
    no_none g.T.Counted.entries g.T.Counted.number _ _ e.0 c.take-value.ensures.value e.1 c.in-None.is

pub returns-clause-known : goal.returns-clause-known
returns-clause-known g c =
    let e = ended g.T.Counted.entries g.T.Counted.number c.self.inside.table.shared.table_id c.self.inside.table.shared.key c.args.all.id c.args.all.me.0 _ _ c.close_with-closed.ensures.values.2 c.requires.rest.0 c.requires.rest.1 (rw (ap (λ l. l.callers) c.self.view_is) c.requires.all) in
    let same = same_value g.T.Counted.entries g.T.Counted.number _ _ e.0 c.in-Some.value c.take-value.ensures.value e.1 c.in-Some.is in
    let now = subst (λ y. Ended g.T.Counted.entries g.T.Counted.number c.args.self c.args.all.me.0 y) same (subst (λ l. Ended g.T.Counted.entries g.T.Counted.number l c.args.all.me.0 e.0) c.self.view_is e.2) in
    now.0

pub returns-clause-begins : goal.returns-clause-begins
returns-clause-begins g c =
    let e = ended g.T.Counted.entries g.T.Counted.number c.self.inside.table.shared.table_id c.self.inside.table.shared.key c.args.all.id c.args.all.me.0 _ _ c.close_with-closed.ensures.values.2 c.requires.rest.0 c.requires.rest.1 (rw (ap (λ l. l.callers) c.self.view_is) c.requires.all) in
    let same = same_value g.T.Counted.entries g.T.Counted.number _ _ e.0 c.in-Some.value c.take-value.ensures.value e.1 c.in-Some.is in
    let now = subst (λ y. Ended g.T.Counted.entries g.T.Counted.number c.args.self c.args.all.me.0 y) same (subst (λ l. Ended g.T.Counted.entries g.T.Counted.number l c.args.all.me.0 e.0) c.self.view_is e.2) in
    now.1

pub returns-clause-each : goal.returns-clause-each
returns-clause-each g c =
    let e = ended g.T.Counted.entries g.T.Counted.number c.self.inside.table.shared.table_id c.self.inside.table.shared.key c.args.all.id c.args.all.me.0 _ _ c.close_with-closed.ensures.values.2 c.requires.rest.0 c.requires.rest.1 (rw (ap (λ l. l.callers) c.self.view_is) c.requires.all) in
    let same = same_value g.T.Counted.entries g.T.Counted.number _ _ e.0 c.in-Some.value c.take-value.ensures.value e.1 c.in-Some.is in
    let now = subst (λ y. Ended g.T.Counted.entries g.T.Counted.number c.args.self c.args.all.me.0 y) same (subst (λ l. Ended g.T.Counted.entries g.T.Counted.number l c.args.all.me.0 e.0) c.self.view_is e.2) in
    now.2
