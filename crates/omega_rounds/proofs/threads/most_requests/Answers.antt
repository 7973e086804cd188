use Rattle.std.proofs.Common.{rules, ◌≡◌, ◌≤◌, ◌+◌, ◌++◌, ◌∷◌, ◌∙◌, [], length, take, sym, ap, arith}
use Rattle.std.proofs.lemmas.List.{take_all, take_more}
use Rattle.std.proofs.lemmas.List.Elements.{All-push, All-same, All-weaker}
use Rattle.omega_workers.specs.declared.worker.Worker.{Worker}
use Rattle.omega_rounds.proofs.threads.most_requests.Goals as goal

pub loop-worker-preserved : goal.loop-worker-preserved
loop-worker-preserved c =
    let workers = c.args.workers.now in
    let worker : Worker = c.worker-item.result in
    let more : c.loop-worker.most ≤ c.max-most.result = search rules in
    let fits : length worker.desk.requests ≤ c.max-most.result = search rules in
    let next : take (c.loop-worker.worker-index + 1) workers ≡ take c.loop-worker.worker-index workers ++ worker ∷ [] =
    take_more workers c.loop-worker.worker-index worker c.loop-worker-test.true ∙ ap (λ (s : Worker). take c.loop-worker.worker-index workers ++ s ∷ []) (sym c.worker-item.is) in
    All-same (λ (s : Worker). length s.desk.requests ≤ c.max-most.result) (take (c.loop-worker.worker-index + 1) workers) (take c.loop-worker.worker-index workers ++ worker ∷ []) next
    (All-push (λ (s : Worker). length s.desk.requests ≤ c.max-most.result) (take c.loop-worker.worker-index workers) worker
    (All-weaker (λ (s : Worker). length s.desk.requests ≤ c.loop-worker.most) (λ (s : Worker). length s.desk.requests ≤ c.max-most.result)
    (λ s few. omega (arith, few, more)) (take c.loop-worker.worker-index workers) c.loop-worker.invariant) fits)

pub returns : goal.returns
returns c =
    All-same (λ (s : Worker). length s.desk.requests ≤ c.loop-worker.most) c.args.workers.now (take c.loop-worker.worker-index c.args.workers.now)
    (sym (take_all c.loop-worker.worker-index c.args.workers.now c.loop-worker-test.false)) c.loop-worker.invariant
