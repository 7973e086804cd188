-- Workers that sync at the same time.
use Rattle.std.specs.Prelude.{◌≡◌, ◌⊎◌, List, [], ◌∷◌, None}
use Rattle.omega_model.specs.declared.entries.Entry.{Entry}
use Rattle.std.specs.List.{AllByRecursion as Each}
use Rattle.omega_workers.specs.Plans.{IsReady}
use Rattle.omega_workers.specs.Workers.{synced_of}
use Rattle.omega_workers.specs.WorkerSteps.{SyncsWorker}
use Rattle.omega_workers.specs.declared.worker.Worker.{Worker}

-- each worker is ready for a step beside a history
abbrev pub AreReady : List Entry → List Worker → Type 0
AreReady history workers = Each (λ worker. IsReady worker.desk history worker) workers

-- neither the desk of a worker nor who has synced has changed
pub record IsAsBefore (old new : Worker) : Type 0 where
  pub desk : new.desk ≡ old.desk
  pub synced : synced_of new ≡ synced_of old

-- a worker has synced beside a history, or is as before, and is ready for a step there
pub record HasSyncedOrStays (history : List Entry) (old new : Worker) : Type 0 where
  pub ready : IsReady old.desk history new
  pub does : IsAsBefore old new ⊎ SyncsWorker history old history new

-- so is each worker, in its place
abbrev pub AllHaveSyncedOrStay : List Entry → List Worker → List Worker → Type 0
AllHaveSyncedOrStay history [] [] = Unit {0}
AllHaveSyncedOrStay history [] (new ∷ news) = ⊥
AllHaveSyncedOrStay history (old ∷ olds) [] = ⊥
AllHaveSyncedOrStay history (old ∷ olds) (new ∷ news) = HasSyncedOrStays history old new × AllHaveSyncedOrStay history olds news

-- a worker whose scheduler hasn't synced has no work
abbrev pub IsNotDue : Worker → Type 0
IsNotDue worker = synced_of worker ≡ None → worker.desk.requests ≡ []
