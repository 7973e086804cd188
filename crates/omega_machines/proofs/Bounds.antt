-- Changes that leave a machine within its bounds.
use Rattle.std.proofs.Common.{◌≡◌, ℕ, ◌+◌, ◌<◌, ◌^◌, true, false, sym, ap, ◌∙◌, true≢false, arith}
use Rattle.omega_model.specs.Fields.{greatest}
use Rattle.omega_model.specs.Machines.{removed}
use Rattle.omega_model.specs.Need.{Fits, nothing, plus, minus}
use Rattle.omega_model.specs.declared.cells.Need.{Need}
use Rattle.omega_model.specs.declared.cells.Machine.{Machine}
use Rattle.omega_machines.specs.Table.{MachineState, IsBounded, used, state_added, state_updated, state_put, with_machine, charged, released}
use Rattle.omega_model.proofs.Amounts.{need_is}

module _ (state : MachineState) (bounded : IsBounded state) where
  -- what is free and what is given back are a sum within its type
  pub released_fits : (need : Need) → Fits need (used state) → (state.free.cpu + need.cpu < 2 ^ 64)
      × ((state.free.mem + need.mem < 2 ^ 64) × (state.free.disk + need.disk < 2 ^ 64))
  released_fits need h = (
    omega (arith, bounded.free.0, bounded.cap.0, h.0),
    (
      omega (arith, bounded.free.1.0, bounded.cap.1.0, h.1.0),
      omega (arith, bounded.free.1.1, bounded.cap.1.1, h.1.1),
    ),
  )

  pub bounded-charged : (need : Need) → (state.machine.up ≡ true) × Fits need state.free → IsBounded (charged need state)
  bounded-charged need h = record {
    cap = bounded.cap;
    free = (omega (arith, bounded.free.0), (omega (arith, bounded.free.1.0), omega (arith, bounded.free.1.1)));
    down = λ down. absurd (true≢false (sym h.0 ∙ down));
  }

  pub bounded-released : (need : Need) → Fits need (used state) → IsBounded (released need state)
  bounded-released need h = record {
    cap = bounded.cap;
    free = (omega (arith, bounded.free.0, h.0), (omega (arith, bounded.free.1.0, h.1.0), omega (arith, bounded.free.1.1, h.1.1)));
    down = λ down.
        let all = bounded.down down in
        need_is (plus state.free need) state.machine.cap
        (omega (arith, ap (λ (n : Need). n.cpu) all, h.0)) (omega (arith, ap (λ (n : Need). n.mem) all, h.1.0))
        (omega (arith, ap (λ (n : Need). n.disk) all, h.1.1));
  }

  pub bounded-added : (cap : Need) → Fits cap greatest → IsBounded (state_added cap state)
  bounded-added cap most = record {
    cap = most;
    free = (omega arith, (omega arith, omega arith));
    down = λ down. absurd (true≢false down);
  }

  pub bounded-updated : (cap : Need) → Fits cap greatest → IsBounded (state_updated cap state)
  bounded-updated cap most = record {
    cap = most;
    free = (omega arith, (omega arith, omega arith));
    down = λ down.
        let all = bounded.down down in
        need_is (minus cap (used state)) cap
        (omega (arith, ap (λ (n : Need). n.cpu) all)) (omega (arith, ap (λ (n : Need). n.mem) all))
        (omega (arith, ap (λ (n : Need). n.disk) all));
  }

  pub bounded-removed : used state ≡ nothing → IsBounded (with_machine removed state)
  bounded-removed none = record {
    cap = bounded.cap;
    free = bounded.free;
    down = λ _.
        need_is state.free state.machine.cap
        (omega (arith, bounded.free.0, ap (λ (n : Need). n.cpu) none)) (omega (arith, bounded.free.1.0, ap (λ (n : Need). n.mem) none))
        (omega (arith, bounded.free.1.1, ap (λ (n : Need). n.disk) none));
  }

-- a row is within its bounds that has nothing in use while its machine isn't up
pub bounded-put : (machine : Machine) (used : Need) (seq : ℕ) → Fits machine.cap greatest → (machine.up ≡ false → used ≡ nothing) → IsBounded (state_put machine used seq)
bounded-put machine used seq most down = record {
  cap = most;
  free = (omega arith, (omega arith, omega arith));
  down = λ isnt.
      let none = down isnt in
      need_is (minus machine.cap used) machine.cap
      (omega (arith, ap (λ (n : Need). n.cpu) none)) (omega (arith, ap (λ (n : Need). n.mem) none))
      (omega (arith, ap (λ (n : Need). n.disk) none));
}
