-- Worked answers: the tables that are made of a seed.
use Rattle.std.proofs.Common.{◌≡◌, ℕ, [], ◌++◌, refl, codes}
use Rattle.std.specs.Fmt.{digits}
use Rattle.rand_pcg.specs.Lcg.{state_after}
use Rattle.omega_model.specs.Generated.{generated}
use Rattle.omega_model.specs.declared.rows.Table.TheVariants.{MachineEvents, MachineAttributes, TaskEvents, TaskConstraints, MapreduceJobs, MachineDisk}

-- the first word of seed 0 is 1 modulo 3, so that one machine has three quarters
one_machine : generated 0 1 0 MachineEvents ≡ codes "0,1,0,g,0.75,0.75\n"
unfolding state_after digits
one_machine = refl

no_job : generated 0 1 0 TaskEvents ≡ []
no_job = refl

no_machine : generated 0 0 1 MachineEvents ≡ []
no_machine = refl

-- the other four tables are empty, whatever the seed
others_empty : (seed machines jobs : ℕ)
    → generated seed machines jobs MachineAttributes ++ generated seed machines jobs TaskConstraints
    ++ generated seed machines jobs MapreduceJobs ++ generated seed machines jobs MachineDisk ≡ []
others_empty seed machines jobs = refl

-- a job after one machine: seven tasks are submitted, and finish together
one_job : generated 0 1 1 TaskEvents ≡
    codes "610000000,,1,0,,0,g,3,0,0.013,0.043,,0\n"
    ++ codes "610000000,,1,1,,0,g,3,0,0.013,0.043,,0\n"
    ++ codes "610000000,,1,2,,0,g,3,0,0.013,0.043,,0\n"
    ++ codes "610000000,,1,3,,0,g,3,0,0.013,0.043,,0\n"
    ++ codes "610000000,,1,4,,0,g,3,0,0.013,0.043,,0\n"
    ++ codes "610000000,,1,5,,0,g,3,0,0.013,0.043,,0\n"
    ++ codes "610000000,,1,6,,0,g,3,0,0.013,0.043,,0\n"
    ++ codes "6010000000,,1,0,,4,g,3,0,0.013,0.043,,0\n"
    ++ codes "6010000000,,1,1,,4,g,3,0,0.013,0.043,,0\n"
    ++ codes "6010000000,,1,2,,4,g,3,0,0.013,0.043,,0\n"
    ++ codes "6010000000,,1,3,,4,g,3,0,0.013,0.043,,0\n"
    ++ codes "6010000000,,1,4,,4,g,3,0,0.013,0.043,,0\n"
    ++ codes "6010000000,,1,5,,4,g,3,0,0.013,0.043,,0\n"
    ++ codes "6010000000,,1,6,,4,g,3,0,0.013,0.043,,0\n"
unfolding state_after digits
one_job = refl

-- four machines of another seed, with all three capacities
four_machines : generated 6 4 0 MachineEvents ≡
    codes "0,1,0,g,1,1\n"
    ++ codes "0,2,0,g,1,1\n"
    ++ codes "0,3,0,g,0.5,0.5\n"
    ++ codes "0,4,0,g,0.75,0.75\n"
unfolding state_after digits
four_machines = refl

-- two jobs, where no word went to a machine
two_jobs : generated 7 0 2 TaskEvents ≡
    codes "610000000,,1,0,,0,g,2,11,0.008,0.015,,0\n"
    ++ codes "610000000,,1,1,,0,g,2,11,0.008,0.015,,0\n"
    ++ codes "4510000000,,1,0,,4,g,2,11,0.008,0.015,,0\n"
    ++ codes "4510000000,,1,1,,4,g,2,11,0.008,0.015,,0\n"
    ++ codes "620000000,,2,0,,0,g,1,7,0.034,0.046,,0\n"
    ++ codes "620000000,,2,1,,0,g,1,7,0.034,0.046,,0\n"
    ++ codes "620000000,,2,2,,0,g,1,7,0.034,0.046,,0\n"
    ++ codes "620000000,,2,3,,0,g,1,7,0.034,0.046,,0\n"
    ++ codes "620000000,,2,4,,0,g,1,7,0.034,0.046,,0\n"
    ++ codes "620000000,,2,5,,0,g,1,7,0.034,0.046,,0\n"
    ++ codes "5720000000,,2,0,,4,g,1,7,0.034,0.046,,0\n"
    ++ codes "5720000000,,2,1,,4,g,1,7,0.034,0.046,,0\n"
    ++ codes "5720000000,,2,2,,4,g,1,7,0.034,0.046,,0\n"
    ++ codes "5720000000,,2,3,,4,g,1,7,0.034,0.046,,0\n"
    ++ codes "5720000000,,2,4,,4,g,1,7,0.034,0.046,,0\n"
    ++ codes "5720000000,,2,5,,4,g,1,7,0.034,0.046,,0\n"
unfolding state_after digits
two_jobs = refl
