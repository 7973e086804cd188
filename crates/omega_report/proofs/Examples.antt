-- The bytes of a line of each kind, as text and as JSON, by computing the definitions. Some refusals stand
-- here alone, since no run comes to them: each scheduler plans on machines and tasks that its copy knows.
use Rattle.std.proofs.Common.{◌≡◌, ℕ, false, List, [], ◌∷◌, ◌++◌, codes, map, refl}
use Rattle.std.specs.Fmt.{digits}
use Rattle.std.specs.List.{flat_map}
use Rattle.omega_model.specs.Report.{Line, claim_lines, entry_lines}
use Rattle.omega_model.specs.ReportForms.{in_format}
use Rattle.omega_model.specs.ReportLines.{counts_line, first_line}
use Rattle.omega_model.specs.declared.cells.Need.{Need}
use Rattle.omega_model.specs.declared.cells.TaskKey.{TaskKey}
use Rattle.omega_model.specs.declared.claims.Claim.{Claim}
use Rattle.omega_model.specs.declared.claims.Mode.TheVariants.{Incremental}
use Rattle.omega_model.specs.declared.claims.Rule.TheVariants.{Fine}
use Rattle.omega_model.specs.declared.claims.Verdict.{Verdict}
use Rattle.omega_model.specs.declared.claims.Verdict.TheVariants.{Placed, NoMachine, AlreadyRunning, Changed, VictimRank, SameJob, Full, Withdrawn}
use Rattle.omega_model.specs.declared.entries.Entry.TheVariants.{Round, Commit}
use Rattle.omega_model.specs.declared.settings.Format.TheVariants.{Text, Json}
use Rattle.omega_report.specs.JsonOfText.{json_of_words}
use Rattle.omega_report.specs.Lines.{end_line, sizes_line, stop_line, unplaced_line, usage_line}

unfoldable key : ℕ → ℕ → TaskKey
key job index = record { job = job; index = index }

unfoldable amount : ℕ → ℕ → ℕ → Need
amount cpu mem disk = record { cpu = cpu; mem = mem; disk = disk }

-- a claim of task 0 of job 12 on machine 1
unfoldable claim : Claim
claim = record {
  key = key 12 0;
  machine = 1;
  spec = record { need = amount 0 0 0; prec = 9; differ = false };
  victims = [];
}

-- the lines of the claim, refused so
unfoldable refused : Verdict → List Line
refused verdict = claim_lines (claim, record { verdict = verdict; evicted = [] })

-- what a round has: it begins, two tasks lose their machine and one ends, and a commit evicts a task for
-- the claim that it places
unfoldable of_round : List Line
of_round =
    entry_lines (Round 1)
    ++ map (stop_line 1) (key 10 1 ∷ key 10 2 ∷ [])
    ++ end_line (key 3418314 0) 6
    ∷ entry_lines (Commit 1 4 (record { job = 12; rule = Fine; mode = Incremental; claims = claim ∷ [] })
    (record { verdict = Placed; evicted = key 10 0 ∷ [] } ∷ []))

round_text : in_format Text of_round ≡
    codes "round 1\n"
    ++ codes "displace 10 1 1\n"
    ++ codes "displace 10 2 1\n"
    ++ codes "end 3418314 0 6\n"
    ++ codes "commit 1 4 12\n"
    ++ codes "evict 10 0 1\n"
    ++ codes "place 12 0 1\n"
unfolding key amount claim of_round digits
round_text = refl

round_json : in_format Json of_round ≡
    codes "[[\"round\",1],"
    ++ codes "[\"displace\",10,1,1],"
    ++ codes "[\"displace\",10,2,1],"
    ++ codes "[\"end\",3418314,0,6],"
    ++ codes "[\"commit\",1,4,12],"
    ++ codes "[\"evict\",10,0,1],"
    ++ codes "[\"place\",12,0,1]]\n"
unfolding key amount claim of_round digits
round_json = refl

-- the claim refused for each reason
unfoldable refusals : List Line
refusals = flat_map refused
    (NoMachine ∷ AlreadyRunning 7 ∷ Changed 2 1 ∷ VictimRank (key 10 0) ∷ SameJob (key 12 3)
    ∷ Full (amount 100000000 100000000 1000000000000) ∷ Withdrawn 1 ∷ [])

refusals_text : in_format Text refusals ≡
    codes "refuse 12 0 1 no-machine\n"
    ++ codes "refuse 12 0 1 running 7\n"
    ++ codes "refuse 12 0 1 changed 2 1\n"
    ++ codes "refuse 12 0 1 victim-rank 10 0\n"
    ++ codes "refuse 12 0 1 same-job 12 3\n"
    ++ codes "refuse 12 0 1 full 100000000 100000000 1000000000000\n"
    ++ codes "refuse 12 0 1 withdrawn 1\n"
unfolding key amount claim refused refusals digits
refusals_text = refl

refusals_json : in_format Json refusals ≡
    codes "[[\"refuse\",12,0,1,\"no-machine\"],"
    ++ codes "[\"refuse\",12,0,1,\"running\",7],"
    ++ codes "[\"refuse\",12,0,1,\"changed\",2,1],"
    ++ codes "[\"refuse\",12,0,1,\"victim-rank\",10,0],"
    ++ codes "[\"refuse\",12,0,1,\"same-job\",12,3],"
    ++ codes "[\"refuse\",12,0,1,\"full\",100000000,100000000,1000000000000],"
    ++ codes "[\"refuse\",12,0,1,\"withdrawn\",1]]\n"
unfolding key amount claim refused refusals digits
refusals_json = refl

-- what stands around the rounds: the first line, the use of the cell and what the history comes to
unfoldable around_rounds : List Line
around_rounds =
    first_line
    ∷ usage_line (amount 312500000 212520000 948800) (amount 1750000000 1247900000 4000000000000)
    ∷ sizes_line 15 3
    ∷ counts_line 1 (record {
      commits = 3;
      empty = 1;
      placing = 2;
      conflicted = 4;
      placed = 5;
      refused = 6;
      withdrawn = 7;
      evicted = 8;
    })
    ∷ unplaced_line 4 0 ∷ []

around_text : in_format Text around_rounds ≡
    codes "omega 2\n"
    ++ codes "use cpu 312500000 1750000000 mem 212520000 1247900000 disk 948800 4000000000000\n"
    ++ codes "entries 15 rounds 3\n"
    ++ codes "scheduler 1 commits 3 empty 1 placing 2 conflicted 4 placed 5 refused 6 withdrawn 7 evicted 8\n"
    ++ codes "waiting 4 abandoned 0\n"
unfolding amount around_rounds digits
around_text = refl

around_json : in_format Json around_rounds ≡
    codes "[[\"omega\",2],"
    ++ codes "[\"use\",\"cpu\",312500000,1750000000,\"mem\",212520000,1247900000,\"disk\",948800,4000000000000],"
    ++ codes "[\"entries\",15,\"rounds\",3],"
    ++ codes "[\"scheduler\",1,\"commits\",3,\"empty\",1,\"placing\",2,\"conflicted\",4,\"placed\",5,\"refused\",6,\"withdrawn\",7,\"evicted\",8],"
    ++ codes "[\"waiting\",4,\"abandoned\",0]]\n"
unfolding amount around_rounds digits
around_json = refl

-- no line
nothing_text : in_format Text [] ≡ []
nothing_text = refl

nothing_json : in_format Json [] ≡ codes "[]\n"
nothing_json = refl

-- the JSON of a line that is given as text, and of a number that 64 bits hold no more
waited : json_of_words ((codes "wait" ∷ codes "1" ∷ codes "2" ∷ codes "105000" ∷ []) ∷ []) ≡ codes "[[\"wait\",1,2,105000]]\n"
waited = refl

wide : json_of_words ((codes "18446744073709551615" ∷ codes "18446744073709551616" ∷ []) ∷ []) ≡ codes "[[18446744073709551615,\"18446744073709551616\"]]\n"
wide = refl
