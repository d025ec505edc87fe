-- What each workload is.
use Rattle.std.specs.Prelude.{ℕ, zero, suc, List, [], ◌∷◌, ◌++◌, codes}
use Rattle.slatedb_txn_obj_uses.specs.declared.workload.Workload.{Workload}
use Rattle.slatedb_txn_obj_uses.specs.declared.workload.Workload.TheVariants as workloads

abbrev pub workload_name : Workload → List ℕ
workload_name workloads.Update = codes "update"
workload_name workloads.ReadWarm = codes "read_warm"
workload_name workloads.LoadCold100 = codes "load_cold_100"
workload_name workloads.List10000 = codes "list_10000"
workload_name workloads.LoadClaimFresh = codes "load_claim_fresh"

-- how many versions stand before its first call
abbrev pub versions_before : Workload → ℕ
versions_before workloads.Update = 0
versions_before workloads.ReadWarm = 1
versions_before workloads.LoadCold100 = 100
versions_before workloads.List10000 = 10000
versions_before workloads.LoadClaimFresh = 1

-- how many stores a round has: each claim is one more version, so each has its own
abbrev pub stores_of_round : Workload → ℕ
stores_of_round workloads.LoadClaimFresh = 1000
stores_of_round workload = 1

-- how many calls a round makes
abbrev pub calls_of_round : Workload → ℕ
calls_of_round workloads.Update = 10000
calls_of_round workloads.ReadWarm = 20000
calls_of_round workloads.LoadCold100 = 1000
calls_of_round workloads.List10000 = 20
calls_of_round workloads.LoadClaimFresh = 1000

-- its calls are each by a new protocol
abbrev pub IsByNew : Workload → Type 0
IsByNew workloads.LoadCold100 = Unit {0}
IsByNew workloads.LoadClaimFresh = Unit {0}
IsByNew workload = ⊥

-- the values of so many versions, each its id
abbrev pub numbers_to : ℕ → List ℕ
numbers_to zero = []
numbers_to (suc n) = numbers_to n ++ suc n ∷ []
