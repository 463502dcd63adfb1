use Rattle.machine.proofs.Steps.{split, fuel_sum, ended_stays, fuel_does_not_show}
use Rattle.machine.proofs.Growing.{faults_write_nothing, world_only_grows}
use Rattle.machine.proofs.laws_of_runs.Goals as goal

pub returns : goal.returns
returns c = record { split = split; fuel = fuel_sum; ended = ended_stays; quiet = faults_write_nothing; enough = fuel_does_not_show; world = world_only_grows }
