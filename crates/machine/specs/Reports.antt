-- What is told of a run that has ended: its output, its outcome by numbers, and its fuel.
use Rattle.std.specs.Prelude.{ℕ, List, Some, None, Option}
use Rattle.machine.specs.Faults.{number}
use Rattle.machine.specs.State.{Outcome, done, failed, Progress, running, finished, stuck}
use Rattle.machine.specs.Run.{Run}

-- the number of the fault, or 0 where the text is whole
abbrev pub outcome_number : Outcome → ℕ
outcome_number done = 0
outcome_number (failed f) = number f.fault

pub record Report : Type 0 where
  pub output : List ℕ
  pub number : ℕ
  pub fuel : ℕ

abbrev pub report_by : Progress → ℕ → Option Report
report_by (running c b) n = None
report_by (finished x w) n = Some (record { output = w.sink.text; number = outcome_number x; fuel = n })
report_by stuck n = None

abbrev pub report : Run → Option Report
report r = report_by r.progress r.charged
