-- Words that ask for a repair or a proof give a plan that fits, and its trace has few records.
use Rattle.std.proofs.Common.{◌≡◌, ◌+◌, ◌<◌, ◌≤◌, ◌^◌, ℕ, List, length, ap, arith, length-append}
use Rattle.std.specs.List.{flat_map}
use Rattle.fg_trace.specs.Trace.{Record, Ending, Ended, NotTrace, Cut, TooLong, IsTrace, Begins, magic, spelling, trace_of}
use Rattle.fg_trace.proofs.Opening.{few_spelled}
use Rattle.fg_flows.specs.declared.Plan.{Plan}
use Rattle.fg_flows.specs.Plan.{PlanFits}
use Rattle.fg_cli.specs.declared.Order.TheVariants as order
use Rattle.fg_cli.specs.declared.grammar.Command.{Command}
use Rattle.fg_cli.specs.declared.grammar.Command.TheVariants as command
use Rattle.fg_cli.specs.declared.grammar.Key.TheVariants as key
use Rattle.fg_cli.specs.declared.settings.Setting.{Setting}
use Rattle.fg_cli.specs.Lines.{number_of, values_of}
use Rattle.fg_cli.specs.Orders.{DepthIsBelow, IsOrder, IsPlan, IsReading}
use Rattle.fg_cli.specs.Reading.{InRanges}
use Rattle.fg_cli.proofs.Lines.{in_ranges}
use Rattle.fg_cli.proofs.Ranges.{depth_in, max_in, window_in, workers_in}

plan_fits :
    (settings : List Setting) (ports : List ℕ) (plan : Plan) → InRanges settings → ¬ DepthIsBelow settings
    → IsPlan settings ports (number_of key.Max settings) plan → PlanFits plan
plan_fits settings ports plan ranges deep is =
    let window = window_in settings ranges in
    let depth = depth_in settings ranges in
    let workers = workers_in settings ranges in
    let max = max_in settings ranges in
    record {
      table = is.table;
      playout = record {
        window = (omega (arith, window.0, is.window), omega (arith, window.1, is.window));
        depth = (omega (arith, deep, is.window, is.depth), omega (arith, depth.1, is.depth));
      };
      workers = omega (arith, workers.1, is.workers);
      max = (omega (arith, max.0, is.max), omega (arith, max.1, is.max));
    }

-- Of a command's settings that are read as a repair or as a proof.
repair_of : (command : Command) (settings : List Setting) (plan : Plan) → IsOrder command settings (order.Repair plan) → IsPlan settings (values_of key.Flow settings) (number_of key.Max settings) plan
repair_of command.Repair settings plan is = is
repair_of command.Encode settings plan is = absurd is
repair_of command.Drill settings plan is = absurd is
repair_of command.Inspect settings plan is = absurd is
repair_of command.Sample settings plan is = absurd is
repair_of command.FromCapture settings plan is = absurd is
repair_of command.ToCapture settings plan is = absurd is
repair_of command.Monitor settings plan is = absurd is
repair_of command.Prove settings plan is = absurd is
repair_of command.Check settings plan is = absurd is
repair_of command.ChooseMatrix settings plan is = absurd is
repair_of command.Survey settings plan is = absurd is
repair_of command.Pick settings plan is = absurd is

proof_of : (command : Command) (settings : List Setting) (plan : Plan) → IsOrder command settings (order.Prove plan) → IsPlan settings (values_of key.Flow settings) (number_of key.Max settings) plan
proof_of command.Repair settings plan is = absurd is
proof_of command.Encode settings plan is = absurd is
proof_of command.Drill settings plan is = absurd is
proof_of command.Inspect settings plan is = absurd is
proof_of command.Sample settings plan is = absurd is
proof_of command.FromCapture settings plan is = absurd is
proof_of command.ToCapture settings plan is = absurd is
proof_of command.Monitor settings plan is = absurd is
proof_of command.Prove settings plan is = is
proof_of command.Check settings plan is = absurd is
proof_of command.ChooseMatrix settings plan is = absurd is
proof_of command.Survey settings plan is = absurd is
proof_of command.Pick settings plan is = absurd is

pub repair_fits : (words : List (List ℕ)) (plan : Plan) → IsReading words (order.Repair plan) → PlanFits plan
repair_fits words plan reading =
    plan_fits reading.1 (values_of key.Flow reading.1) plan (in_ranges reading.0 reading.1 reading.2.known) reading.3.deep
    (repair_of reading.0 reading.1 plan reading.4)

pub proof_fits : (words : List (List ℕ)) (plan : Plan) → IsReading words (order.Prove plan) → PlanFits plan
proof_fits words plan reading =
    plan_fits reading.1 (values_of key.Flow reading.1) plan (in_ranges reading.0 reading.1 reading.2.known) reading.3.deep
    (proof_of reading.0 reading.1 plan reading.4)

-- A trace's records are fewer than its bytes may be.
begun_few : (bytes : List ℕ) (max : ℕ) (records : List Record) → max ≤ 2 ^ 42 → Begins bytes max records → length records < 2 ^ 43
begun_few bytes max records most begins =
    let within : length (trace_of records) ≤ max = begins.within in
    let spelled = few_spelled records in
    let long : length (trace_of records) ≡ length magic + length (flat_map spelling records) = length-append magic (flat_map spelling records) in
    omega (arith, within, spelled, long, most)

pub few_records : (plan : Plan) → PlanFits plan → (bytes : List ℕ) (records : List Record) (end : Ending) → IsTrace bytes plan.max records end → length records < 2 ^ 43
few_records plan fits bytes records Ended is = begun_few bytes plan.max records fits.max.1 is.1.begins
few_records plan fits bytes records (NotTrace n) is = let none : length records ≡ 0 = ap (λ (rs : List Record). length rs) is.0 in omega (arith, none)
few_records plan fits bytes records (Cut n) is = begun_few bytes plan.max records fits.max.1 is.1.begins
few_records plan fits bytes records (TooLong n) is = begun_few bytes plan.max records fits.max.1 is.1.begins
