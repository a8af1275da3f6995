-- What `sample` is for: this project's own.
use Rattle.std.specs.Prelude.{◌≡◌, ◌⊎◌, ℕ, Some, ⊤}
use Rattle.fg_flows.specs.declared.Plan.{Plan}
use Rattle.fg_drill.specs.Sample.{SampleComesBack, Samples, SamplesPart, sample_sent}
use Rattle.fg_commands.specs.declared.ended.Why.TheVariants as why
use Rattle.fg_commands.specs.Behaviour.{Behaviour}
use Rattle.fg_commands.specs.Ended.{IsFault}
use Rattle.fg_run.specs.Stopping.{StopsLanes}

-- A stream is made, and what is sent of it is repaired. A fault stops it over the records that are sent. What is read is made, so no
-- input is, and no read fails: `at_read` can't be, and so that answer can't.
abbrev pub sampling : ℕ → ℕ → ℕ → Plan → Behaviour
sampling seed datagrams loss plan = record {
  is_answer = λ bytes answer. answer ≡ why.Done;
  gains = λ answer input lanes lanes' written written'.
      (answer ≡ why.Done) × Samples seed datagrams loss plan lanes lanes' written written';
  part = λ {K} input lanes lanes' written out out'.
      SamplesPart seed datagrams loss plan lanes lanes' (written out) (written out');
  stops = λ answer input lanes lanes'. StopsLanes plan answer (sample_sent seed datagrams loss) lanes lanes';
  at_read = λ input now lanes lanes'. ⊥;
  comes_back = λ answer input lanes lanes' written written'.
      IsFault answer ⊎ SampleComesBack seed datagrams loss plan lanes lanes';
  reads = λ answer bytes now. now ≡ Some bytes;
  reads_all = λ answer. ⊥;
  may_have_failed_to_read = λ answer. answer ≡ why.ReadFault;
  is_no_input = λ bytes. ⊥;
  reads_nothing = ⊤;
  writes_nothing = ⊥;
  makes_no_lane = ⊥;
  writes_last = ⊥;
}
