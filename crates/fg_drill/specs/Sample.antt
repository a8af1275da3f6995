-- What a sample comes to. This project's own.
use Rattle.std.specs.Prelude.{◌≡◌, ◌⊎◌, ℕ, List, length, map, ◌++◌, codes, Option}
use Rattle.std.specs.Fmt.{decimal}
use Rattle.std.specs.List.{range_with_len}
use Rattle.fg_io.specs.Outlet.{Lanes, Puts, WhereTold}
use Rattle.fg_io.specs.Prefix.{IsPrefix}
use Rattle.fg_io.specs.Sink.{Gains, GainsPart}
use Rattle.fg_shape.specs.declared.encoding.Losses.{Losses}
use Rattle.fg_trace.specs.Trace.{Record, Ended}
use Rattle.fg_flows.specs.declared.Plan.{Plan}
use Rattle.fg_flows.specs.Plan.{playout_of}
use Rattle.fg_encode.specs.Encoding.{encoding}
use Rattle.fg_encode.specs.Stream.{payload_of}
use Rattle.fg_results.specs.Flow.{FlowResult}
use Rattle.fg_results.specs.Lanes.{OthersStay, PutsAll, PutsAllPart}
use Rattle.fg_results.specs.Repair.{AreResults, lanes_of, report_text}
use Rattle.fg_drill.specs.ComesBack.{FlowComesBack, stream_of}
use Rattle.fg_thin.specs.Drawn.{drawn_drops, sample_settings}
use Rattle.fg_thin.specs.Made.{made_stream}
use Rattle.fg_thin.specs.Thinned.{is_lost, thinned}

-- The payloads of the made stream, seven packets each.
abbrev pub payloads_made : ℕ → ℕ → List (List ℕ)
payloads_made seed datagrams = map (payload_of 7 (made_stream seed datagrams)) (range_with_len 0 datagrams)

-- How many records their encoding has.
abbrev pub records_made : ℕ → ℕ → ℕ
records_made seed datagrams = length (encoding sample_settings (payloads_made seed datagrams))

-- The numbers of those that are left out.
abbrev pub drops_made : ℕ → ℕ → ℕ → List ℕ
drops_made seed datagrams loss = drawn_drops seed loss (records_made seed datagrams)

abbrev pub losses_made : ℕ → ℕ → ℕ → Losses
losses_made seed datagrams loss = record { drops = drops_made seed datagrams loss; every = 0 }

-- What is sent of them.
abbrev pub sample_sent : ℕ → ℕ → ℕ → List Record
sample_sent seed datagrams loss =
    thinned sample_settings (is_lost (losses_made seed datagrams loss)) (payloads_made seed datagrams)

-- The line that tells the seed, the datagrams, the records before losses, and how many are left out.
abbrev pub sample_line : ℕ → ℕ → ℕ → List ℕ
sample_line seed datagrams loss =
    codes "sample seed " ++ decimal seed ++ codes " datagrams " ++ decimal datagrams ++ codes " records "
    ++ decimal (records_made seed datagrams) ++ codes " lost " ++ decimal (length (drops_made seed datagrams loss))
    ++ codes "\n"

-- The sink has gained the line and then the report of a repair of what is sent, and each lane its bytes.
pub record Samples
    (seed datagrams loss : ℕ) (plan : Plan)
    (lanes lanes' : Option Lanes) (written written' : Option (List ℕ)) : Type 0 where
  pub results : List FlowResult
  pub are_results : AreResults plan (sample_sent seed datagrams loss) results
  pub puts : PutsAll lanes plan.table (lanes_of results) lanes'
  pub gains :
      Gains written
      (sample_line seed datagrams loss ++ report_text plan (sample_sent seed datagrams loss) results Ended)
      written'

-- The sink has gained the line and then a prefix of the text.
abbrev pub GainsAfterLine : Option (List ℕ) → List ℕ → List ℕ → Option (List ℕ) → Type 0
GainsAfterLine written line text written' = (part : List ℕ) × IsPrefix part text × Gains written (line ++ part) written'

-- What a fault leaves of that, the line first, then the lanes, then the report. The sink has gained a prefix of the line, and
-- no lane has changed; or all of the line and nothing else, and each lane a prefix of its bytes; or each lane is whole, and
-- the sink has gained the line and a prefix of the report. The lanes of other ports are as they were.
pub record SamplesPart
    (seed datagrams loss : ℕ) (plan : Plan)
    (lanes lanes' : Option Lanes) (written written' : Option (List ℕ)) : Type 0 where
  pub others : WhereTold (OthersStay plan.table) lanes lanes'
  pub front : ((lanes' ≡ lanes) × GainsPart written (sample_line seed datagrams loss) written')
      ⊎ ((results : List FlowResult) → AreResults plan (sample_sent seed datagrams loss) results
      → (PutsAllPart lanes plan.table (lanes_of results) lanes'
      × Gains written (sample_line seed datagrams loss) written')
      ⊎ (PutsAll lanes plan.table (lanes_of results) lanes'
      × GainsAfterLine written (sample_line seed datagrams loss)
      (report_text plan (sample_sent seed datagrams loss) results Ended) written'))

-- What comes back of a sample: no play is inconsistent, and the lane at its flow's port gains the made stream without the
-- slots that no play shows, and all of it where what is sent peels.
pub record SampleComesBack
    (seed datagrams loss : ℕ) (plan : Plan) (lanes lanes' : Option Lanes) : Type 0 where
  pub result : FlowResult
  pub back :
      FlowComesBack (playout_of plan) sample_settings (payloads_made seed datagrams)
      (is_lost (losses_made seed datagrams loss)) result
  pub whole : stream_of (payloads_made seed datagrams) ≡ made_stream seed datagrams
  pub gains : Puts lanes sample_settings.port result.lane lanes'
