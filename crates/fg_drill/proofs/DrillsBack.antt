-- What comes back of a stream that is drilled, and of a sample.
use Rattle.std.proofs.Common.{◌≡◌, ◌≢◌, ◌⊎◌, inl, inr, ℕ, zero, suc, ◌<◌, ◌≤◌, ◌^◌, Option, None, Some, List, [], ◌∷◌, ◌++◌, length, refl, sym, ap, ◌∙◌, subst, arith, lit≤}
use Rattle.std.specs.List.{AllZip, Contains, concat, slice_index_or}
use Rattle.fg_io.specs.Outlet.{Lanes, Puts}
use Rattle.fg_shape.specs.declared.encoding.Losses.{Losses}
use Rattle.fg_shape.specs.declared.encoding.Settings.{Settings}
use Rattle.fg_flows.specs.declared.Plan.{Plan}
use Rattle.fg_flows.specs.Plan.{PlanFits, playout_of}
use Rattle.fg_trace.specs.declared.step.Finish.{Finish}
use Rattle.fg_trace.specs.declared.step.Finish.TheVariants as finish
use Rattle.fg_trace.specs.Finish.{IsFault as IsFinishFault}
use Rattle.fg_shape.specs.Settings.{CanEncode}
use Rattle.fg_encode.specs.Laws.{CutsArePayloads, WholeCutIsAll}
use Rattle.fg_encode.specs.Stream.{IsCut}
use Rattle.fg_results.specs.Flow.{FlowResult, IsFlowResult}
use Rattle.fg_results.specs.Lanes.{PutsAll}
use Rattle.fg_results.specs.Repair.{lanes_of}
use Rattle.fg_drill.specs.Drill.{Answer, DrillsStream, StreamComesBack, records_sent}
use Rattle.fg_drill.specs.ComesBack.{CanComeBack, NothingIsInconsistent, WhatIsShownComesBack, PeelingBringsAllBack, stream_of}
use Rattle.fg_thin.specs.Drawn.{sample_layout, sample_settings}
use Rattle.fg_thin.specs.Few.{LossesAreFew}
use Rattle.fg_shape.specs.Losses.{MayLose}
use Rattle.fg_thin.specs.Made.{MadeIsCut, MadeIsPackets, made_stream}
use Rattle.fg_thin.specs.Thinned.{is_lost}
use Rattle.fg_drill.specs.DrillLaws.{DrillsComeBack, SamplesComeBack}
use Rattle.fg_drill.specs.Sample.{SampleComesBack, Samples, losses_made, payloads_made, sample_sent}
use Rattle.fg_drill.proofs.Samples.{can as sample_can}

-- payloads one after another
joined : (payloads : List (List ℕ)) → stream_of payloads ≡ concat payloads
joined [] = refl
joined (p ∷ ps) = ap (λ t. p ++ t) (joined ps)

-- one port has one result
record IsSingle (P : ℕ → FlowResult → Type 0) (port : ℕ) (results : List FlowResult) : Type 0 where
  pub result : FlowResult
  pub all : results ≡ result ∷ []
  pub is : P port result

single : (P : ℕ → FlowResult → Type 0) (port : ℕ) (results : List FlowResult) → AllZip P (port ∷ []) results → IsSingle P port results
single P port [] h = absurd h
single P port (r ∷ []) h = record { result = r; all = refl; is = h.0 }
single P port (r ∷ s ∷ rs) h = absurd h.1

-- and one lane
at_port : (port other k : ℕ) → k < 1 → slice_index_or (port ∷ []) k other ≡ other → other ≡ port
at_port port other zero within is = sym is
at_port port other (suc k) within is = absurd (omega (arith, within))

others_differ : (port other : ℕ) → other ≢ port → Contains (port ∷ []) other → ⊥
others_differ port other differs h = differs (at_port port other h.0 h.1 h.2)

puts_one : (port : ℕ) (piece : List ℕ) (lanes lanes' : Option Lanes) → PutsAll lanes (port ∷ []) (piece ∷ []) lanes' → Puts lanes port piece lanes'
puts_one port piece None None h = tt
puts_one port piece None (Some after) h = h
puts_one port piece (Some before) None h = h
puts_one port piece (Some before) (Some after) h = record {
  lane = h.lanes.0;
  others = λ other differs. h.others other (others_differ port other differs);
}

-- The laws that this stands on.
record Laws : Type 0 where
  pub few : LossesAreFew
  pub cuts : CutsArePayloads
  pub all : WholeCutIsAll
  pub consistent : NothingIsInconsistent
  pub shown : WhatIsShownComesBack
  pub peels : PeelingBringsAllBack

of_stream : Laws → (settings : Settings) (plan : Plan) (losses : Losses) (max : ℕ) (answer : Answer) (bytes : List ℕ) (lanes lanes' : Option Lanes) (written written' : Option (List ℕ))
    → CanEncode settings → PlanFits plan → plan.table ≡ settings.port ∷ [] → MayLose losses → max ≤ 2 ^ 40
    → DrillsStream settings plan losses max answer bytes lanes lanes' written written' → StreamComesBack settings plan losses max answer bytes lanes lanes'
of_stream laws settings plan losses max answer bytes lanes lanes' written written' can fits flow may limit h =
    let records = records_sent settings losses h.payloads in
    let P : ℕ → FlowResult → Type 0 = IsFlowResult (playout_of plan) records in
    let one = single P settings.port h.results (subst (λ ports. AllZip P ports h.results) flow h.are_results) in
    let cut = laws.cuts settings.packets max bytes h.payloads can.packets.0 h.cut.first in
    let back : CanComeBack (playout_of plan) settings h.payloads (is_lost losses) = record {
      can = can;
      whole = cut.0;
      few = laws.few settings.layout losses (length h.payloads) may;
      limit = omega (arith, cut.1, limit);
      fits = fits.playout;
    } in
    record {
      payloads = h.payloads;
      end = h.end;
      result = one.result;
      cut = h.cut;
      answer_is = h.answer_is;
      is = one.is;
      consistent = laws.consistent (playout_of plan) settings h.payloads (is_lost losses) one.result back one.is;
      shown = laws.shown (playout_of plan) settings h.payloads (is_lost losses) one.result back one.is;
      peels = laws.peels (playout_of plan) settings h.payloads (is_lost losses) one.result back one.is;
      whole = λ done.
          joined h.payloads
          ∙ laws.all settings.packets max bytes h.payloads
          (subst (λ e. IsCut settings.packets max bytes h.payloads e) done h.cut);
      gains = puts_one settings.port one.result.lane lanes lanes'
          (subst (λ ports. PutsAll lanes ports (one.result.lane ∷ []) lanes') flow
          (subst (λ results. PutsAll lanes plan.table (lanes_of results) lanes') one.all h.gain.0));
    }

comes_back : Laws → DrillsComeBack
comes_back laws settings plan losses max answer None lanes lanes' written written' can fits flow may limit h = tt
comes_back laws settings plan losses max answer (Some bytes) lanes lanes' written written' can fits flow may limit (inl fault) = inl fault
comes_back laws settings plan losses max answer (Some bytes) lanes lanes' written written' can fits flow may limit (inr h) =
    inr (of_stream laws settings plan losses max answer bytes lanes lanes' written written' can fits flow may limit h)

pub drills_come_back : LossesAreFew → CutsArePayloads → WholeCutIsAll → NothingIsInconsistent → WhatIsShownComesBack → PeelingBringsAllBack → DrillsComeBack
drills_come_back few cuts all consistent shown peels =
    comes_back (record { few = few; cuts = cuts; all = all; consistent = consistent; shown = shown; peels = peels })

-- A sample

pub samples_come_back :
    LossesAreFew → CutsArePayloads → WholeCutIsAll → NothingIsInconsistent → WhatIsShownComesBack → PeelingBringsAllBack → MadeIsCut → MadeIsPackets → SamplesComeBack
samples_come_back few cuts all consistent shown peels made packets seed datagrams loss plan lanes lanes' written written' small fits flow may h =
    let payloads = payloads_made seed datagrams in
    let lost = is_lost (losses_made seed datagrams loss) in
    let P : ℕ → FlowResult → Type 0 = IsFlowResult (playout_of plan) (sample_sent seed datagrams loss) in
    let one = single P sample_settings.port h.results (subst (λ ports. AllZip P ports h.results) flow h.are_results) in
    let size = (packets seed datagrams).whole in
    let cut = (made seed datagrams (2 ^ 40) (omega (arith, size, small))).1 in
    let are = cuts 7 (2 ^ 40) (made_stream seed datagrams) payloads (lit≤ tt) cut.first in
    let back : CanComeBack (playout_of plan) sample_settings payloads lost = record {
      can = sample_can;
      whole = are.0;
      few = few sample_layout (losses_made seed datagrams loss) (length payloads) may;
      limit = are.1;
      fits = fits.playout;
    } in
    record {
      result = one.result;
      back = record {
        is = one.is;
        consistent = consistent (playout_of plan) sample_settings payloads lost one.result back one.is;
        shown = shown (playout_of plan) sample_settings payloads lost one.result back one.is;
        peels = peels (playout_of plan) sample_settings payloads lost one.result back one.is;
      };
      whole = joined payloads ∙ all 7 (2 ^ 40) (made_stream seed datagrams) payloads cut;
      gains = puts_one sample_settings.port one.result.lane lanes lanes'
          (subst (λ ports. PutsAll lanes ports (one.result.lane ∷ []) lanes') flow
          (subst (λ results. PutsAll lanes plan.table (lanes_of results) lanes') one.all h.puts));
    }

-- with no fault
pub sample_back : SamplesComeBack → (seed datagrams loss : ℕ) (plan : Plan) (answer : Finish) (lanes lanes' : Option Lanes) (written written' : Option (List ℕ))
    → datagrams ≤ 20000 → PlanFits plan → plan.table ≡ sample_settings.port ∷ [] → MayLose (losses_made seed datagrams loss)
    → IsFinishFault answer ⊎ ((answer ≡ finish.Done) × Samples seed datagrams loss plan lanes lanes' written written')
    → IsFinishFault answer ⊎ SampleComesBack seed datagrams loss plan lanes lanes'
sample_back law seed datagrams loss plan answer lanes lanes' written written' small fits flow may (inl fault) = inl fault
sample_back law seed datagrams loss plan answer lanes lanes' written written' small fits flow may (inr h) =
    inr (law seed datagrams loss plan lanes lanes' written written' small fits flow may h.1)
