-- What a sample comes to, from what the repair of its trace does.
use Rattle.std.proofs.Common.{◌≡◌, ◌⊎◌, inl, inr, ⊎_elim, ℕ, ◌≤◌, ◌^◌, Option, None, Some, List, ◌++◌, length, sym, ap, ◌∙◌, subst, arith}
use Rattle.std.specs.Fmt.{decimal}
use Rattle.std.proofs.lemmas.List.FromFn.{length-map-range_with_len}
use Rattle.fg_io.specs.Laws.{WritesJoin}
use Rattle.fg_io.specs.Outlet.{Lanes}
use Rattle.fg_io.specs.Sink.{Gains, GainsPart}
use Rattle.fg_trace.specs.declared.step.Finish.{Finish}
use Rattle.fg_trace.specs.declared.step.Finish.TheVariants as finish
use Rattle.fg_trace.specs.Finish.{finish_of, IsFault as IsFinishFault}
use Rattle.fg_trace.specs.Laws.{OneTrace}
use Rattle.fg_trace.specs.Trace.{Record, Ending, Ended, IsTrace}
use Rattle.fg_flows.specs.declared.Plan.{Plan}
use Rattle.fg_shape.specs.Settings.{CanEncode}
use Rattle.fg_encode.specs.Stream.{payload_of}
use Rattle.fg_results.specs.Lanes.{PutsAll, PutsAllPart}
use Rattle.fg_results.specs.Repair.{OutputsPart, Finishes, lanes_of, report_text}
use Rattle.fg_shape.specs.declared.encoding.Losses.{Losses}
use Rattle.fg_thin.specs.Drawn.{drawn_drops, sample_layout, sample_settings}
use Rattle.fg_thin.specs.Few.{RecordsAreCounted}
use Rattle.fg_shape.specs.Losses.{MayLose}
use Rattle.fg_thin.specs.Made.{made_stream, MadeIsCut, MadeIsPackets}
use Rattle.fg_thin.specs.PayloadLaws.{CutPayloads}
use Rattle.fg_thin.specs.Payloads.{payloads_of}
use Rattle.fg_thin.specs.Thinned.{is_lost, media_number, thinned}
use Rattle.fg_thin.specs.ThinnedSource.{thinned_trace}
use Rattle.fg_thin.specs.TraceLaws.{StreamIsTrace}
use Rattle.fg_drill.specs.Sample.{Samples, SamplesPart, drops_made, losses_made, payloads_made, records_made, sample_line, sample_sent}
use Rattle.fg_drill.specs.DrillLaws.{SamplesAreCounted, SamplesAreTraces}
use Rattle.fg_drill.proofs.Drills.{gained}
use Rattle.std.proofs.Common.{lit≤, codes}

-- How many records there are

pub records_are : RecordsAreCounted → SamplesAreCounted
records_are counted seed datagrams =
    counted sample_settings (payloads_made seed datagrams)
    ∙ ap (λ n. media_number sample_layout n) (length-map-range_with_len (payload_of 7 (made_stream seed datagrams)) 0 datagrams)

-- The line

abbrev pub text : ℕ → ℕ → ℕ → ℕ → List ℕ
text seed datagrams records lost =
    codes "sample seed " ++ decimal seed ++ codes " datagrams " ++ decimal datagrams ++ codes " records " ++ decimal records ++ codes " lost " ++ decimal lost ++ codes "\n"

pub line_is : SamplesAreCounted → (seed datagrams loss records lost : ℕ) (drops line : List ℕ) → records ≡ media_number sample_layout datagrams → drops ≡ drawn_drops seed loss records → lost ≡ length drops
    → line ≡ text seed datagrams records lost → line ≡ sample_line seed datagrams loss
line_is counted seed datagrams loss records lost drops line are drawn many is =
    let same : records ≡ records_made seed datagrams = are ∙ sym (counted seed datagrams) in
    is ∙ ap (λ n. text seed datagrams n lost) same
    ∙ ap (λ n. text seed datagrams (records_made seed datagrams) n) (many ∙ ap (λ (l : List ℕ). length l) (drawn ∙ ap (λ n. drawn_drops seed loss n) same))

-- What is sent

abbrev pub losses_of : List ℕ → ℕ → Losses
losses_of drops every = record { drops = drops; every = every }

abbrev pub sent_of : Losses → ℕ → ℕ → List Record
sent_of losses seed datagrams = thinned sample_settings (is_lost losses) (payloads_made seed datagrams)

-- those that were drawn may be asked for
pub may_be_made : SamplesAreCounted → (seed datagrams loss records : ℕ) (losses : Losses) → records ≡ media_number sample_layout datagrams
    → losses.drops ≡ drawn_drops seed loss records → losses.every ≡ 0 → MayLose losses → MayLose (losses_made seed datagrams loss)
may_be_made counted seed datagrams loss records losses are drops every may =
    subst (λ n. MayLose (losses_of (drops_made seed datagrams loss) n)) every
    (subst (λ (d : List ℕ). MayLose (losses_of d losses.every)) (drops ∙ ap (λ n. drawn_drops seed loss n) (are ∙ sym (counted seed datagrams))) may)

losses_are : RecordsAreCounted → (seed datagrams loss : ℕ) (losses : Losses) → losses.drops ≡ drawn_drops seed loss (media_number sample_layout datagrams) → losses.every ≡ 0
    → sent_of losses seed datagrams ≡ sample_sent seed datagrams loss
losses_are counted seed datagrams loss losses drops every =
    ap (λ d. sent_of (losses_of d losses.every) seed datagrams) (drops ∙ ap (λ n. drawn_drops seed loss n) (sym (records_are counted seed datagrams)))
    ∙ ap (λ n. sent_of (losses_of (drops_made seed datagrams loss) n) seed datagrams) every

pub can : CanEncode sample_settings
can = record {
  packets = (lit≤ tt, lit≤ tt);
  rate = (lit≤ tt, lit≤ tt);
  port = lit≤ tt;
}

made_payloads : MadeIsCut → MadeIsPackets → CutPayloads → (seed datagrams : ℕ) → datagrams ≤ 20000 → payloads_of 7 (2 ^ 40) (made_stream seed datagrams) ≡ payloads_made seed datagrams
made_payloads cuts packets are seed datagrams few =
    let whole = packets seed datagrams in
    let size = whole.whole in
    let cut = cuts seed datagrams (2 ^ 40) (omega (arith, size, few)) in
    are 7 (2 ^ 40) (made_stream seed datagrams) (payloads_made seed datagrams) None (lit≤ tt) cut.1

pub samples_trace : MadeIsCut → MadeIsPackets → RecordsAreCounted → CutPayloads → StreamIsTrace → SamplesAreTraces
samples_trace cuts packets counted are trace seed datagrams loss losses few drops every =
    let bytes = thinned_trace sample_settings losses (2 ^ 40) (made_stream seed datagrams) in
    subst (λ rs. IsTrace bytes (2 ^ 42) rs Ended) (losses_are counted seed datagrams loss losses drops every)
    (subst (λ ps. IsTrace bytes (2 ^ 42) (thinned sample_settings (is_lost losses) ps) Ended) (made_payloads cuts packets are seed datagrams few)
    (trace sample_settings losses (2 ^ 40) (made_stream seed datagrams) can (lit≤ tt)))

-- The outputs

-- the answer to a trace that ended is that all was done
done_of : (end : Ending) (answer : Finish) → answer ≡ finish_of end → end ≡ Ended → answer ≡ finish.Done
done_of end answer is ended = is ∙ ap finish_of ended

pub samples : OneTrace → WritesJoin → (seed datagrams loss : ℕ) (plan : Plan) (answer : Finish) (bytes line : List ℕ) (lanes lanes' : Option Lanes) (first middle last : Option (List ℕ))
    → IsTrace bytes plan.max (sample_sent seed datagrams loss) Ended → line ≡ sample_line seed datagrams loss → Gains first line middle
    → IsFinishFault answer ⊎ Finishes plan answer (Some bytes) lanes lanes' middle last
    → IsFinishFault answer ⊎ ((answer ≡ finish.Done) × Samples seed datagrams loss plan lanes lanes' first last)
samples one join seed datagrams loss plan answer bytes line lanes lanes' first middle last is told wrote (inl fault) = inl fault
samples one join seed datagrams loss plan answer bytes line lanes lanes' first middle last is told wrote (inr h) =
    let has = gained one plan bytes (sample_sent seed datagrams loss) h.0 lanes lanes' middle last is h.2 in
    inr (
      done_of h.0 answer h.1 has.ended,
      record {
        results = has.results;
        are_results = has.are_results;
        puts = has.gain.0;
        gains = join first middle last (sample_line seed datagrams loss) (report_text plan (sample_sent seed datagrams loss) has.results Ended)
            (subst (λ t. Gains first t middle) told wrote) has.gain.1;
      },
    )

-- After the line, whatever the repair leaves.
pub samples_part : {K : Type 0} → WritesJoin → (seed datagrams loss : ℕ) (plan : Plan) (bytes line : List ℕ) (lanes lanes' : Option Lanes) (first : Option (List ℕ)) (written : K → Option (List ℕ)) (out out' : K)
    → IsTrace bytes plan.max (sample_sent seed datagrams loss) Ended → line ≡ sample_line seed datagrams loss → Gains first line (written out)
    → OutputsPart plan (Some bytes) lanes lanes' written out out' → SamplesPart seed datagrams loss plan lanes lanes' first (written out')
samples_part join seed datagrams loss plan bytes line lanes lanes' first written out out' is told wrote h =
    let begun = subst (λ t. Gains first t (written out)) told wrote in
    record {
      others = h.others;
      front = inr (λ results are. ⊎_elim
          (λ (k : PutsAllPart lanes plan.table (lanes_of results) lanes' × (out' ≡ out)).
          inl (k.0, subst (λ o. Gains first (sample_line seed datagrams loss) (written o)) (sym k.1) begun))
          (λ (k : PutsAll lanes plan.table (lanes_of results) lanes' × GainsPart (written out) (report_text plan (sample_sent seed datagrams loss) results Ended) (written out')).
          inr (k.0, (k.1.0, k.1.1, join first (written out) (written out') (sample_line seed datagrams loss) k.1.0 begun k.1.2)))
          (h.front (sample_sent seed datagrams loss) results Ended is are));
    }

-- Whatever the repaired source tells.
pub whole_sample : OneTrace → WritesJoin → (seed datagrams loss : ℕ) (plan : Plan) (answer : Finish) (bytes line : List ℕ) (trace : Option (List ℕ)) (lanes lanes' : Option Lanes) (first middle last : Option (List ℕ))
    → trace ≡ Some bytes → IsTrace bytes plan.max (sample_sent seed datagrams loss) Ended → line ≡ sample_line seed datagrams loss → Gains first line middle
    → IsFinishFault answer ⊎ Finishes plan answer trace lanes lanes' middle last
    → IsFinishFault answer ⊎ ((answer ≡ finish.Done) × Samples seed datagrams loss plan lanes lanes' first last)
whole_sample one join seed datagrams loss plan answer bytes line trace lanes lanes' first middle last left is told wrote h =
    samples one join seed datagrams loss plan answer bytes line lanes lanes' first middle last is told wrote
    (subst (λ t. IsFinishFault answer ⊎ Finishes plan answer t lanes lanes' middle last) left h)
