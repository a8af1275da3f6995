-- How far the stream of a drill is read.
use Rattle.std.proofs.Common.{◌≡◌, ◌⊎◌, inl, inr, ℕ, ◌≤◌, ◌^◌, Bool, true, Option, None, Some, IfSome, Ok, Err, List, [], refl, sym, ap, ◌∙◌, subst, arith, ◌++◌, length, take, unwrap_or, length-append}
use Rattle.std.specs.Option.{option_map}
use Rattle.std.specs.Io.KnownBytes.{IsAtEnd}
use Rattle.std.proofs.lemmas.List.{length-take}
use Rattle.fg_io.specs.Source.{Gives}
use Rattle.fg_shape.specs.declared.encoding.Losses.{Losses}
use Rattle.fg_shape.specs.declared.encoding.Settings.{Settings}
use Rattle.fg_shape.specs.Settings.{CanEncode}
use Rattle.fg_trace.specs.declared.step.Finish.{Finish}
use Rattle.fg_trace.specs.declared.step.Finish.TheVariants as finish
use Rattle.fg_trace.specs.Finish.{finish_of, IsFault as IsFinishFault}
use Rattle.fg_trace.specs.Trace.{Record, Ending, Ended, IsTrace}
use Rattle.fg_flows.specs.declared.Plan.{Plan}
use Rattle.fg_encode.specs.Reading.{IsStreamReadFor}
use Rattle.fg_encode.specs.Stream.{StreamEnding}
use Rattle.fg_encode.proofs.ReadLemmas.{any_ending}
use Rattle.fg_drill.specs.Drill.{Answer, IsFault, answer_to, ending_of, records_sent}
use Rattle.fg_drill.specs.DrillLaws.{trace_sent}
use Rattle.fg_drill.specs.DrillSteps.{TellsAll, TellsEnding}
use Rattle.fg_thin.specs.Payloads.{payloads_of}
use Rattle.fg_thin.specs.ThinnedSource.{ThinnedFixed, ending_told}
use Rattle.fg_thin.specs.TraceLaws.{StreamIsTrace}
use Rattle.fg_drill.proofs.Drills.{sent_trace}

-- A drill

-- the answer to the end that was told
pub tells_ending : (told : Bool) (fault other : StreamEnding) → told ≡ true → other ≡ fault → TellsEnding (answer_to other) told fault
tells_ending told fault other is same =
    (other, refl, subst (λ t. ending_told t fault ≡ Some other) (sym is) (ap (λ (f : StreamEnding). Some f) (sym same)))

-- at the end of the trace a read gives nothing, and so it tells the end
none_given : (before now : Option (List ℕ)) (given : List ℕ) → Gives before given now → IsAtEnd before → IfSome before (λ bytes. length given ≡ 0)
none_given None now given gives end = tt
none_given (Some bytes) None given gives end = absurd (let a = gives in cc)
none_given (Some bytes) (Some rest) given gives end =
    let a : length bytes ≡ length (given ++ rest) = ap (λ (o : Option (List ℕ)). length (unwrap_or o [])) gives in
    let b : length bytes ≡ 0 = ap length end in
    omega (arith, a, b, length-append given rest)

pub last_tells : (f : List ℕ → List ℕ) (stream now : Option (List ℕ)) (into : List ℕ) (count : ℕ) (told : Bool) (fault other : StreamEnding)
    → Gives (option_map f stream) (take count into) now → IsAtEnd (option_map f stream) → count ≤ length into → (count ≡ 0 → told ≡ true) → other ≡ fault
    → IfSome stream (λ bytes. TellsEnding (answer_to other) told fault)
last_tells f None now into count told fault other gives end small tells same = tt
last_tells f (Some bytes) now into count told fault other gives end small tells same =
    let none : length (take count into) ≡ 0 = none_given (Some (f bytes)) now (take count into) gives end in
    tells_ending told fault other (tells (omega (arith, none, length-take count into, small))) same

pub done_tells : (plan : Plan) (f : List ℕ → List ℕ) (stream told_stream : Option (List ℕ)) (answer : Answer) (told : Bool) (fault : StreamEnding) → told_stream ≡ stream
    → (answer ≡ Ok finish.ReadFault) ⊎ IfSome told_stream (λ bytes. TellsEnding answer told fault) → TellsAll plan (option_map f stream) answer told fault
done_tells plan f None told_stream answer told fault same h = tt
done_tells plan f (Some bytes) told_stream answer told fault same (inl read) = λ records is. inl (subst IsFault (sym read) tt)
done_tells plan f (Some bytes) told_stream answer told fault same (inr h) = λ records is.
    inr (subst (λ (s : Option (List ℕ)). IfSome s (λ bytes. TellsEnding answer told fault)) same h)

-- a whole trace is repaired to its end, or a fault stops it
fault_or_done : (answer : Finish) → (finish.Done ≡ answer → ⊥) → IsFinishFault answer ⊎ (answer ≡ finish.Done) → IsFinishFault answer
fault_or_done answer other (inr done) = absurd (other (sym done))
fault_or_done answer other (inl fault) = fault

pub other_tells : (plan : Plan) (trace : Option (List ℕ)) (answer : Finish) (told : Bool) (fault : StreamEnding) → (finish.Done ≡ answer → ⊥)
    → IfSome trace (λ bytes. (records : List Record) (end : Ending) → IsTrace bytes plan.max records end → IsFinishFault answer ⊎ (answer ≡ finish_of end))
    → TellsAll plan trace (Ok answer) told fault
other_tells plan None answer told fault other h = tt
other_tells plan (Some bytes) answer told fault other h = λ records is. inl (fault_or_done answer other (h records Ended is))

-- the trace of what is sent of the stream is whole
pub drill_tells : StreamIsTrace → (settings : Settings) (plan : Plan) (losses : Losses) (max : ℕ) (answer : Answer) (input trace stream : Option (List ℕ)) (told : Bool) (fault : StreamEnding)
    → CanEncode settings → plan.max ≡ 2 ^ 42 → max ≤ 2 ^ 40 → trace ≡ trace_sent settings losses max input → stream ≡ input
    → TellsAll plan trace answer told fault → IfSome stream (λ bytes. IsFault answer ⊎ TellsEnding answer told fault)
drill_tells law settings plan losses max answer None trace stream told fault can inner limit is same h =
    subst (λ (s : Option (List ℕ)). IfSome s (λ bytes. IsFault answer ⊎ TellsEnding answer told fault)) (sym same) tt
drill_tells law settings plan losses max answer (Some bytes) trace stream told fault can inner limit is same h =
    let all : TellsAll plan (trace_sent settings losses max (Some bytes)) answer told fault = subst (λ (t : Option (List ℕ)). TellsAll plan t answer told fault) is h in
    subst (λ (s : Option (List ℕ)). IfSome s (λ bytes. IsFault answer ⊎ TellsEnding answer told fault)) (sym same)
    (all (records_sent settings losses (payloads_of settings.packets max bytes)) (sent_trace law settings plan losses max bytes can inner limit))

-- so the stream was read
pub told_none : (answer : Answer) → IsFault answer → ending_of answer ≡ None
told_none (Ok finish.Done) fault = absurd fault
told_none (Ok finish.ReadFault) fault = refl
told_none (Ok finish.WriteFault) fault = refl
told_none (Ok (finish.NotTrace n)) fault = absurd fault
told_none (Ok (finish.Cut n)) fault = absurd fault
told_none (Ok (finish.TooLong n)) fault = absurd fault
told_none (Ok finish.Memory) fault = refl
told_none (Err stream) fault = absurd fault

pub told_of : (ending : StreamEnding) → ending_of (answer_to ending) ≡ Some ending
told_of None = refl
told_of (Some fault) = refl

pub drill_reads : (max max' : ℕ) (answer : Answer) (stream : Option (List ℕ)) (now : Option (List ℕ)) (told : Bool) (fault : StreamEnding) → max ≡ max'
    → IfSome stream (λ bytes. IsFault answer ⊎ TellsEnding answer told fault) → IfSome stream (λ bytes. IsStreamReadFor max (ending_told told fault) bytes now)
    → IfSome stream (λ bytes. IsStreamReadFor max' (ending_of answer) bytes now)
drill_reads max max' answer None now told fault limit tells h = tt
drill_reads max max' answer (Some bytes) now told fault limit (inl failed) h =
    subst (λ (e : Option StreamEnding). IsStreamReadFor max' e bytes now) (sym (told_none answer failed))
    (any_ending max' (ending_told told fault) bytes now (subst (λ m. IsStreamReadFor m (ending_told told fault) bytes now) limit h))
drill_reads max max' answer (Some bytes) now told fault limit (inr tells) h =
    let is : ending_told told fault ≡ ending_of answer = tells.2 ∙ sym (told_of tells.0) ∙ ap ending_of (sym tells.1) in
    subst (λ (e : Option StreamEnding). IsStreamReadFor max' e bytes now) is (subst (λ m. IsStreamReadFor m (ending_told told fault) bytes now) limit h)

pub same_stream : {F : Type 0} (old new : ThinnedFixed F) → new ≡ old → new.stream ≡ old.stream
same_stream {F} old new same = ap (λ (f : ThinnedFixed F). f.stream) same

pub same_max : {F : Type 0} (old new : ThinnedFixed F) → new ≡ old → new.max ≡ old.max
same_max {F} old new same = ap (λ (f : ThinnedFixed F). f.max) same

pub reads_of : (max : ℕ) (answer : Answer) (stream input now : Option (List ℕ)) → stream ≡ input → IfSome stream (λ bytes. IsStreamReadFor max (ending_of answer) bytes now) → IfSome input (λ bytes. IsStreamReadFor max (ending_of answer) bytes now)
reads_of max answer stream input now same h = subst (λ (s : Option (List ℕ)). IfSome s (λ bytes. IsStreamReadFor max (ending_of answer) bytes now)) same h
