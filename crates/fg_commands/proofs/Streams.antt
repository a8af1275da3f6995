-- The answer of a command that reads a stream, as the program's.
use Rattle.std.proofs.Common.{◌≡◌, ℕ, Option, None, Some, IfSome, IfOk, OnErr, Result, Ok, Err, List, [], ◌∷◌, refl, sym, ap, ◌∙◌}
use Rattle.std.proofs.lemmas.Result.{IfOk-weaker}
use Rattle.std.specs.Io.KnownBytes.{IsAtEnd}
use Rattle.fg_io.specs.declared.fault.Fault.{Fault}
use Rattle.fg_io.specs.declared.fault.Fault.TheVariants as fault
use Rattle.fg_io.specs.Faults.{Counts}
use Rattle.fg_io.specs.Texts.{Texts}
use Rattle.fg_ts.specs.declared.TsFault.TheVariants as packets
use Rattle.fg_encode.specs.declared.stream.StreamFault.TheVariants.{NotTransport, TooLong}
use Rattle.fg_encode.specs.Encode.{ending_of}
use Rattle.fg_encode.specs.Reading.{IsStreamReadFor}
use Rattle.fg_encode.specs.Stream.{IsCut, LeavesNothing, StreamEnding, OneCut}
use Rattle.fg_encode.proofs.ReadLemmas.{unread}
use Rattle.fg_commands.specs.declared.ended.Why.{Why}
use Rattle.fg_commands.specs.declared.ended.Why.TheVariants as why
use Rattle.fg_commands.specs.Ended.{IsFault}
use Rattle.fg_commands.specs.Endings.{why_of_came, why_of_stream}
use Rattle.fg_commands.specs.Filter.{FilterAnswered, filter, of_stream}
use Rattle.fg_commands.specs.Streams.{EndsStream, IsStreamAnswer}
use Rattle.fg_commands.proofs.Came.{Endings, HasTold, came_answered, came_lawful, ends_not, fault_is_no_end}
use Rattle.fg_commands.proofs.Lawful.{Lawful, none_wrong}

-- How such a command ends.
abbrev Came : Type 0
Came = Result StreamEnding Fault

-- The stream in the input is cut so, and then ends so.
abbrev pub CutsTo : ℕ → ℕ → Option (List ℕ) → StreamEnding → Type 0
CutsTo packets max input ending = (payloads : List (List ℕ)) × IfSome input (λ bytes. IsCut packets max bytes payloads ending)

pub one_answer : OneCut → (packets max : ℕ) (bytes : List ℕ) (one other : Why)
    → IsStreamAnswer packets max bytes one → IsStreamAnswer packets max bytes other → one ≡ other
one_answer law packets max bytes one other h k =
    h.3 ∙ ap why_of_stream (law packets max bytes h.0 k.0 h.1 k.1 h.2 k.2).1 ∙ sym k.3

endings : Endings why_of_stream EndsStream LeavesNothing
endings = record { each = each; no_end = fault_is_no_end (λ n. why.NotTransport (packets.Ragged n)) (λ n fault. fault) }
  where
    each : (ending : StreamEnding) → (IsFault (why_of_stream ending) → ⊥) × (EndsStream (why_of_stream ending) → LeavesNothing ending)
    each None = (λ fault. fault, λ h. tt)
    each (Some (TooLong n)) = (λ fault. fault, ends_not (λ k. why.NotTransport (packets.Ragged k)) (why.TooLong n) (λ e. let a = e in cc) (λ m e. let a = e in cc))
    each (Some (NotTransport (packets.Ragged n))) = (λ fault. fault, λ h. tt)
    each (Some (NotTransport (packets.NoSync n))) = (λ fault. fault, ends_not (λ k. why.NotTransport (packets.Ragged k)) (why.NotTransport (packets.NoSync n)) (λ e. let a = e in cc) (λ m e. let a = e in cc))

pub no_fault : (end : StreamEnding) → IsFault (why_of_stream end) → ⊥
no_fault end = (endings.each end).0

told : (came : Came) → HasTold came (ending_of came)
told (Ok ending) = refl
told (Err f) = refl

-- the answer that is due is told
due_told : OneCut → (packets max : ℕ) (came : Came) (input : Option (List ℕ)) → IfOk came (CutsTo packets max input)
    → IfOk came (λ ending. IfSome input (λ bytes. (due : Why) → IsStreamAnswer packets max bytes due → why_of_stream ending ≡ due))
due_told one packets max (Err f) input h = tt
due_told one packets max (Ok ending) None h = tt
due_told one packets max (Ok ending) (Some bytes) h = λ due k. ap why_of_stream (one packets max bytes h.0 k.0 ending k.1 h.1 k.2).1 ∙ sym k.3

-- a filter of streams
pub stream_answered : {S K : Type 0} {left : S → Option (List ℕ)} {input_faults : S → ℕ} {input input' : S}
    {written : K → Option (List ℕ)} {out_faults : K → ℕ} {out out' : K}
    → OneCut → (packets max : ℕ) (gained : StreamEnding → Texts) (part : Texts) (came : Came)
    → ((ending : StreamEnding) → gained ending (left input) (written out) (written out') → CutsTo packets max (left input) ending)
    → IfOk came (λ ending. gained ending (left input) (written out) (written out'))
    → IfOk came (λ ending. LeavesNothing ending → IsAtEnd (left input'))
    → IfSome (left input) (λ bytes. IsStreamReadFor max (ending_of came) bytes (left input'))
    → OnErr came (part (left input) (written out) (written out'))
    → Counts came ((input_faults input, input_faults input') ∷ []) ((out_faults out, out_faults out') ∷ [])
    → FilterAnswered (of_stream packets max gained part) (why_of_came why_of_stream came) left input_faults input input' written out_faults out out'
stream_answered one packets max gained part came cuts all leaves far left_part faults =
    came_answered why_of_stream (IsStreamAnswer packets max) gained part (IsStreamReadFor max) EndsStream (λ bytes. ⊥) LeavesNothing
    endings came (ending_of came) (told came) all (due_told one packets max came _ (IfOk-weaker came _ _ cuts all)) leaves far (none_wrong _ _) left_part faults

pub stream_lawful : (packets max : ℕ) (gained : StreamEnding → Texts) (part : Texts)
    → ((input written : Option (List ℕ)) → part input written written) → Lawful (filter (of_stream packets max gained part))
stream_lawful packets max gained part none =
    came_lawful why_of_stream (IsStreamAnswer packets max) gained part (IsStreamReadFor max) EndsStream (λ bytes. ⊥) none (unread max) (endings.no_end fault.Memory)
