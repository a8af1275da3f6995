-- The answer of a command that makes a trace of a capture, as the program's.
use Rattle.std.proofs.Common.{◌≡◌, ℕ, Option, None, Some, IfSome, IfOk, OnErr, Result, Ok, Err, List, [], ◌∷◌, ap, sym, ◌∙◌}
use Rattle.std.specs.Io.KnownBytes.{IsAtEnd}
use Rattle.fg_io.specs.declared.fault.Fault.{Fault}
use Rattle.fg_io.specs.Faults.{Counts}
use Rattle.fg_io.specs.Laws.{NoneIsPart}
use Rattle.fg_pcap.specs.declared.ending.CaptureEnding.{CaptureEnding}
use Rattle.fg_pcap.specs.declared.ending.CaptureEnding.TheVariants as ending
use Rattle.fg_pcap.specs.Capture.{IsRefused}
use Rattle.fg_pcap.specs.FromCapture.{ComesTo, Converts, ConvertsPart, LeavesNothing, ReachesFor}
use Rattle.fg_pcap.specs.Laws.{OneCapture}
use Rattle.fg_pcap.specs.ReadFor.{IsReadFor, ending_of}
use Rattle.fg_commands.specs.declared.ended.Why.{Why}
use Rattle.fg_commands.specs.declared.ended.Why.TheVariants as why
use Rattle.fg_commands.specs.Ended.{IsFault}
use Rattle.fg_commands.specs.Endings.{why_of_came, why_of_capture}
use Rattle.fg_commands.specs.Filter.{FilterAnswered, filter}
use Rattle.fg_commands.specs.FromCapture.{IsCaptureAnswer, IsNoCapture, from_capture}
use Rattle.fg_commands.specs.Traces.{EndsTrace}
use Rattle.fg_commands.proofs.Came.{Endings, came_answered, came_lawful, ends_not, fault_is_no_end}
use Rattle.fg_commands.proofs.Captured.{told, unread}
use Rattle.fg_commands.proofs.Lawful.{Lawful}
use Rattle.fg_commands.proofs.Traces.{no_end}

each : (end : CaptureEnding) → (IsFault (why_of_capture end) → ⊥) × (EndsTrace (why_of_capture end) → LeavesNothing end)
each ending.Ended = (λ fault. fault, λ h. tt)
each (ending.Cut n) = (λ fault. fault, λ h. tt)
each (ending.NotCapture n) = (λ fault. fault, ends_not why.Cut (why.NotCapture n) (λ e. let a = e in cc) (λ m e. let a = e in cc))
each (ending.TooLong n) = (λ fault. fault, ends_not why.Cut (why.TooLong n) (λ e. let a = e in cc) (λ m e. let a = e in cc))

endings : Endings why_of_capture EndsTrace LeavesNothing
endings = record { each = each; no_end = fault_is_no_end why.Cut (λ n fault. fault) }

-- the answer that is due is told
due_told : (max : ℕ) (came : Result CaptureEnding Fault) (input : Option (List ℕ))
    → IfOk came (λ end. IfSome input (λ bytes. (trace : List ℕ) (due : CaptureEnding) → ComesTo bytes max trace due → end ≡ due))
    → IfOk came (λ end. IfSome input (λ bytes. (due : Why) → IsCaptureAnswer max bytes due → why_of_capture end ≡ due))
due_told max (Err f) input h = tt
due_told max (Ok end) None h = tt
due_told max (Ok end) (Some bytes) h = λ due k. ap why_of_capture (h k.0 k.1 k.2) ∙ sym k.3

pub one_answer : OneCapture → (max : ℕ) (bytes : List ℕ) (one other : Why) → IsCaptureAnswer max bytes one → IsCaptureAnswer max bytes other → one ≡ other
one_answer law max bytes one other h k =
    h.3 ∙ ap why_of_capture (law bytes max h.0 k.0 h.1 k.1 h.2 k.2).1 ∙ sym k.3

refused : (max : ℕ) (first : Option (List ℕ)) (P : Type 0) → IfSome first (λ bytes. (end : CaptureEnding) → IsRefused bytes max end → P)
    → IfSome first (λ bytes. IsNoCapture max bytes → P)
refused max None P h = tt
refused max (Some bytes) P h = λ no. h no.0 no.1

pub answered : {S K : Type 0} {left : S → Option (List ℕ)} {input_faults : S → ℕ} {input input' : S}
    {written : K → Option (List ℕ)} {out_faults : K → ℕ} {out out' : K}
    → (max : ℕ) (came : Result CaptureEnding Fault)
    → IfOk came (λ end. Converts max end (left input) (written out) (written out'))
    → IfOk came (λ end. IfSome (left input) (λ bytes. (trace : List ℕ) (due : CaptureEnding) → ComesTo bytes max trace due → end ≡ due))
    → IfOk came (λ end. LeavesNothing end → IsAtEnd (left input'))
    → IfSome (left input) (λ bytes. IsReadFor (ReachesFor max) max (ending_of came) bytes (left input'))
    → IfSome (left input) (λ bytes. (end : CaptureEnding) → IsRefused bytes max end → out' ≡ out)
    → OnErr came (ConvertsPart max (left input) (written out) (written out'))
    → Counts came ((input_faults input, input_faults input') ∷ []) ((out_faults out, out_faults out') ∷ [])
    → FilterAnswered (from_capture max) (why_of_came why_of_capture came) left input_faults input input' written out_faults out out'
answered max came all due leaves far none left_part faults =
    came_answered why_of_capture (IsCaptureAnswer max) (Converts max) (ConvertsPart max) (IsReadFor (ReachesFor max) max) EndsTrace (IsNoCapture max) LeavesNothing
    endings came (ending_of came) (told came) all (due_told max came _ due) leaves far (refused max _ _ none) left_part faults

-- where nothing was converted, what is written is a part, as it was
none_written : NoneIsPart → (max : ℕ) (input written : Option (List ℕ)) → ConvertsPart max input written written
none_written none max None written = tt
none_written none max (Some bytes) written = λ trace end is. none written trace

pub lawful : NoneIsPart → (max : ℕ) → Lawful (filter (from_capture max))
lawful none max =
    came_lawful why_of_capture (IsCaptureAnswer max) (Converts max) (ConvertsPart max) (IsReadFor (ReachesFor max) max) EndsTrace (IsNoCapture max) (none_written none max) (unread (ReachesFor max) max) no_end
