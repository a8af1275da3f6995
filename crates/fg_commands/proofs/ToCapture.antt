-- The answer of a command that writes a trace as a capture, as the program's.
use Rattle.std.proofs.Common.{◌≡◌, inl, inr, ℕ, Option, None, Some, IfSome, IfOk, OnErr, Result, Ok, Err, List, [], ◌∷◌, refl, ap, sym, ◌∙◌}
use Rattle.std.specs.Io.KnownBytes.{IsAtEnd}
use Rattle.fg_io.specs.declared.fault.Fault.{Fault}
use Rattle.fg_io.specs.Faults.{Counts}
use Rattle.fg_io.specs.Laws.{NoneIsPart}
use Rattle.fg_trace.specs.Trace.{Record, NotTrace as NoMagic, IsTrace}
use Rattle.fg_pcap.specs.declared.writer.SpellingEnding.{SpellingEnding}
use Rattle.fg_pcap.specs.declared.writer.SpellingEnding.TheVariants as ending
use Rattle.fg_pcap.specs.Laws.{OneSpelling}
use Rattle.fg_pcap.specs.ReadFor.{IsReadFor, ending_of}
use Rattle.fg_pcap.specs.ToCapture.{ComesBack, IsSpelled, LeavesNothing, ReachesFor, Spells, SpellsPart, WritesCapture, text_of}
use Rattle.fg_commands.specs.declared.ended.Why.{Why}
use Rattle.fg_commands.specs.declared.ended.Why.TheVariants as why
use Rattle.fg_commands.specs.Ended.{IsFault}
use Rattle.fg_commands.specs.Endings.{why_of_came, why_of_spelling}
use Rattle.fg_commands.specs.Filter.{FilterAnswered, filter}
use Rattle.fg_commands.specs.ToCapture.{CaptureComesBack, IsSpellingAnswer, to_capture}
use Rattle.fg_commands.specs.Traces.{EndsTrace, IsNoTrace}
use Rattle.fg_commands.proofs.Came.{Endings, came_answered, ends_not, fault_is_no_end}
use Rattle.fg_commands.proofs.Captured.{told, unread}
use Rattle.fg_commands.proofs.Filters.{also_answered, filter_lawful}
use Rattle.fg_commands.proofs.Lawful.{Lawful}
use Rattle.fg_commands.proofs.Told.{is_fault}
use Rattle.fg_commands.proofs.Traces.{no_end, refused}

each : (end : SpellingEnding) → (IsFault (why_of_spelling end) → ⊥) × (EndsTrace (why_of_spelling end) → LeavesNothing end)
each ending.Done = (λ fault. fault, λ h. tt)
each (ending.Cut n) = (λ fault. fault, λ h. tt)
each (ending.NotTrace n) = (λ fault. fault, ends_not why.Cut (why.NotTrace n) (λ e. let a = e in cc) (λ m e. let a = e in cc))
each (ending.Unfit k) = (λ fault. fault, ends_not why.Cut (why.Unfit k) (λ e. let a = e in cc) (λ m e. let a = e in cc))
each (ending.TooLong n) = (λ fault. fault, ends_not why.Cut (why.TooLong n) (λ e. let a = e in cc) (λ m e. let a = e in cc))

endings : Endings why_of_spelling EndsTrace LeavesNothing
endings = record { each = each; no_end = fault_is_no_end why.Cut (λ n fault. fault) }

-- the answer that is due is told
due_told : (max : ℕ) (came : Result SpellingEnding Fault) (input : Option (List ℕ))
    → IfOk came (λ end. IfSome input (λ bytes. (due : SpellingEnding) (records : List Record) → IsSpelled due bytes max records → end ≡ due))
    → IfOk came (λ end. IfSome input (λ bytes. (due : Why) → IsSpellingAnswer max bytes due → why_of_spelling end ≡ due))
due_told max (Err f) input h = tt
due_told max (Ok end) None h = tt
due_told max (Ok end) (Some bytes) h = λ due k. ap why_of_spelling (h k.0 k.1 k.2) ∙ sym k.3

pub one_answer : OneSpelling → (max : ℕ) (bytes : List ℕ) (one other : Why) → IsSpellingAnswer max bytes one → IsSpellingAnswer max bytes other → one ≡ other
one_answer law max bytes one other h k =
    h.3 ∙ ap why_of_spelling (law bytes max h.1 k.1 h.0 k.0 h.2 k.2).1 ∙ sym k.3

comes_back : (max : ℕ) (came : Result SpellingEnding Fault) (first before after : Option (List ℕ))
    → IfOk came (λ end. IfSome first (λ bytes. WritesCapture end → ComesBack max end bytes before after))
    → IfSome first (λ bytes. CaptureComesBack max (why_of_came why_of_spelling came) bytes before after)
comes_back max came None before after h = tt
comes_back max (Ok end) (Some bytes) before after h = inr (end, refl, h)
comes_back max (Err f) (Some bytes) before after h = inl (is_fault f)

pub answered : {S K : Type 0} {left : S → Option (List ℕ)} {input_faults : S → ℕ} {input input' : S}
    {written : K → Option (List ℕ)} {out_faults : K → ℕ} {out out' : K}
    → (max : ℕ) (came : Result SpellingEnding Fault)
    → IfOk came (λ end. Spells max end (left input) (written out) (written out'))
    → IfOk came (λ end. IfSome (left input) (λ bytes. (due : SpellingEnding) (records : List Record) → IsSpelled due bytes max records → end ≡ due))
    → IfOk came (λ end. LeavesNothing end → IsAtEnd (left input'))
    → IfOk came (λ end. IfSome (left input) (λ bytes. WritesCapture end → ComesBack max end bytes (written out) (written out')))
    → IfSome (left input) (λ bytes. IsReadFor (ReachesFor max) max (ending_of came) bytes (left input'))
    → IfSome (left input) (λ bytes. (place : ℕ) → IsTrace bytes max [] (NoMagic place) → out' ≡ out)
    → OnErr came (SpellsPart max (left input) (written out) (written out'))
    → Counts came ((input_faults input, input_faults input') ∷ []) ((out_faults out, out_faults out') ∷ [])
    → FilterAnswered (to_capture max) (why_of_came why_of_spelling came) left input_faults input input' written out_faults out out'
answered max came all due leaves back far none left_part faults =
    also_answered _ _ _
    (came_answered why_of_spelling (IsSpellingAnswer max) (Spells max) (SpellsPart max) (IsReadFor (ReachesFor max) max) EndsTrace (IsNoTrace max) LeavesNothing
    endings came (ending_of came) (told came) all (due_told max came _ due) leaves far (refused max _ _ none) left_part faults)
    (comes_back max came _ _ _ back)

-- where nothing was written, what is written is a part, as it was, and nothing need come back
none_written : NoneIsPart → (max : ℕ) (input written : Option (List ℕ)) → SpellsPart max input written written
none_written none max None written = tt
none_written none max (Some bytes) written = λ end records is. none written (text_of end records)

none_back : (max : ℕ) (input written : Option (List ℕ)) → IfSome input (λ bytes. CaptureComesBack max why.Memory bytes written written)
none_back max None written = tt
none_back max (Some bytes) written = inl tt

pub lawful : NoneIsPart → (max : ℕ) → Lawful (filter (to_capture max))
lawful none max = filter_lawful (to_capture max) (none_written none max) (none_back max) (λ bytes. inl (tt, unread (ReachesFor max) max bytes)) no_end
