-- The answer of a command that reads a trace, as the program's.
use Rattle.std.proofs.Common.{◌≡◌, ◌⊎◌, inl, inr, ℕ, Option, None, Some, IfSome, List, [], ◌∷◌, refl, sym, ap, ◌∙◌, arith}
use Rattle.std.specs.Io.KnownBytes.{IsAtEnd}
use Rattle.fg_io.specs.Faults.{CountsFaults}
use Rattle.fg_trace.specs.declared.step.Finish.{Finish}
use Rattle.fg_trace.specs.declared.step.Finish.TheVariants as finish
use Rattle.fg_trace.specs.Finish.{IsFault as IsFinishFault, ReadsAll, finish_of}
use Rattle.fg_trace.specs.Laws.{OneTrace}
use Rattle.fg_trace.specs.Reading.{IsReadFor}
use Rattle.fg_trace.specs.Trace.{Record, Ending, Ended, NotTrace, Cut, TooLong, IsTrace}
use Rattle.fg_commands.specs.declared.ended.Why.{Why}
use Rattle.fg_commands.specs.declared.ended.Why.TheVariants as why
use Rattle.fg_commands.specs.Ended.{IsFault}
use Rattle.fg_commands.specs.Endings.{why_of_ending, why_of_finish}
use Rattle.fg_commands.specs.Filter.{FilterAnswered, filter, of_trace}
use Rattle.fg_commands.specs.Traces.{EndsTrace, IsNoTrace, IsTraceAnswer, ReadsTrace}
use Rattle.fg_commands.proofs.Filters.{filter_lawful}
use Rattle.fg_commands.proofs.Lawful.{Lawful}
use Rattle.fg_commands.proofs.Told.{counts, ends_by, finish_tells, whole}

pub same_why : (end : Ending) → why_of_finish (finish_of end) ≡ why_of_ending end
same_why Ended = refl
same_why (NotTrace n) = refl
same_why (Cut n) = refl
same_why (TooLong n) = refl

-- the answer to a trace
due_of : (answer : Finish) (end : Ending) (due : Why) → IsFinishFault answer ⊎ (answer ≡ finish_of end) → due ≡ why_of_ending end
    → IsFault (why_of_finish answer) ⊎ (why_of_finish answer ≡ due)
due_of answer end due (inl fault) is = inl (finish_tells.is_fault answer fault)
due_of answer end due (inr same) is = inr (ap why_of_finish same ∙ same_why end ∙ sym is)

pub exactly : (max : ℕ) (answer : Finish) (input : Option (List ℕ))
    → IfSome input (λ bytes. (records : List Record) (end : Ending) → IsTrace bytes max records end → IsFinishFault answer ⊎ (answer ≡ finish_of end))
    → IfSome input (λ bytes. (due : Why) → IsTraceAnswer max bytes due → IsFault (why_of_finish answer) ⊎ (why_of_finish answer ≡ due))
exactly max answer None h = tt
exactly max answer (Some bytes) h = λ due k. due_of answer k.1 due (h k.0 k.1 k.2) k.3

pub one_answer : OneTrace → (max : ℕ) (bytes : List ℕ) (one other : Why) → IsTraceAnswer max bytes one → IsTraceAnswer max bytes other → one ≡ other
one_answer law max bytes one other h k =
    h.3 ∙ ap why_of_ending (law bytes max h.0 k.0 h.1 k.1 h.2 k.2).1 ∙ sym k.3

-- how far it is read
pub reads_trace : (max : ℕ) (answer : Finish) (first now : Option (List ℕ)) → IfSome first (λ bytes. IsReadFor max answer bytes now) → IfSome first (λ bytes. ReadsTrace max (why_of_finish answer) bytes now)
reads_trace max answer None now h = tt
reads_trace max answer (Some bytes) now h = (answer, refl, h)

ends : (answer : Finish) → ReadsAll answer ⊎ ((why_of_finish answer ≡ why.Done → ⊥) × ((n : ℕ) → why_of_finish answer ≡ why.Cut n → ⊥))
ends finish.Done = inl tt
ends (finish.Cut n) = inl tt
ends finish.ReadFault = inr (λ e. let a = e in cc, λ n e. let a = e in cc)
ends finish.WriteFault = inr (λ e. let a = e in cc, λ n e. let a = e in cc)
ends (finish.NotTrace n) = inr (λ e. let a = e in cc, λ n e. let a = e in cc)
ends (finish.TooLong n) = inr (λ e. let a = e in cc, λ n e. let a = e in cc)
ends finish.Memory = inr (λ e. let a = e in cc, λ n e. let a = e in cc)

pub reads_all : (answer : Finish) → EndsTrace (why_of_finish answer) → ReadsAll answer
reads_all = ends_by why_of_finish ReadsAll ends

-- what is no trace makes nothing
pub refused : (max : ℕ) (input : Option (List ℕ)) (P : Type 0) → IfSome input (λ bytes. (place : ℕ) → IsTrace bytes max [] (NotTrace place) → P)
    → IfSome input (λ bytes. IsNoTrace max bytes → P)
refused max None P h = tt
refused max (Some bytes) P h = λ no. h no.0 no.1

-- a filter of traces
pub trace_answered : {S K : Type 0} {left : S → Option (List ℕ)} {input_faults : S → ℕ} {input input' : S}
    {written : K → Option (List ℕ)} {out_faults : K → ℕ} {out out' : K}
    → (max : ℕ) (gained : Finish → Option (List ℕ) → Option (List ℕ) → Option (List ℕ) → Type 0)
    (part : Option (List ℕ) → Option (List ℕ) → Option (List ℕ) → Type 0) (answer : Finish)
    → IsFinishFault answer ⊎ gained answer (left input) (written out) (written out')
    → IfSome (left input) (λ bytes. (records : List Record) (end : Ending) → IsTrace bytes max records end → IsFinishFault answer ⊎ (answer ≡ finish_of end))
    → (ReadsAll answer → IsAtEnd (left input'))
    → IfSome (left input) (λ bytes. IsReadFor max answer bytes (left input'))
    → IfSome (left input) (λ bytes. (place : ℕ) → IsTrace bytes max [] (NotTrace place) → out' ≡ out)
    → (IsFinishFault answer → part (left input) (written out) (written out'))
    → CountsFaults (answer ≡ finish.ReadFault) (answer ≡ finish.WriteFault) ((input_faults input, input_faults input') ∷ []) ((out_faults out, out_faults out') ∷ [])
    → FilterAnswered (of_trace max gained part) (why_of_finish answer) left input_faults input input' written out_faults out out'
trace_answered max gained part answer all is leaves reads none left_part faults = record {
  whole = whole finish_tells answer _ all;
  exactly = exactly max answer _ is;
  comes_back = tt;
  part = λ fault. left_part (finish_tells.fault_of answer fault);
  no_report = λ last e. absurd last;
  reads = reads_trace max answer _ _ reads;
  all_read = λ h. leaves (reads_all answer h);
  refused = refused max _ _ none;
  faults = counts finish_tells answer faults;
}

-- what want of memory may leave of a trace
pub unread : (max : ℕ) (bytes : List ℕ) → ReadsTrace max why.Memory bytes (Some bytes)
unread max bytes = (finish.Memory, refl, record { read = []; rest = bytes; now_is = refl; all = refl; reaches = tt; bounded = omega arith })

pub no_end : EndsTrace why.Memory → ⊥
no_end (inl e) = let a = e in cc
no_end (inr e) = let a = e.1 in cc

pub trace_lawful : (max : ℕ) (gained : Finish → Option (List ℕ) → Option (List ℕ) → Option (List ℕ) → Type 0)
    (part : Option (List ℕ) → Option (List ℕ) → Option (List ℕ) → Type 0)
    → ((input written : Option (List ℕ)) → part input written written) → Lawful (filter (of_trace max gained part))
trace_lawful max gained part none = filter_lawful (of_trace max gained part) none (λ input written. tt) (unread max) no_end
