-- A command whose call comes to an ending of its input, or to a fault.
use Rattle.std.proofs.Common.{◌≡◌, ◌⊎◌, inl, inr, ℕ, Option, None, Some, IfSome, IfOk, IfErr, OnErr, Result, Ok, Err, List, [], ◌∷◌, refl, subst}
use Rattle.std.specs.Io.KnownBytes.{IsAtEnd}
use Rattle.fg_io.specs.declared.fault.Fault.{Fault}
use Rattle.fg_io.specs.Faults.{Counts}
use Rattle.fg_io.specs.Texts.{Texts}
use Rattle.fg_commands.specs.declared.ended.Ended.{Ended}
use Rattle.fg_commands.specs.declared.ended.Why.{Why}
use Rattle.fg_commands.specs.declared.ended.Why.TheVariants as why
use Rattle.fg_commands.specs.Ended.{IsFault, status_of}
use Rattle.fg_commands.specs.Endings.{IsDoneOr, ReadsAs, why_of_came, why_of_fault}
use Rattle.fg_commands.specs.Filter.{Filter, FilterAnswered, FilterEnded, filter, of_ends}
use Rattle.fg_commands.proofs.Filters.{ended_so, filter_lawful}
use Rattle.fg_commands.proofs.Lawful.{Lawful}
use Rattle.fg_commands.proofs.Told.{came_all_read, came_exactly, came_part, came_tells, came_whole, counts, is_fault}

-- How its endings are answered: none as a fault, and as one after which all was read only where all was.
pub record Endings {E : Type 0} (why_of : E → Why) (reads_all : Why → Type 0) (Leaves : E → Type 0) : Type 0 where
  pub each : (end : E) → (IsFault (why_of end) → ⊥) × (reads_all (why_of end) → Leaves end)
  pub no_end : (f : Fault) → reads_all (why_of_fault f) → ⊥

-- no fault is an answer that all was done
pub fault_is_no_end : (other : ℕ → Why) → ((n : ℕ) → IsFault (other n) → ⊥) → (f : Fault) → IsDoneOr other (why_of_fault f) → ⊥
fault_is_no_end other none f (inl e) = subst (λ (a : Why). IsFault a) e (is_fault f)
fault_is_no_end other none f (inr e) = none e.0 (subst (λ (a : Why). IsFault a) e.1 (is_fault f))

-- an answer that is neither is none of them
pub ends_not : {P : Type 0} (other : ℕ → Why) (answer : Why) → (answer ≡ why.Done → ⊥) → ((n : ℕ) → answer ≡ other n → ⊥) → IsDoneOr other answer → P
ends_not other answer done not (inl e) = absurd (done e)
ends_not other answer done not (inr e) = absurd (not e.0 e.1)

-- the ending that such a call tells
abbrev pub HasTold : {E : Type 0} → Result E Fault → Option E → Type 0
HasTold (Ok end) told = told ≡ Some end
HasTold (Err f) told = told ≡ None

reads : {E : Type 0} (why_of : E → Why) (read : Option E → List ℕ → Option (List ℕ) → Type 0) (came : Result E Fault) (told : Option E) (input now : Option (List ℕ))
    → HasTold came told → IfSome input (λ bytes. read told bytes now) → IfSome input (λ bytes. ReadsAs why_of read (why_of_came why_of came) bytes now)
reads why_of read came told None now is h = tt
reads {E} why_of read (Ok end) told (Some bytes) now is h = inr (end, refl, subst (λ (t : Option E). read t bytes now) is h)
reads {E} why_of read (Err f) told (Some bytes) now is h = inl (is_fault f, subst (λ (t : Option E). read t bytes now) is h)

exactly : {E : Type 0} (why_of : E → Why) (is_answer : List ℕ → Why → Type 0) (came : Result E Fault) (input : Option (List ℕ))
    → IfOk came (λ end. IfSome input (λ bytes. (due : Why) → is_answer bytes due → why_of end ≡ due))
    → IfSome input (λ bytes. (due : Why) → is_answer bytes due → IsFault (why_of_came why_of came) ⊎ (why_of_came why_of came ≡ due))
exactly why_of is_answer came None h = tt
exactly why_of is_answer came (Some bytes) h = λ due k.
    came_exactly why_of came due (λ end. (d : Why) → is_answer bytes d → why_of end ≡ d) h (λ end same. same due k)

pub came_answered : {E S K : Type 0} {left : S → Option (List ℕ)} {input_faults : S → ℕ} {input input' : S}
    {written : K → Option (List ℕ)} {out_faults : K → ℕ} {out out' : K}
    → (why_of : E → Why) (is_answer : List ℕ → Why → Type 0) (gained : E → Texts) (part : Texts)
    (read : Option E → List ℕ → Option (List ℕ) → Type 0) (reads_all : Why → Type 0) (is_no_input : List ℕ → Type 0) (Leaves : E → Type 0)
    → Endings why_of reads_all Leaves → (came : Result E Fault) (told : Option E) → HasTold came told
    → IfOk came (λ end. gained end (left input) (written out) (written out'))
    → IfOk came (λ end. IfSome (left input) (λ bytes. (due : Why) → is_answer bytes due → why_of end ≡ due))
    → IfOk came (λ end. Leaves end → IsAtEnd (left input'))
    → IfSome (left input) (λ bytes. read told bytes (left input'))
    → IfSome (left input) (λ bytes. is_no_input bytes → out' ≡ out)
    → OnErr came (part (left input) (written out) (written out'))
    → Counts came ((input_faults input, input_faults input') ∷ []) ((out_faults out, out_faults out') ∷ [])
    → FilterAnswered (of_ends why_of is_answer gained part (ReadsAs why_of read) reads_all is_no_input) (why_of_came why_of came) left input_faults input input' written out_faults out out'
came_answered why_of is_answer gained part read reads_all is_no_input Leaves e came told is all due leaves far none left_part faults = record {
  whole = came_whole why_of came _ all;
  exactly = exactly why_of is_answer came _ due;
  comes_back = tt;
  part = came_part why_of (λ end. (e.each end).0) came _ left_part;
  no_report = λ last e. absurd last;
  reads = reads why_of read came told _ _ is far;
  all_read = came_all_read why_of reads_all Leaves _ came (λ end. (e.each end).1) e.no_end leaves;
  refused = none;
  faults = counts (came_tells why_of (λ end. (e.each end).0)) came faults;
}

-- what want of memory may leave
pub came_lawful : {E : Type 0} (why_of : E → Why) (is_answer : List ℕ → Why → Type 0) (gained : E → Texts) (part : Texts)
    (read : Option E → List ℕ → Option (List ℕ) → Type 0) (reads_all : Why → Type 0) (is_no_input : List ℕ → Type 0)
    → ((input written : Option (List ℕ)) → part input written written) → ((bytes : List ℕ) → read None bytes (Some bytes)) → (reads_all why.Memory → ⊥)
    → Lawful (filter (of_ends why_of is_answer gained part (ReadsAs why_of read) reads_all is_no_input))
came_lawful why_of is_answer gained part read reads_all is_no_input none unread no_end =
    filter_lawful (of_ends why_of is_answer gained part (ReadsAs why_of read) reads_all is_no_input) none (λ input written. tt) (λ bytes. inl (tt, unread bytes)) no_end

-- the answer that a call comes to
why_by : {E : Type 0} (why_of : E → Why) (came : Result E Fault) (answer : Why) → IfOk came (λ end. answer ≡ why_of end) → IfErr came (λ f. answer ≡ why_of_fault f)
    → answer ≡ why_of_came why_of came
why_by why_of (Ok end) answer h k = h
why_by why_of (Err f) answer h k = k

-- a call that has ended with it
pub came_so : {E S K : Type 0} {does : Filter} {left : S → Option (List ℕ)} {input_faults : S → ℕ} {input input' : S}
    {written : K → Option (List ℕ)} {out_faults : K → ℕ} {out out' : K}
    → (why_of : E → Why) (came : Result E Fault) (ended : Ended) → ended.status ≡ status_of ended.why
    → IfOk came (λ end. ended.why ≡ why_of end) → IfErr came (λ f. ended.why ≡ why_of_fault f)
    → FilterAnswered does (why_of_came why_of came) left input_faults input input' written out_faults out out'
    → FilterEnded does ended left input_faults input input' written out_faults out out'
came_so why_of came ended status h k answered = ended_so ended ended.why _ status refl (why_by why_of came ended.why h k) answered
