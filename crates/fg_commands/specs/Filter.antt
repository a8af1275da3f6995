-- Commands that read one text and write one: they make no lane. This project's own.
use Rattle.std.specs.Prelude.{◌≡◌, ◌⊎◌, ◌∷◌, [], ℕ, List, Option, IfSome, ⊤}
use Rattle.std.specs.Io.KnownBytes.{IsAtEnd}
use Rattle.fg_io.specs.Faults.{CountsFaults}
use Rattle.fg_io.specs.Texts.{Texts}
use Rattle.fg_trace.specs.declared.step.Finish.{Finish}
use Rattle.fg_encode.specs.Stream.{StreamEnding}
use Rattle.fg_commands.specs.declared.ended.Ended.{Ended}
use Rattle.fg_commands.specs.declared.ended.Why.{Why}
use Rattle.fg_commands.specs.declared.ended.Why.TheVariants as why
use Rattle.fg_commands.specs.Behaviour.{Behaviour}
use Rattle.fg_commands.specs.Ended.{IsFault, status_of}
use Rattle.fg_commands.specs.Endings.{why_of_finish, why_of_stream}
use Rattle.fg_commands.specs.Streams.{EndsStream, IsStreamAnswer, ReadsStream}
use Rattle.fg_commands.specs.Traces.{EndsTrace, IsNoTrace, IsTraceAnswer, ReadsTrace}

-- What such a command is for. Its fields say of the text what those of a behaviour say of all outputs.
pub record Filter : Type 1 where
  pub is_answer : List ℕ → Why → Type 0
  pub gains : Why → Texts
  pub part : Texts
  pub comes_back : Why → Texts
  pub reads : Why → List ℕ → Option (List ℕ) → Type 0
  pub reads_all : Why → Type 0
  pub is_no_input : List ℕ → Type 0
  pub writes_last : Type 0

-- Its behaviour.
abbrev pub filter : Filter → Behaviour
filter does = record {
  is_answer = does.is_answer;
  gains = λ answer input lanes lanes' written written'. (lanes' ≡ lanes) × does.gains answer input written written';
  part = λ {K} input lanes lanes' written out out'. (lanes' ≡ lanes) × does.part input (written out) (written out');
  stops = λ answer input lanes lanes'. lanes' ≡ lanes;
  at_read = λ input now lanes lanes'. ⊤;
  comes_back = λ answer input lanes lanes' written written'. does.comes_back answer input written written';
  reads = does.reads;
  reads_all = does.reads_all;
  may_have_failed_to_read = λ answer. answer ≡ why.ReadFault;
  is_no_input = does.is_no_input;
  reads_nothing = ⊥;
  writes_nothing = ⊥;
  makes_no_lane = ⊤;
  writes_last = does.writes_last;
}

-- A filter that writes as it reads, and whose calls end so: how each end is answered, which answers are due, what the sink has gained
-- at an end, what a fault leaves of that, how far the input is read, whether nothing is left of it, and which bytes aren't read.
abbrev pub of_ends : {E : Type 0} → (E → Why) → (List ℕ → Why → Type 0) → (E → Texts) → Texts
    → (Why → List ℕ → Option (List ℕ) → Type 0) → (Why → Type 0) → (List ℕ → Type 0) → Filter
of_ends {E} why_of is_answer gained part reads reads_all is_no_input = record {
  is_answer = is_answer;
  gains = λ answer input written written'. (end : E) × (answer ≡ why_of end) × gained end input written written';
  part = part;
  comes_back = λ answer input written written'. ⊤;
  reads = reads;
  reads_all = reads_all;
  is_no_input = is_no_input;
  writes_last = ⊥;
}

-- A filter of traces of at most so many bytes: what the sink has gained where it finishes so, and what a fault leaves of that.
abbrev pub of_trace : ℕ → (Finish → Texts) → Texts → Filter
of_trace max gained part = of_ends why_of_finish (IsTraceAnswer max) gained part (ReadsTrace max) EndsTrace (IsNoTrace max)

-- A filter of streams of at most so many bytes, cut into payloads of so many packets: what the sink has gained where the stream
-- ends so, and what a fault leaves of that.
abbrev pub of_stream : ℕ → ℕ → (StreamEnding → Texts) → Texts → Filter
of_stream packets max gained part = of_ends why_of_stream (IsStreamAnswer packets max) gained part (ReadsStream max) EndsStream (λ bytes. ⊥)

-- A filter of which this comes back too.
abbrev pub also_back : (Why → Texts) → Filter → Filter
also_back back does = record does { comes_back = back }

-- One that writes only once all of its input was read.
abbrev pub at_the_end : Filter → Filter
at_the_end does = record does { writes_last = ⊤ }

-- A call that ends with this answer has done what the filter is for. `input` is the source before it and `input'` after it, of which
-- `left` tells the bytes that it has left and `input_faults` how many faults it has counted. So it is with the sink, of which
-- `written` tells what it has.
pub record FilterAnswered {S K : Type 0}
    (does : Filter) (answer : Why)
    (left : S → Option (List ℕ)) (input_faults : S → ℕ) (input input' : S)
    (written : K → Option (List ℕ)) (out_faults : K → ℕ) (out out' : K) : Type 0 where
  -- Every answer but a fault's or want of memory's is that of the input's ending, and then all of the text before it is written.
  pub whole : IsFault answer ⊎ does.gains answer (left input) (written out) (written out')
  -- The answer that the command has over the bytes is told, and no other.
  pub exactly : IfSome (left input) (λ bytes. (due : Why) → does.is_answer bytes due → IsFault answer ⊎ (answer ≡ due))
  pub comes_back : does.comes_back answer (left input) (written out) (written out')
  -- After a fault or want of memory the text is a part, and after a fault of reading a filter that writes last has written none.
  pub part : IsFault answer → does.part (left input) (written out) (written out')
  pub no_report : does.writes_last → answer ≡ why.ReadFault → out' ≡ out
  -- The input is read as far as the answer needs, and at most a byte past the limit.
  pub reads : IfSome (left input) (λ bytes. does.reads answer bytes (left input'))
  pub all_read : does.reads_all answer → IsAtEnd (left input')
  -- Of an input that isn't what the command reads nothing is written, whatever the answer.
  pub refused : IfSome (left input) (λ bytes. does.is_no_input bytes → out' ≡ out)
  -- A fault of the outside is answered only where it was counted in this call, and with every other answer none was. No count
  -- falls.
  pub faults : CountsFaults (answer ≡ why.ReadFault) (answer ≡ why.WriteFault)
      ((input_faults input, input_faults input') ∷ []) ((out_faults out, out_faults out') ∷ [])

-- A call that has ended so has done what the filter is for with its answer, of which it has the status.
pub record FilterEnded {S K : Type 0}
    (does : Filter) (ended : Ended)
    (left : S → Option (List ℕ)) (input_faults : S → ℕ) (input input' : S)
    (written : K → Option (List ℕ)) (out_faults : K → ℕ) (out out' : K) : Type 0 where
  pub status : ended.status ≡ status_of ended.why
  pub answered : FilterAnswered does ended.why left input_faults input input' written out_faults out out'
